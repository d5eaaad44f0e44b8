-- Marks on what is downstream of a gate.
use Rattle.std.specs.Prelude.{◌≡◌, ℕ, ◌<◌, Bool, true, not, List, ◌==◌, slice_index}
use Rattle.network.specs.Net.{signals, size, turn}
use Rattle.network.specs.Rewiring.{Downstream}
use Rattle.network.specs.declared.network.Network.{Network}

-- the cell of s has a mark: any number but 0
abbrev pub marked : List ℕ → ℕ → Bool
marked marks s = not (slice_index marks s == 0)

-- the marks stand on exactly the signals of the turns below t that are the gate or reached from it
pub record MarkedBelow (net : Network) (gate t : ℕ) (marks : List ℕ) : Type 0 where
  pub only : (s : ℕ) → marked marks s ≡ true → (s < size net) × (turn net s < t) × Downstream (signals net) gate s
  pub all : (s : ℕ) → s < size net → turn net s < t → Downstream (signals net) gate s → marked marks s ≡ true

-- the marks stand on exactly the signals that are the gate or reached from it
pub record MarksReached (net : Network) (gate : ℕ) (marks : List ℕ) : Type 0 where
  pub only : (s : ℕ) → marked marks s ≡ true → (s < size net) × Downstream (signals net) gate s
  pub all : (s : ℕ) → s < size net → Downstream (signals net) gate s → marked marks s ≡ true
