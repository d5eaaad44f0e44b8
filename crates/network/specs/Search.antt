-- The search for what leads to a signal.
use Rattle.std.specs.Prelude.{◌≡◌, ℕ, ◌<◌, ◌≤◌, Bool, true, false, not, ◌⊎◌, List, count_by, slice_index_or}
use Rattle.network.specs.Reach.{Wire, Reaches}
use Rattle.network.specs.Wiring.{wires, feeder}
use Rattle.network.specs.declared.signal.Signal.{Signal}

-- the signal s has a mark
abbrev pub marked : List Bool → ℕ → Bool
marked marks s = slice_index_or marks s false

-- how many cells have none
abbrev pub unmarked : List Bool → ℕ
unmarked marks = count_by not marks

-- marks were added on signals that lead to s, and on all that lead to its first pins without passing an older mark
pub record Searched (xs : List Signal) (s pins : ℕ) (before after : List Bool) : Type 0 where
  pub kept : (u : ℕ) → marked before u ≡ true → marked after u ≡ true
  pub only : (u : ℕ) → marked after u ≡ true → (marked before u ≡ true) ⊎ Reaches (Wire xs) u s
  pub fed : (k : ℕ) → k < pins → marked after (feeder xs s k) ≡ true
  pub closed : (u k : ℕ) → marked after u ≡ true → k < wires xs u → (marked before u ≡ true) ⊎ (marked after (feeder xs u k) ≡ true)
  pub fewer : unmarked after ≤ unmarked before
