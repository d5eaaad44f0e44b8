-- What holds of the turns of every network.
use Rattle.std.proofs.Common.{arith}
use Rattle.std.specs.Prelude.{◌≡◌, ℕ, ◌<◌}
use Rattle.network.specs.Net.{signals, size, turn, signal_by_turn}
use Rattle.network.specs.Reach.{Wire}
use Rattle.network.specs.declared.network.Network.{Network}

-- every wire climbs in turn
abbrev pub WiresClimb : Network → Type 0
WiresClimb net = (u s : ℕ) → Wire (signals net) u s → turn net u < turn net s

-- the turns number the signals from 0 without gaps: each signal has one, and each turn a signal
abbrev pub TurnsNumber : Network → Type 0
TurnsNumber net =
    ((s : ℕ) → s < size net → (turn net s < size net) × (signal_by_turn net (turn net s) ≡ s))
    × ((t : ℕ) → t < size net → (signal_by_turn net t < size net) × (turn net (signal_by_turn net t) ≡ t))

-- and so they do
pub turns_numbered : (net : Network) → TurnsNumber net
turns_numbered net = (
  λ s l.
      let at = net.turns.numbered s (omega (arith, l, net.counted)) in
      (omega (arith, at.0, net.counted), at.1),
  λ t l.
      let at = net.turns.listed t (omega (arith, l, net.counted)) in
      (omega (arith, at.0, net.counted), at.1),
)
