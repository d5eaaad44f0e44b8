-- A gate that is to read another signal at a pin.
use Rattle.std.specs.Prelude.{◌≡◌, ℕ, ◌≤◌, ◌⊎◌, List, slice_index_or, slice_set}
use Rattle.std.proofs.Common.{sym, subst, length-set}
use Rattle.network.specs.Net.{signals as signals_of}
use Rattle.network.specs.Reach.{Wire, Reaches, OnCycle}
use Rattle.network.specs.Wiring.{absent}
use Rattle.network.specs.declared.network.Network.{Network}
use Rattle.network.specs.declared.signal.Driver.{Driver}
use Rattle.network.specs.declared.signal.Driver.TheVariants.{Undriven, Input, Latched, Gated}
use Rattle.network.specs.declared.signal.Signal.{Signal}

-- s is the gate's own signal, or is reached from it by wires
abbrev pub Downstream : List Signal → (gate s : ℕ) → Type 0
Downstream xs gate s = (s ≡ gate) ⊎ Reaches (Wire xs) gate s

-- a driver with the feeder at the pin, if it is a gate
abbrev pub rewired_driver : Driver → (pin feeder : ℕ) → Driver
rewired_driver Undriven pin feeder = Undriven
rewired_driver Input pin feeder = Input
rewired_driver (Latched l) pin feeder = Latched l
rewired_driver (Gated g) pin feeder =
    Gated
    (record {
      pins = slice_set g.pins pin feeder;
      pin_count = g.pin_count;
      matched = g.matched;
      last_word = g.last_word;
      few = g.few;
      wide = subst (λ n. 4 ≤ n) (sym (length-set g.pins pin feeder)) g.wide;
    })

-- the same of a signal, of which all else is kept
abbrev pub rewired : Signal → (pin feeder : ℕ) → Signal
rewired x pin feeder = record { name = x.name; driver = rewired_driver x.driver pin feeder; output = x.output; captured = x.captured }

-- the same of one of the signals
abbrev pub rewired_at : List Signal → (gate pin feeder : ℕ) → List Signal
rewired_at xs gate pin feeder = slice_set xs gate (rewired (slice_index_or xs gate absent) pin feeder)

-- the feeder is not downstream of the gate, and is at the pin
pub record Accepted (before after : Network) (gate pin feeder : ℕ) : Type 0 where
  pub apart : Downstream (signals_of before) gate feeder → ⊥
  pub signals : signals_of after ≡ rewired_at (signals_of before) gate pin feeder

-- the feeder is downstream of the gate, which would have been on a cycle; nothing has changed
pub record Refused (before after : Network) (gate pin feeder : ℕ) : Type 0 where
  pub reached : Downstream (signals_of before) gate feeder
  pub same : after ≡ before
  pub cyclic : OnCycle (rewired_at (signals_of before) gate pin feeder) gate
