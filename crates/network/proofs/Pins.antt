-- The pins of a signal, as a list and one by one.
use Rattle.std.proofs.Common.{◌≡◌, ℕ, ◌<◌, Bool, true, List, length, get_or, sym, refl, ap, ◌∙◌, arith}
use Rattle.std.specs.List.{list_any}
use Rattle.std.proofs.lemmas.List.{get_or-take, length-take, get_or_read}
use Rattle.std.proofs.lemmas.List.Folds.{list_any_at, Any-from_list_any}
use Rattle.network.specs.Wiring.{number_of_pins, signal_at_pin, pins_of, driver, wires, feeder, feeders}
use Rattle.network.specs.declared.signal.Driver.{Driver}
use Rattle.network.specs.declared.signal.Driver.TheVariants.{Undriven, Input, Latched, Gated}
use Rattle.network.specs.declared.signal.Signal.{Signal}

length-pins_of : (d : Driver) → length (pins_of d) ≡ number_of_pins d
length-pins_of Undriven = refl
length-pins_of Input = refl
length-pins_of (Latched l) = refl
length-pins_of (Gated g) = omega (arith, length-take g.pin_count g.pins, g.few, g.wide)

pin_at : (d : Driver) (k : ℕ) → k < number_of_pins d → get_or (pins_of d) k 0 ≡ signal_at_pin d k
pin_at Undriven k l = absurd (omega arith)
pin_at Input k l = absurd (omega arith)
pin_at (Latched x) k l = absurd (omega arith)
pin_at (Gated g) k l = get_or-take g.pin_count g.pins k 0 l

pub length-feeders : (xs : List Signal) (s : ℕ) → length (feeders xs s) ≡ wires xs s
length-feeders xs s = length-pins_of (driver xs s)

pub feeder_at : (xs : List Signal) (s k : ℕ) → k < wires xs s → get_or (feeders xs s) k 0 ≡ feeder xs s k
feeder_at xs s k l = pin_at (driver xs s) k l

-- a test that one pin's signal passes, and a pin whose signal passes it
pub feeder_yes : (test : ℕ → Bool) (xs : List Signal) (s k : ℕ) → k < wires xs s → test (feeder xs s k) ≡ true → list_any test (feeders xs s) ≡ true
feeder_yes test xs s k l e =
    list_any_at test (feeders xs s) k 0 (omega (arith, l, length-feeders xs s)) (ap test (feeder_at xs s k l) ∙ e)

pub feeder_found : (test : ℕ → Bool) (xs : List Signal) (s : ℕ) → list_any test (feeders xs s) ≡ true → (k : ℕ) × (k < wires xs s) × (test (feeder xs s k) ≡ true)
feeder_found test xs s e =
    let f = Any-from_list_any test (feeders xs s) e in
    let l : f.0 < wires xs s = omega (arith, f.2, length-feeders xs s) in
    let is : f.1 ≡ feeder xs s f.0 = get_or_read (feeders xs s) f.0 f.1 f.2 (sym f.3) 0 ∙ feeder_at xs s f.0 l in
    (f.0, l, ap test (sym is) ∙ f.4)
