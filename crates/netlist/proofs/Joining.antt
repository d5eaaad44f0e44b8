-- Cycles among the signals that a text describes are those of the network's signals.
use Rattle.std.proofs.Common.{◌≡◌, ℕ, zero, suc, ◌<◌, List, [], ◌∷◌, length, get_or, Ok, Err, sym, refl, ap, ◌∙◌, subst, arith, length-take-le, get_or-take}
use Rattle.fault.specs.declared.cause.Cause.TheVariants.{Cycle}
use Rattle.network.specs.Build.{Built}
use Rattle.network.specs.Reach as net
use Rattle.network.specs.Reach.{Reaches, wire, further}
use Rattle.network.specs.Wiring.{absent, driver, number_of_pins, signal_at_pin}
use Rattle.network.specs.declared.cyclic.Cyclic.{Cyclic}
use Rattle.network.specs.declared.network.Network.{Network}
use Rattle.network.specs.declared.span.Span.{Span}
use Rattle.network.specs.declared.signal.Driver.{Driver}
use Rattle.network.specs.declared.signal.Driver.TheVariants.{Undriven, Input, Latched, Gated}
use Rattle.network.specs.declared.signal.Signal.{Signal}
use Rattle.netlist.specs.declared.netlist_fault.NetlistFault.TheVariants.{OfNetlist}
use Rattle.netlist.specs.Cycles.{pins_of, pins_at, Wire, LowestOnCycle, Acyclic, Closes, network_on}
use Rattle.netlist.specs.Faults.{fault}
use Rattle.netlist.specs.Reading.{netlist}
use Rattle.netlist.specs.Signals.{no_signal}
use Rattle.netlist.specs.Views.{driver_on, signals_on}

-- what is reached stays reached where each wire of the one is a wire of the other
reached : {V W : ℕ → ℕ → Type 0} → ((u s : ℕ) → V u s → W u s) → {u s : ℕ} → Reaches V u s → Reaches W u s
reached f (wire w) = wire (f _ _ w)
reached f (further r w) = further (reached f r) (f _ _ w)

module _ (text : List ℕ) where
  driver_same : (xs : List Signal) (s : ℕ) → (get_or (signals_on text xs) s no_signal).driver ≡ driver_on text (driver xs s)
  driver_same [] s = refl
  driver_same (x ∷ xs) zero = refl
  driver_same (x ∷ xs) (suc s) = driver_same xs s

  pub place_on : (xs : List Signal) (s : ℕ) → (get_or (signals_on text xs) s no_signal).name.place ≡ (get_or xs s absent).name.at
  place_on [] s = refl
  place_on (x ∷ xs) zero = refl
  place_on (x ∷ xs) (suc s) = place_on xs s

  count_on : (d : Driver) → length (pins_of (driver_on text d)) ≡ number_of_pins d
  count_on Undriven = refl
  count_on Input = refl
  count_on (Latched l) = refl
  count_on (Gated g) = length-take-le g.pin_count g.pins (omega (arith, g.few, g.wide))

  pin_on : (d : Driver) (k : ℕ) → k < number_of_pins d → get_or (pins_of (driver_on text d)) k 0 ≡ signal_at_pin d k
  pin_on Undriven k h = absurd (omega arith)
  pin_on Input k h = absurd (omega arith)
  pin_on (Latched l) k h = absurd (omega arith)
  pin_on (Gated g) k h = get_or-take g.pin_count g.pins k 0 h

  module _ (xs : List Signal) where
    count_at : (s : ℕ) → length (pins_at (signals_on text xs) s) ≡ number_of_pins (driver xs s)
    count_at s = ap (λ d. length (pins_of d)) (driver_same xs s) ∙ count_on (driver xs s)

    pin_at : (s k : ℕ) → k < number_of_pins (driver xs s) → get_or (pins_at (signals_on text xs) s) k 0 ≡ signal_at_pin (driver xs s) k
    pin_at s k h = ap (λ d. get_or (pins_of d) k 0) (driver_same xs s) ∙ pin_on (driver xs s) k h

    to_net : (u s : ℕ) → Wire (signals_on text xs) u s → net.Wire xs u s
    to_net u s w =
        let h : w.0 < number_of_pins (driver xs s) = subst (λ n. w.0 < n) (count_at s) w.1 in
        (w.0, h, sym (pin_at s w.0 h) ∙ w.2)

    of_net : (u s : ℕ) → net.Wire xs u s → Wire (signals_on text xs) u s
    of_net u s w = (w.0, subst (λ n. w.0 < n) (sym (count_at s)) w.1, pin_at s w.0 w.1 ∙ w.2)

    pub acyclic_on : net.Acyclic xs → Acyclic (signals_on text xs)
    acyclic_on h s c = h s (reached to_net c)

    pub lowest_on : (s : ℕ) → net.LowestOnCycle xs s → LowestOnCycle (signals_on text xs) s
    lowest_on s l = record { cyclic = reached of_net l.cyclic; lowest = λ c h o. l.lowest c h (reached to_net o) }

-- a network stands as it is
pub stands : (text : List ℕ) (xs : List Signal) (net : Network) → Built xs (Ok net) → Closes (netlist (signals_on text xs)) (network_on text (Ok net))
stands text xs net b = (ap (signals_on text) b.1, acyclic_on text xs b.0)

-- a cycle is refused where its lowest signal is named
pub cycle_refused : (text : List ℕ) (xs : List Signal) (y : Cyclic) → Built xs (Err y) → Closes (netlist (signals_on text xs)) (network_on text (Err (OfNetlist (fault Cycle y.name.at))))
cycle_refused text xs y b =
    (y.lowest, lowest_on text xs y.lowest b.0, ap (fault Cycle) (ap (λ (n : Span). n.at) b.1 ∙ sym (place_on text xs y.lowest)))
