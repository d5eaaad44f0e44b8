-- Where wires begin and end.
use Rattle.std.proofs.Common.{ℕ, ◌<◌, List, length, ap, subst, ⊎_elim, arith}
use Rattle.std.proofs.lemmas.List.{get_or_past}
use Rattle.std.proofs.lemmas.Bool.{cases_lt}
use Rattle.network.specs.Reach.{Wire, Reaches, wire, further}
use Rattle.network.specs.Wiring.{number_of_pins, absent, wires, Wired}
use Rattle.network.specs.declared.signal.Signal.{Signal}

-- only a signal that is there has wires
pub ends_within : (xs : List Signal) (s k : ℕ) → k < wires xs s → s < length xs
ends_within xs s k l =
    ⊎_elim
    (λ within. within)
    (λ past. absurd (let none = ap (λ (x : Signal). number_of_pins x.driver) (get_or_past xs s absent past) in omega arith))
    (cases_lt s (length xs))

pub begins_within : (xs : List Signal) → Wired xs → (v s : ℕ) → Wire xs v s → v < length xs
begins_within xs wired v s w = subst (λ x. x < length xs) w.2 (wired s w.0 w.1)

pub reached_within : (xs : List Signal) (u s : ℕ) → Reaches (Wire xs) u s → s < length xs
reached_within xs u s (wire w) = ends_within xs s w.0 w.1
reached_within xs u s (further way w) = ends_within xs s w.0 w.1
