-- How a pin moves its gate.
use Rattle.std.specs.Prelude.{ℕ, ◌+◌, ◌^◌, Bool, true, false, not, ◌&&◌, nat_lt}
use Rattle.std.specs.List.{list_any, range_with_len}
use Rattle.network.specs.Truth.{bit, truth}
use Rattle.network.specs.declared.gate.Gate.{Gate}
use Rattle.network.specs.declared.sense.Sense.{Sense}
use Rattle.network.specs.declared.sense.Sense.TheVariants.{Positive, Negative, Both, Neither}
use Rattle.network.specs.declared.signal.Driver.{Driver}
use Rattle.network.specs.declared.signal.Driver.TheVariants.{Undriven, Input, Latched, Gated}

-- from 0 to 1 where `to` is 1, and from 1 to 0 where it is 0
abbrev pub steps_to : Bool → Bool → Bool → Bool
steps_to true before after = not before && after
steps_to false before after = before && not after

-- the pin is 0 in the setting, and switching it to 1 takes the gate to `to`
abbrev pub moved_in : Gate → ℕ → Bool → ℕ → Bool
moved_in gate pin to setting = not (bit setting pin) && steps_to to (truth gate setting) (truth gate (setting + 2 ^ pin))

-- the pin is there, and does so for some setting of the others
abbrev pub moves : Gate → ℕ → Bool → Bool
moves gate pin to = nat_lt pin gate.pin_count && list_any (moved_in gate pin to) (range_with_len 0 (2 ^ gate.pin_count))

-- for some setting of the others, switching the pin from 0 to 1 takes the gate from 0 to 1
abbrev pub raises : Gate → ℕ → Bool
raises gate pin = moves gate pin true

-- for some setting of the others, switching the pin from 0 to 1 takes the gate from 1 to 0
abbrev pub lowers : Gate → ℕ → Bool
lowers gate pin = moves gate pin false

-- the same of a driver, of which only a gate has pins
abbrev pub raises_in : Driver → ℕ → Bool
raises_in Undriven pin = false
raises_in Input pin = false
raises_in (Latched l) pin = false
raises_in (Gated g) pin = raises g pin

abbrev pub lowers_in : Driver → ℕ → Bool
lowers_in Undriven pin = false
lowers_in Input pin = false
lowers_in (Latched l) pin = false
lowers_in (Gated g) pin = lowers g pin

-- the sense of a pin by whether it raises and whether it lowers
abbrev pub sense_of : Bool → Bool → Sense
sense_of true true = Both
sense_of true false = Positive
sense_of false true = Negative
sense_of false false = Neither
