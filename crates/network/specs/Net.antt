-- What a network says of its signals and their turns.
use Rattle.std.specs.Prelude.{ℕ, Bool, ◌||◌, List, length, vec_items, Option, nat_lt, slice_index_or}
use Rattle.std.specs.List.{slice_get}
use Rattle.std.specs.Option.{option_map}
use Rattle.std.specs.Bool.{then_some}
use Rattle.network.specs.Turns.{turn_in, signal_in}
use Rattle.network.specs.Wiring.{absent, is_source, driver, wires, feeder}
use Rattle.network.specs.declared.network.Network.{Network}
use Rattle.network.specs.declared.signal.Driver.{Driver}
use Rattle.network.specs.declared.signal.Signal.{Signal}
use Rattle.network.specs.declared.span.Span.{Span}

-- its signals, and how many they are
abbrev pub signals : Network → List Signal
signals net = vec_items net.signals

abbrev pub size : Network → ℕ
size net = length (signals net)

-- a signal's name and driver, where there is such a signal
abbrev pub name_of : Network → ℕ → Option Span
name_of net s = option_map (λ (x : Signal). x.name) (slice_get (signals net) s)

abbrev pub driver_of : Network → ℕ → Option Driver
driver_of net s = option_map (λ (x : Signal). x.driver) (slice_get (signals net) s)

-- an output, or read by a latch: an endpoint
abbrev pub is_output_of : Network → ℕ → Bool
is_output_of net s = (slice_index_or (signals net) s absent).output

abbrev pub is_captured_of : Network → ℕ → Bool
is_captured_of net s = (slice_index_or (signals net) s absent).captured

abbrev pub is_endpoint_of : Network → ℕ → Bool
is_endpoint_of net s = is_output_of net s || is_captured_of net s

-- an input or a latch's output
abbrev pub is_source_of : Network → ℕ → Bool
is_source_of net s = is_source (driver (signals net) s)

-- how many wires end at the signal s, and where wire k begins
abbrev pub fanin : Network → ℕ → ℕ
fanin net s = wires (signals net) s

abbrev pub from : Network → ℕ → ℕ → ℕ
from net s k = feeder (signals net) s k

-- the turn of a signal, and the signal at a turn
abbrev pub turn : Network → ℕ → ℕ
turn net s = turn_in net.turns s

abbrev pub signal_by_turn : Network → ℕ → ℕ
signal_by_turn net t = signal_in net.turns t

-- the same, where there is such a signal, turn or pin
abbrev pub turn_if : Network → ℕ → Option ℕ
turn_if net s = then_some (nat_lt s (size net)) (turn net s)

abbrev pub signal_at_if : Network → ℕ → Option ℕ
signal_at_if net t = then_some (nat_lt t (size net)) (signal_by_turn net t)

abbrev pub from_if : Network → ℕ → ℕ → Option ℕ
from_if net s k = then_some (nat_lt k (fanin net s)) (from net s k)
