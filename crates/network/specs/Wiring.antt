-- What a list of signals says of drivers and wires.
use Rattle.std.specs.Prelude.{◌≡◌, ℕ, ◌<◌, Bool, true, false, List, [], length, take, slice_index, slice_index_or}
use Rattle.network.specs.declared.signal.Signal.{Signal}
use Rattle.network.specs.declared.signal.Driver.{Driver}
use Rattle.network.specs.declared.signal.Driver.TheVariants.{Undriven, Input, Latched, Gated}

-- something drives the signal
abbrev pub is_driven_of : Driver → Bool
is_driven_of Undriven = false
is_driven_of Input = true
is_driven_of (Latched l) = true
is_driven_of (Gated g) = true

-- an input or a latch's output
abbrev pub is_source : Driver → Bool
is_source Undriven = false
is_source Input = true
is_source (Latched l) = true
is_source (Gated g) = false

-- how many pins a driver has: only a gate has some
abbrev pub number_of_pins : Driver → ℕ
number_of_pins Undriven = 0
number_of_pins Input = 0
number_of_pins (Latched l) = 0
number_of_pins (Gated g) = g.pin_count

-- the signal at a pin
abbrev pub signal_at_pin : Driver → ℕ → ℕ
signal_at_pin Undriven k = 0
signal_at_pin Input k = 0
signal_at_pin (Latched l) k = 0
signal_at_pin (Gated g) k = slice_index g.pins k

-- the signals at its pins, in order
abbrev pub pins_of : Driver → List ℕ
pins_of Undriven = []
pins_of Input = []
pins_of (Latched l) = []
pins_of (Gated g) = take g.pin_count g.pins

-- the driver is a latch that reads the signal d
abbrev pub Captures : Driver → ℕ → Type 0
Captures Undriven d = ⊥
Captures Input d = ⊥
Captures (Latched l) d = l.input ≡ d
Captures (Gated g) d = ⊥

-- what stands past the end of a list of signals
abbrev pub absent : Signal
absent = record { name = record { at = 0; len = 0 }; driver = Undriven; output = false; captured = false }

-- what drives the signal s
abbrev pub driver : List Signal → ℕ → Driver
driver xs s = (slice_index_or xs s absent).driver

-- how many wires end at the signal s, and where wire k begins: one for each pin
abbrev pub wires : List Signal → ℕ → ℕ
wires xs s = number_of_pins (driver xs s)

abbrev pub feeder : List Signal → ℕ → ℕ → ℕ
feeder xs s k = signal_at_pin (driver xs s) k

-- the signals where they begin
abbrev pub feeders : List Signal → ℕ → List ℕ
feeders xs s = pins_of (driver xs s)

-- every signal has a driver
abbrev pub Driven : List Signal → Type 0
Driven xs = (s : ℕ) → s < length xs → is_driven_of (driver xs s) ≡ true

-- every pin's signal is one of them
abbrev pub Wired : List Signal → Type 0
Wired xs = (s k : ℕ) → k < wires xs s → feeder xs s k < length xs

-- every latch's data signal is one of them
abbrev pub LatchesWired : List Signal → Type 0
LatchesWired xs = (s d : ℕ) → Captures (driver xs s) d → d < length xs

-- every wire climbs in turn
abbrev pub Climbs : List Signal → List ℕ → Type 0
Climbs xs turns = (s k : ℕ) → k < wires xs s → slice_index turns (feeder xs s k) < slice_index turns s

-- xs gives each number below n a number below n, from which ys leads back
abbrev pub Inverse : List ℕ → List ℕ → ℕ → Type 0
Inverse xs ys n = (i : ℕ) → i < n → (slice_index xs i < n) × (slice_index ys (slice_index xs i) ≡ i)
