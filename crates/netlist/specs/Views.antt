-- What the code's spans, drivers and signals stand for in a text.
use Rattle.std.specs.Prelude.{ℕ, List, [], ◌∷◌, ◌++◌, map, take, drop, Some, None, vec_items, Option}
use Rattle.network.specs.declared.span.Span.{Span}
use Rattle.network.specs.declared.signal.Driver.{Driver}
use Rattle.network.specs.declared.signal.Driver.TheVariants.{Undriven, Input, Latched, Gated}
use Rattle.network.specs.declared.signal.Signal.{Signal}
use Rattle.text.specs.Text.{Piece, piece}
use Rattle.rows.specs.Views.{cover_on}
use Rattle.netlist.specs.declared.change.Change.{Change}
use Rattle.netlist.specs.declared.change.Change.TheVariants.{Drive, Output, Capture}
use Rattle.netlist.specs.declared.signals.Signals.{Signals}
use Rattle.netlist.specs.Signals as signals

-- the part of the text
abbrev pub piece_on : List ℕ → Span → Piece
piece_on text s = piece s.at (take s.len (drop s.at text))

abbrev pub pieces : List ℕ → List Span → List Piece
pieces text ws = map (piece_on text) ws

-- type and control, and the initial value, where they are there
abbrev pub trigger_words : Option (Span × Span) → List Span
trigger_words None = []
trigger_words (Some t) = t.0 ∷ t.1 ∷ []

abbrev pub initial_word : Option Span → List Span
initial_word None = []
initial_word (Some i) = i ∷ []

abbrev pub driver_on : List ℕ → Driver → signals.Driver
driver_on text Undriven = signals.undriven
driver_on text Input = signals.input
driver_on text (Latched l) = signals.latched l.input (pieces text (trigger_words l.trigger ++ initial_word l.initial))
driver_on text (Gated g) = signals.gates (take g.pin_count g.pins) (cover_on g)

abbrev pub signal_on : List ℕ → Signal → signals.Signal
signal_on text s = record { name = piece_on text s.name; driver = driver_on text s.driver; output = s.output; captured = s.captured }

abbrev pub signals_on : List ℕ → List Signal → List signals.Signal
signals_on text ss = map (signal_on text) ss

-- of the code's store of signals
abbrev pub signals_in : List ℕ → Signals → List signals.Signal
signals_in text ss = signals_on text (vec_items ss.items)

abbrev pub bytes_of : List ℕ → List Span → List (List ℕ)
bytes_of text ws = map (λ w. (piece_on text w).bytes) ws

abbrev pub change_on : List ℕ → Change → signals.Signal → signals.Signal
change_on text (Drive d) s = signals.driven (driver_on text d) s
change_on text Output s = signals.as_output s
change_on text Capture s = signals.as_captured s
