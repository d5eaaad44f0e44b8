-- The signals that the lines so far have mentioned.
use Rattle.std.specs.Prelude.{ℕ, zero, suc, ◌<◌, Bool, true, false, cond, List, [], ◌∷◌, map, length, fold, slice_index_or, slice_set}
use Rattle.std.specs.List.{AllByRecursion}
use Rattle.std.specs.Str.{bytes_eq}
use Rattle.text.specs.Text.{Piece, piece}
use Rattle.rows.specs.Rows.{Cover}

-- a type of its own beside the code's, which keeps places of words and packed rows: here are the words and the rows themselves
pub data Driver : Type 0 where
  undriven : Driver
  input : Driver
  -- the data's signal, and the words after the output
  latched : ℕ → List Piece → Driver
  -- the pins' signals, and the rows so far
  gates : List ℕ → Cover → Driver

-- the name where it is first mentioned, whether a line of outputs names it, and whether a latch reads it
pub record Signal : Type 0 where
  pub name : Piece
  pub driver : Driver
  pub output : Bool
  pub captured : Bool

abbrev pub fresh : Piece → Signal
fresh w = record { name = w; driver = undriven; output = false; captured = false }

-- the number of the signal of this name, or how many there are
abbrev pub number_of : List Signal → List ℕ → ℕ
number_of [] n = zero
number_of (s ∷ ss) n = cond (bytes_eq s.name.bytes n) zero (suc (number_of ss n))

-- the name is a signal's
abbrev pub Known : List Signal → List ℕ → Type 0
Known ss n = number_of ss n < length ss

-- and each of these names
abbrev pub Mentioned : List Signal → List Piece → Type 0
Mentioned ss ws = AllByRecursion (λ (w : Piece). Known ss w.bytes) ws

-- a name that is new is one signal more
abbrev pub mention : List Signal → Piece → List Signal
mention [] w = fresh w ∷ []
mention (s ∷ ss) w = cond (bytes_eq s.name.bytes w.bytes) (s ∷ ss) (s ∷ mention ss w)

abbrev pub mention_all : List Signal → List Piece → List Signal
mention_all ss ws = fold mention ss ws

abbrev pub is_undriven : Driver → Bool
is_undriven undriven = true
is_undriven input = false
is_undriven (latched d ws) = false
is_undriven (gates ps c) = false

-- what stands past the last signal
abbrev pub no_signal : Signal
no_signal = fresh (piece 0 [])

-- signal k changed by f
abbrev pub changed : (Signal → Signal) → List Signal → ℕ → List Signal
changed f ss k = slice_set ss k (f (slice_index_or ss k no_signal))

-- the signal of this name changed by f, and each of these names
abbrev pub on_named : (Signal → Signal) → List Signal → Piece → List Signal
on_named f ss w = changed f ss (number_of ss w.bytes)

abbrev pub on_each : (Signal → Signal) → List Signal → List Piece → List Signal
on_each f ss ws = fold (on_named f) ss ws

abbrev pub driven : Driver → Signal → Signal
driven d s = record { name = s.name; driver = d; output = s.output; captured = s.captured }

abbrev pub as_output : Signal → Signal
as_output s = record { name = s.name; driver = s.driver; output = true; captured = s.captured }

abbrev pub as_captured : Signal → Signal
as_captured s = record { name = s.name; driver = s.driver; output = s.output; captured = true }

abbrev pub numbers : List Signal → List Piece → List ℕ
numbers ss ws = map (λ (w : Piece). number_of ss w.bytes) ws
