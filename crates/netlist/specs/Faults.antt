-- All faults of a line in the state before it, and the least of them.
use Rattle.std.specs.Prelude.{ℕ, Bool, true, false, cond, not, ◌&&◌, ◌||◌, List, [], ◌∷◌, ◌++◌, map, length, drop, Some, None, Option, ◌==◌, nat_lt, slice_index_or}
use Rattle.std.specs.List.{list_any}
use Rattle.fault.specs.Causes as causes
use Rattle.fault.specs.declared.cause.Cause.{Cause}
use Rattle.fault.specs.declared.cause.Cause.TheVariants.{BadByte, BadLine, LongName, TooManyPins, TooManySignals, BadRow, SecondDriver}
use Rattle.fault.specs.declared.refusal.Refusal.{Refusal}
use Rattle.network.specs.Limit.{max_signals}
use Rattle.text.specs.Text.{Piece, words, bad_places}
use Rattle.text.specs.Words.{one_of, dotted, lexeme_of, long_names}
use Rattle.rows.specs.Rows.{Row, row_fits}
use Rattle.netlist.specs.declared.stage.Stage.{Stage}
use Rattle.netlist.specs.declared.stage.Stage.TheVariants.{Before, Body, Rows, After}
use Rattle.netlist.specs.Signals.{Signal, Driver, undriven, input, latched, gates, is_undriven, no_signal, number_of, mention_all}
use Rattle.netlist.specs.Statements.{Statement, model, inputs, outputs, gate, latch, row, ending, wrong, statement_of, mentions_of, drives_of, names_of}

-- how far the lines have come, and the signals so far
pub record State : Type 0 where
  pub stage : Stage
  pub signals : List Signal

abbrev pub fault : Cause → ℕ → Refusal
fault c p = record { cause = c; place = p }

-- the place, where the test holds
abbrev pub only_if : Bool → ℕ → List ℕ
only_if b p = cond b (p ∷ []) []

-- ---- a line outside the rules

abbrev pub at_start : Stage → Bool
at_start Before = true
at_start Body = false
at_start (Rows g) = false
at_start After = false

abbrev pub in_body : Stage → Bool
in_body Before = false
in_body Body = true
in_body (Rows g) = true
in_body After = false

-- .model is the first line, .end the last; where a row may stand is judged with the rows
abbrev pub placed : Stage → Statement → Bool
placed s (model n) = at_start s
placed s (inputs ns) = in_body s
placed s (outputs ns) = in_body s
placed s (gate ps q) = in_body s
placed s (latch d q ws) = in_body s
placed s (row r) = true
placed s ending = in_body s
placed s wrong = false

-- a signal's name has no dot in front
abbrev pub has_dotted : List Piece → Bool
has_dotted ws = list_any (λ w. dotted w.bytes) ws

abbrev pub outside : Stage → Statement → Bool
outside s st = not (placed s st) || has_dotted (mentions_of st)

-- ---- pins and signals

abbrev pub many_pins : Statement → Bool
many_pins (model n) = false
many_pins (inputs ns) = false
many_pins (outputs ns) = false
many_pins (gate ps q) = nat_lt 4 (length ps)
many_pins (latch d q ws) = false
many_pins (row r) = false
many_pins ending = false
many_pins wrong = false

-- the signals past the last that may be, each at its first mention
abbrev pub too_many : List Signal → List ℕ
too_many ss = map (λ (s : Signal). s.name.place) (drop max_signals ss)

-- ---- rows

abbrev pub row_joins : Driver → Row → Bool
row_joins undriven r = false
row_joins input r = false
row_joins (latched d ws) r = false
row_joins (gates ps c) r = row_fits (length ps) c r

-- a row follows .names or another row
abbrev pub row_stands : Stage → List Signal → Row → Bool
row_stands Before ss r = false
row_stands Body ss r = false
row_stands (Rows g) ss r = row_joins (slice_index_or ss g no_signal).driver r
row_stands After ss r = false

abbrev pub good_row : Stage → List Signal → Option Row → Bool
good_row g ss None = false
good_row g ss (Some r) = row_stands g ss r

abbrev pub wrong_row : State → Statement → Bool
wrong_row s (model n) = false
wrong_row s (inputs ns) = false
wrong_row s (outputs ns) = false
wrong_row s (gate ps q) = false
wrong_row s (latch d q ws) = false
wrong_row s (row r) = not (good_row s.stage s.signals r)
wrong_row s ending = false
wrong_row s wrong = false

-- ---- second drivers: of what is driven already, or earlier in this line

abbrev pub has_driver : List Signal → List ℕ → Bool
has_driver ss n = not (is_undriven (slice_index_or ss (number_of ss n) no_signal).driver)

abbrev pub driven_twice : List Signal → List (List ℕ) → List Piece → List ℕ
driven_twice ss done [] = []
driven_twice ss done (w ∷ ws) =
    cond (has_driver ss w.bytes || one_of done w.bytes) (w.place ∷ driven_twice ss (done ++ w.bytes ∷ []) ws) (driven_twice ss (done ++ w.bytes ∷ []) ws)

-- ---- all faults of a line

-- of a line with words, of which the first stands at the place `at`
abbrev pub rule_faults : State → ℕ → Statement → List Refusal
rule_faults s at st =
    map (fault BadLine) (only_if (outside s.stage st) at)
    ++ (map (fault LongName) (long_names (names_of st))
    ++ (map (fault TooManyPins) (only_if (many_pins st) at)
    ++ (map (fault TooManySignals) (too_many (mention_all s.signals (mentions_of st)))
    ++ (map (fault BadRow) (only_if (wrong_row s st) at)
    ++ map (fault SecondDriver) (driven_twice s.signals [] (drives_of st))))))

abbrev pub word_faults : State → List Piece → List Refusal
word_faults s [] = []
word_faults s (w ∷ ws) = rule_faults s w.place (statement_of (lexeme_of w) ws)

abbrev pub faults_of : State → Piece → List Refusal
faults_of s line = map (fault BadByte) (bad_places line.place line.bytes) ++ word_faults s (words line.place line.bytes)

-- ---- the least: the smallest number, and then the leftmost place

abbrev pub number_of_fault : Refusal → ℕ
number_of_fault f = causes.number_of f.cause

abbrev pub precedes : Refusal → Refusal → Bool
precedes f g = nat_lt (number_of_fault f) (number_of_fault g) || (number_of_fault f == number_of_fault g && nat_lt f.place g.place)

abbrev pub least : Refusal → List Refusal → Refusal
least f [] = f
least f (g ∷ gs) = cond (precedes g f) (least g gs) (least f gs)

abbrev pub least_of : List Refusal → Option Refusal
least_of [] = None
least_of (f ∷ fs) = Some (least f fs)
