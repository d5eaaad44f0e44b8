-- What the code answers.
use Rattle.std.specs.Prelude.{◌≡◌, ℕ, ◌≤◌, Bool, true, false, not, ◌||◌, List, [], ◌∷◌, ◌++◌, map, length, Some, None, Ok, Err, Option, Result}
use Rattle.fault.specs.declared.refusal.Refusal.{Refusal}
use Rattle.fault.specs.declared.cause.Cause.TheVariants.{BadLine, LongName, TooManyPins, TooManySignals}
use Rattle.text.specs.Text.{Piece}
use Rattle.text.specs.Words.{long_names}
use Rattle.rows.specs.Rows as rows
use Rattle.rows.specs.Views.{row_on}
use Rattle.rows.specs.declared.row.Row.{Row}
use Rattle.text.specs.Refusals as words
use Rattle.network.specs.declared.span.Span.{Span}
use Rattle.netlist.specs.declared.netlist_fault.NetlistFault.{NetlistFault}
use Rattle.netlist.specs.declared.netlist_fault.NetlistFault.TheVariants.{OfWord, OfNetlist}
use Rattle.netlist.specs.declared.state.State as code
use Rattle.netlist.specs.Signals.{Signal, number_of, Known, mention_all}
use Rattle.netlist.specs.Statements.{Statement, latch_rest}
use Rattle.netlist.specs.Faults.{State, fault, only_if, in_body, has_dotted, too_many, rule_faults, word_faults}
use Rattle.netlist.specs.Effects.{state, effect, words_effect}
use Rattle.netlist.specs.Views.{pieces, trigger_words, initial_word, signals_in}
use Rattle.netlist.specs.Reading.{Reading, refused, ongoing, judged}

-- a fault of a word is the word's refusal
abbrev pub refusal_of : NetlistFault → Refusal
refusal_of (OfWord f) = words.refusal_of f
refusal_of (OfNetlist r) = r

abbrev pub refusal : {T : Type 0} → Result T NetlistFault → Option Refusal
refusal (Ok x) = None
refusal (Err f) = Some (refusal_of f)

abbrev pub first_of : {A : Type 0} → List A → Option A
first_of [] = None
first_of (x ∷ xs) = Some x

-- the words after a latch's output, where they may stand
abbrev pub LatchWords : List ℕ → List Span → Option (Option (Span × Span) × Option Span) → Type 0
LatchWords text ws None = false ≡ latch_rest (pieces text ws)
LatchWords text ws (Some w) = (true ≡ latch_rest (pieces text ws)) × (trigger_words w.0 ++ initial_word w.1 ≡ ws)

-- the number of the signal of this name, if there is one
abbrev pub Numbered : List Signal → List ℕ → Option ℕ → Type 0
Numbered ss n None = length ss ≤ number_of ss n
Numbered ss n (Some k) = Known ss n × (k ≡ number_of ss n)

-- how far the code has come
abbrev pub state_on : List ℕ → code.State → State
state_on text s = state s.stage (signals_in text s.signals)

-- a line's outcome, with the state that it left
abbrev pub reading_on : List ℕ → code.State → Result (Unit {0}) NetlistFault → Reading
reading_on text s (Ok x) = ongoing (state_on text s)
reading_on text s (Err f) = refused (refusal_of f)

-- the faults of a line of the body with these names that come before a second driver
abbrev pub name_faults : State → ℕ → List Piece → Bool → List Refusal
name_faults s at ms many =
    map (fault BadLine) (only_if (not (in_body s.stage) || has_dotted ms) at)
    ++ (map (fault LongName) (long_names ms)
    ++ (map (fault TooManyPins) (only_if many at) ++ map (fault TooManySignals) (too_many (mention_all s.signals ms))))

-- a statement judged by the first of its faults, which stand in the order of their numbers
abbrev pub first_judged : State → ℕ → Statement → Reading
first_judged s at st = judged (first_of (rule_faults s at st)) (effect s st)

-- and the words of a line
abbrev pub words_judged : State → List Piece → Reading
words_judged s ws = judged (first_of (word_faults s ws)) (words_effect s ws)

abbrev pub row_in : Option Row → Option rows.Row
row_in None = None
row_in (Some r) = Some (row_on r)
