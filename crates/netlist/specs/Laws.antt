-- What every accepted netlist has, by the lines and words of its text.
use Rattle.std.specs.Prelude.{◌≡◌, ℕ, ◌<◌, ◌≤◌, Bool, false, List, [], ◌∷◌, length, count_by, slice_index_or}
use Rattle.std.specs.List.{list_any, flat_map, ContainsAt as Has, AllByRecursion}
use Rattle.std.specs.Str.{bytes_eq}
use Rattle.text.specs.Text.{Piece, words, lines}
use Rattle.text.specs.Words.{lexeme_of}
use Rattle.netlist.specs.Signals.{Signal, no_signal}
use Rattle.netlist.specs.Statements.{Statement, model, inputs, outputs, gate, latch, row, ending, wrong, statement_of, mentions_of, drives_of}
use Rattle.netlist.specs.Reading.{read, netlist}

-- the names after .outputs, and the data of a latch
abbrev pub outputs_of : Statement → List Piece
outputs_of (model n) = []
outputs_of (inputs ns) = []
outputs_of (outputs ns) = ns
outputs_of (gate ps q) = []
outputs_of (latch d q ws) = []
outputs_of (row r) = []
outputs_of ending = []
outputs_of wrong = []

abbrev pub data_of : Statement → List Piece
data_of (model n) = []
data_of (inputs ns) = []
data_of (outputs ns) = []
data_of (gate ps q) = []
data_of (latch d q ws) = d ∷ []
data_of (row r) = []
data_of ending = []
data_of wrong = []

-- these words of a line
abbrev pub part_of : (Statement → List Piece) → List Piece → List Piece
part_of part [] = []
part_of part (w ∷ ws) = part (statement_of (lexeme_of w) ws)

-- these words of all lines of a text
abbrev pub words_in : (Statement → List Piece) → List ℕ → List Piece
words_in part text = flat_map (λ (line : Piece). part_of part (words line.place line.bytes)) (lines 0 text)

-- a word that is this name
abbrev pub named : List ℕ → Piece → Bool
named n w = bytes_eq w.bytes n

abbrev pub Accepted : List ℕ → List Signal → Type 0
Accepted text ss = read text ≡ netlist ss

-- each signal is driven by exactly one word of the text
abbrev pub OneDriver : Type 0
OneDriver = (text : List ℕ) (ss : List Signal) → Accepted text ss → AllByRecursion (λ (s : Signal). count_by (named s.name.bytes) (words_in drives_of text) ≡ 1) ss

-- a signal is an output exactly if a line of outputs names it, and captured exactly if it is a latch's data
abbrev pub Endpoints : Type 0
Endpoints =
    (text : List ℕ) (ss : List Signal) → Accepted text ss
    → AllByRecursion (λ (s : Signal). (s.output ≡ list_any (named s.name.bytes) (words_in outputs_of text)) × (s.captured ≡ list_any (named s.name.bytes) (words_in data_of text))) ss

abbrev pub name_of : List Signal → ℕ → Piece
name_of ss k = (slice_index_or ss k no_signal).name

-- names differ, and their places climb with the numbers
abbrev pub NamesClimb : Type 0
NamesClimb =
    (text : List ℕ) (ss : List Signal) → Accepted text ss
    → (j k : ℕ) → j < k → k < length ss → ((name_of ss j).place < (name_of ss k).place) × (bytes_eq (name_of ss j).bytes (name_of ss k).bytes ≡ false)

-- a name is a mention, and no mention of it comes before
abbrev pub FirstMentions : Type 0
FirstMentions =
    (text : List ℕ) (ss : List Signal) → Accepted text ss
    → AllByRecursion (λ (s : Signal). Has (words_in mentions_of text) s.name) ss
    × AllByRecursion (λ (w : Piece). (k : ℕ) × ((k < length ss) × (((name_of ss k).bytes ≡ w.bytes) × ((name_of ss k).place ≤ w.place)))) (words_in mentions_of text)
