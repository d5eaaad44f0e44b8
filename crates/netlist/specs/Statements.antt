-- A line's words as a statement.
use Rattle.std.specs.Prelude.{Bool, true, false, cond, ◌&&◌, List, [], ◌∷◌, ◌++◌, Some, None, Option}
use Rattle.text.specs.Text.{Piece}
use Rattle.text.specs.Words.{Lexeme, keyword, unknown, plain, one_of, latch_types, initial_values}
use Rattle.rows.specs.Rows.{Row}
use Rattle.text.specs.declared.word.Command.{Command}
use Rattle.text.specs.declared.word.Command.TheVariants.{Model, Inputs, Outputs, Names, Latch, End}

pub data Statement : Type 0 where
  model : Piece → Statement
  inputs : List Piece → Statement
  outputs : List Piece → Statement
  -- the pins and the output
  gate : List Piece → Piece → Statement
  -- the data, the output and the words after it
  latch : Piece → Piece → List Piece → Statement
  -- a row, if the words are one
  row : Option Row → Statement
  ending : Statement
  wrong : Statement

-- the last of a list that begins with x, and what stands before it
abbrev pub last_of : {A : Type 0} → A → List A → A
last_of x [] = x
last_of x (y ∷ ys) = last_of y ys

abbrev pub front_of : {A : Type 0} → A → List A → List A
front_of x [] = []
front_of x (y ∷ ys) = x ∷ front_of y ys

-- .model and one name
abbrev pub model_of : List Piece → Statement
model_of [] = wrong
model_of (n ∷ []) = model n
model_of (n ∷ m ∷ ws) = wrong

-- .names, pins and then the output
abbrev pub gate_of : List Piece → Statement
gate_of [] = wrong
gate_of (w ∷ ws) = gate (front_of w ws) (last_of w ws)

-- after a latch's output: a type and a control or neither, then an initial value or none
abbrev pub latch_rest : List Piece → Bool
latch_rest [] = true
latch_rest (i ∷ []) = one_of initial_values i.bytes
latch_rest (t ∷ c ∷ []) = one_of latch_types t.bytes
latch_rest (t ∷ c ∷ i ∷ []) = one_of latch_types t.bytes && one_of initial_values i.bytes
latch_rest (t ∷ c ∷ i ∷ x ∷ ws) = false

-- .latch, data and output
abbrev pub latch_of : List Piece → Statement
latch_of [] = wrong
latch_of (d ∷ []) = wrong
latch_of (d ∷ q ∷ ws) = cond (latch_rest ws) (latch d q ws) wrong

-- .end alone
abbrev pub end_of : List Piece → Statement
end_of [] = ending
end_of (w ∷ ws) = wrong

-- the marks and the last word, or the last word alone, which is the row of a gate without pins: a word has a byte at least
abbrev pub row_of : List Piece → Option Row
row_of [] = None
row_of (v ∷ []) = Some (record { marks = []; value = v.bytes })
row_of (m ∷ v ∷ []) = Some (record { marks = m.bytes; value = v.bytes })
row_of (m ∷ v ∷ w ∷ ws) = None

-- what follows a command word
abbrev pub command_of : Command → List Piece → Statement
command_of Model ws = model_of ws
command_of Inputs ws = inputs ws
command_of Outputs ws = outputs ws
command_of Names ws = gate_of ws
command_of Latch ws = latch_of ws
command_of End ws = end_of ws

-- a line whose first word has no dot in front is a row
abbrev pub statement_of : Lexeme → List Piece → Statement
statement_of (keyword c w) ws = command_of c ws
statement_of (unknown w) ws = wrong
statement_of (plain w) ws = row (row_of (w ∷ ws))

-- the words that mention signals, in their order
abbrev pub mentions_of : Statement → List Piece
mentions_of (model n) = []
mentions_of (inputs ns) = ns
mentions_of (outputs ns) = ns
mentions_of (gate ps q) = ps ++ q ∷ []
mentions_of (latch d q ws) = d ∷ q ∷ []
mentions_of (row r) = []
mentions_of ending = []
mentions_of wrong = []

-- the words that drive signals
abbrev pub drives_of : Statement → List Piece
drives_of (model n) = []
drives_of (inputs ns) = ns
drives_of (outputs ns) = []
drives_of (gate ps q) = q ∷ []
drives_of (latch d q ws) = q ∷ []
drives_of (row r) = []
drives_of ending = []
drives_of wrong = []

-- the words that are names
abbrev pub names_of : Statement → List Piece
names_of (model n) = n ∷ []
names_of (inputs ns) = ns
names_of (outputs ns) = ns
names_of (gate ps q) = ps ++ q ∷ []
names_of (latch d q ws) = d ∷ q ∷ []
names_of (row r) = []
names_of ending = []
names_of wrong = []
