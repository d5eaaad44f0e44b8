-- What a script and a chain of calls answer and leave on a board, whatever its values.
use Rattle.std.specs.Prelude.{◌≡◌, ℕ, ◌+◌, List, [], ◌∷◌, map, Some, None, Ok, Err, Option, Result}
use Rattle.gauge.specs.Matrix.{edge_ops}
use Rattle.gauge.specs.Semirings.{Ops}
use Rattle.gauge.specs.declared.matrix.EdgeMatrix.{EdgeMatrix}
use Rattle.fields.specs.declared.edit.Edit.{Edit}
use Rattle.fields.specs.declared.faults.FieldFault.{FieldFault}
use Rattle.fields.specs.Lists.{fields}
use Rattle.fields.specs.declared.read.Placed.{Placed}
use Rattle.fields.specs.Says.{edit_of}
use Rattle.opening.specs.Boards.{View}
use Rattle.book.specs.declared.edit_fault.EditFault.{EditFault}
use Rattle.book.specs.declared.script_fault.ScriptFault.{ScriptFault}
use Rattle.book.specs.declared.script_fault.ScriptFault.TheVariants as fault
use Rattle.book.specs.Answers.{as_call, Call, edit, script, Lending, judge_script, call_answer, call_next, answers, last}
use Rattle.board.specs.Books.{book_of, Sums, lent_of}
use Rattle.board.specs.Steps.{Stepped}

-- a call with the strip's length and the list's limit that it is lent, and its answer
pub record Made : Type 0 where
  pub strip : ℕ
  pub limit : ℕ
  pub call : Call
  pub said : Result ℕ ScriptFault

-- calls and their answers, paired in order as long as both last, each lent such a strip and such a list
abbrev pub made_of : (strip limit : ℕ) → List Call → List (Result ℕ ScriptFault) → List Made
made_of strip limit [] replies = []
made_of strip limit (c ∷ cs) [] = []
made_of strip limit (c ∷ cs) (a ∷ replies) = record { strip = strip; limit = limit; call = c; said = a } ∷ made_of strip limit cs replies

module _ {G : Type 0} (r : Ops G) (delays : ℕ → ℕ → G) where
  module _ (strip limit : ℕ) where
    -- a field is taken from x to z: refused for what it lacks, or its edit is made
    abbrev pub FieldTaken : (at : ℕ) → Result Edit FieldFault → (x z : View (EdgeMatrix G)) → Result ℕ ScriptFault → Type 0
    FieldTaken at (Ok e) x z a = (b : Result ℕ EditFault) × Stepped r delays strip limit at e x z b × (a ≡ as_call b)
    FieldTaken at (Err d) x z a = (z ≡ x) × (a ≡ Err (fault.Field d))

    -- the fields after it are taken, unless it is refused: a script stops there
    abbrev pub Onward : (ℕ → Type 0) → (z y : View (EdgeMatrix G)) (a b : Result ℕ ScriptFault) → Type 0
    Onward rest z y a (Ok n) = rest n
    Onward rest z y a (Err d) = (y ≡ z) × (a ≡ Err d)

    -- fields are taken in order from x to y; the answer is the sum of their counts, added to a total, or the first refusal
    abbrev pub Taken : List (Placed Edit) → (total : ℕ) → (x y : View (EdgeMatrix G)) → Result ℕ ScriptFault → Type 0
    Taken [] total x y a = (y ≡ x) × (a ≡ Ok total)
    Taken (f ∷ fs) total x y a =
        (z : View (EdgeMatrix G)) × (b : Result ℕ ScriptFault) × FieldTaken f.at f.said x z b
        × Onward (λ n. Taken fs (total + n) z y a) z y a b

    abbrev pub ScriptedBy : Option ScriptFault → (file : List ℕ) → (x y : View (EdgeMatrix G)) → Result ℕ ScriptFault → Type 0
    ScriptedBy (Some d) file x y a = (y ≡ x) × (a ≡ Err d)
    ScriptedBy None file x y a = Taken (fields edit_of file) 0 x y a

    -- a script is refused before its first field, and nothing has moved; or its fields are taken
    abbrev pub Scripted : (file : List ℕ) → (x y : View (EdgeMatrix G)) → Result ℕ ScriptFault → Type 0
    Scripted file x y a = ScriptedBy (judge_script r delays (lent_of x strip limit) (book_of (edge_ops r) x) file) file x y a

    -- what a call leaves and answers
    abbrev pub Called : Call → (x y : View (EdgeMatrix G)) → Result ℕ ScriptFault → Type 0
    Called (edit e) x y a = (b : Result ℕ EditFault) × Stepped r delays strip limit 0 e x y b × (a ≡ as_call b)
    Called (script file) x y a = Scripted file x y a

    -- the board follows the book over a call
    pub record CallFollows (c : Call) (x y : View (EdgeMatrix G)) (a : Result ℕ ScriptFault) : Type 0 where
      pub book : book_of (edge_ops r) y ≡ call_next r delays (lent_of x strip limit) (book_of (edge_ops r) x) c
      pub sums : Sums (edge_ops r) x → Sums (edge_ops r) y
      pub told : Sums (edge_ops r) x → a ≡ call_answer r delays (lent_of x strip limit) (book_of (edge_ops r) x) c

  -- calls made one after another, each on the board that the one before left, with a list and a strip lent anew
  abbrev pub Chained : List Made → (x y : View (EdgeMatrix G)) → Type 0
  Chained [] x y = y ≡ x
  Chained (m ∷ ms) x y = (z : View (EdgeMatrix G)) × Called m.strip m.limit m.call x z m.said × Chained ms z y

  -- what the calls are lent, on a board with tables as long as those of x
  abbrev pub lendings : View (EdgeMatrix G) → List Made → List Lending
  lendings x ms = map (λ m. record { lent = lent_of x m.strip m.limit; call = m.call }) ms

  -- the law over a chain: wires, weights and starts are the book's; where the values were path sums, they are those of that book,
  -- and every answer is the book's
  pub record ChainFollows (ms : List Made) (x y : View (EdgeMatrix G)) : Type 0 where
    pub book : book_of (edge_ops r) y ≡ last r delays (book_of (edge_ops r) x) (lendings x ms)
    pub sums : Sums (edge_ops r) x → Sums (edge_ops r) y
    pub told : Sums (edge_ops r) x → map (λ m. m.said) ms ≡ answers r delays (book_of (edge_ops r) x) (lendings x ms)
