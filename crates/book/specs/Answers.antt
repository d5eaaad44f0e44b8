-- What the book answers to an edit, to a script and to a run of calls, and how it stands afterwards.
use Rattle.std.specs.Prelude.{ℕ, ◌+◌, true, cond, List, [], ◌∷◌, length, is_ok, Some, None, Ok, Err, Option, Result, nat_lt}
use Rattle.gauge.specs.Matrix.{edge_ops}
use Rattle.gauge.specs.Semirings.{Ops}
use Rattle.gauge.specs.declared.matrix.EdgeMatrix.{EdgeMatrix}
use Rattle.paths.specs.Sums.{path_sum}
use Rattle.paths.specs.Edits.{edit_count}
use Rattle.fields.specs.declared.edit.Edit.{Edit}
use Rattle.fields.specs.declared.faults.FieldFault.{FieldFault}
use Rattle.fault.specs.Limit.{max_bytes}
use Rattle.fields.specs.Lists.{fields}
use Rattle.fields.specs.declared.read.Placed.{Placed}
use Rattle.fields.specs.Says.{edit_of}
use Rattle.book.specs.declared.edit_fault.EditFault.{EditFault}
use Rattle.book.specs.declared.script_fault.ScriptFault.{ScriptFault}
use Rattle.book.specs.declared.script_fault.ScriptFault.TheVariants as fault
use Rattle.book.specs.Books.{Book, web}
use Rattle.book.specs.Changes.{edited_by, changed}
use Rattle.book.specs.Judging.{Lent, room_fault, judge}

-- an edit's answer among those of all calls: its fault is kept whole
abbrev pub as_call : Result ℕ EditFault → Result ℕ ScriptFault
as_call (Ok n) = Ok n
as_call (Err d) = Err (fault.Edit d)

-- the answer x, unless there is a fault
abbrev pub unless : {A F : Type 0} → Option F → A → Result A F
unless None x = Ok x
unless (Some d) x = Err d

-- a call: an edit with its arguments, or a script's bytes
pub data Call : Type 0 where
  edit : Edit → Call
  script : (file : List ℕ) → Call

-- a call, with what it is lent
pub record Lending : Type 0 where
  pub lent : Lent
  pub call : Call

module _ {G : Type 0} (r : Ops G) (delays : ℕ → ℕ → G) where
  -- 1, and 1 more for each other signal that is fed, after the edit, by one whose path sum the edit changed
  unfoldable pub count : Book (EdgeMatrix G) → Edit → ℕ
  count book e =
      edit_count (edge_ops r) (edited_by e) (web (edge_ops r) (changed r delays e book)) (path_sum (edge_ops r) (web (edge_ops r) book))
      (path_sum (edge_ops r) (web (edge_ops r) (changed r delays e book)))

  module _ (l : Lent) where
    -- the refusal or the count of an edit whose tag stands at a place
    unfoldable pub answer : Book (EdgeMatrix G) → (at : ℕ) → Edit → Result ℕ EditFault
    answer book at e = unless (judge (edge_ops r) book l at e) (count book e)

    -- the book after an edit: a refused one changes nothing
    abbrev pub next_by : Option EditFault → Book (EdgeMatrix G) → Edit → Book (EdgeMatrix G)
    next_by None book e = changed r delays e book
    next_by (Some d) book e = book

    unfoldable pub next : Book (EdgeMatrix G) → (at : ℕ) → Edit → Book (EdgeMatrix G)
    next book at e = next_by (judge (edge_ops r) book l at e) book e

    -- the answer to a field of a script, and the book after it: what it lacks, or what its edit answers
    abbrev pub field_answer : Book (EdgeMatrix G) → (at : ℕ) → Result Edit FieldFault → Result ℕ ScriptFault
    field_answer book at (Ok e) = as_call (answer book at e)
    field_answer book at (Err d) = Err (fault.Field d)

    abbrev pub field_next : Book (EdgeMatrix G) → (at : ℕ) → Result Edit FieldFault → Book (EdgeMatrix G)
    field_next book at (Ok e) = next book at e
    field_next book at (Err d) = book

    -- fields in order up to the first refusal: the sum of their counts, or the refusal
    abbrev pub summed : (total : ℕ) → Result ℕ ScriptFault → (ℕ → Result ℕ ScriptFault) → Result ℕ ScriptFault
    summed total (Ok n) rest = rest (total + n)
    summed total (Err d) rest = Err d

    abbrev pub fields_answer : Book (EdgeMatrix G) → (total : ℕ) → List (Placed Edit) → Result ℕ ScriptFault
    fields_answer book total [] = Ok total
    fields_answer book total (f ∷ fs) =
        summed total (field_answer book f.at f.said) (λ t. fields_answer (field_next book f.at f.said) t fs)

    -- and the book after them
    abbrev pub fields_next : Book (EdgeMatrix G) → List (Placed Edit) → Book (EdgeMatrix G)
    fields_next book [] = book
    fields_next book (f ∷ fs) =
        cond (is_ok (field_answer book f.at f.said)) (fields_next (field_next book f.at f.said) fs) book

    -- why a script is refused before its first field: as an edit that marks, then for its length
    abbrev pub length_fault : List ℕ → Option ScriptFault
    length_fault file = cond (nat_lt max_bytes (length file)) (Some fault.FileTooLong) None

    abbrev pub script_fault : Option EditFault → List ℕ → Option ScriptFault
    script_fault (Some d) file = Some (fault.Edit d)
    script_fault None file = length_fault file

    abbrev pub judge_script : Book (EdgeMatrix G) → List ℕ → Option ScriptFault
    judge_script book file = script_fault (room_fault true l (length book)) file

    abbrev pub script_by : Option ScriptFault → Book (EdgeMatrix G) → List ℕ → Result ℕ ScriptFault
    script_by None book file = fields_answer book 0 (fields edit_of file)
    script_by (Some d) book file = Err d

    abbrev pub script_next_by : Option ScriptFault → Book (EdgeMatrix G) → List ℕ → Book (EdgeMatrix G)
    script_next_by None book file = fields_next book (fields edit_of file)
    script_next_by (Some d) book file = book

    -- the answer to a call, and the book after it
    abbrev pub call_answer : Book (EdgeMatrix G) → Call → Result ℕ ScriptFault
    call_answer book (edit e) = as_call (answer book 0 e)
    call_answer book (script file) = script_by (judge_script book file) book file

    abbrev pub call_next : Book (EdgeMatrix G) → Call → Book (EdgeMatrix G)
    call_next book (edit e) = next book 0 e
    call_next book (script file) = script_next_by (judge_script book file) book file

  -- a run: calls one after another, each with what it is lent
  abbrev pub answers : Book (EdgeMatrix G) → List Lending → List (Result ℕ ScriptFault)
  answers book [] = []
  answers book (c ∷ cs) = call_answer c.lent book c.call ∷ answers (call_next c.lent book c.call) cs

  abbrev pub last : Book (EdgeMatrix G) → List Lending → Book (EdgeMatrix G)
  last book [] = book
  last book (c ∷ cs) = last (call_next c.lent book c.call) cs
