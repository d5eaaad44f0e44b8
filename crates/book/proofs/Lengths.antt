-- No edit changes how many signals the book has.
use Rattle.std.proofs.Common.{◌≡◌, ℕ, length, Some, None, Ok, Err, Option, Result, refl}
use Rattle.gauge.specs.Matrix.{edge_ops}
use Rattle.gauge.specs.Semirings.{Ops}
use Rattle.gauge.specs.declared.matrix.EdgeMatrix.{EdgeMatrix}
use Rattle.fields.specs.declared.edit.Edit.{Edit}
use Rattle.fields.specs.declared.faults.FieldFault.{FieldFault}
use Rattle.book.specs.declared.edit_fault.EditFault.{EditFault}
use Rattle.book.specs.Books.{Book}
use Rattle.book.specs.Judging.{Lent, judge}
use Rattle.book.specs.Answers.{next_by, next, field_next}
use Rattle.book.proofs.Editing.{changed_long}

module _ {G : Type 0} (r : Ops G) (delays : ℕ → ℕ → G) where
  module _ (l : Lent) (book : Book (EdgeMatrix G)) (at : ℕ) where
    next_by_long : (o : Option EditFault) (e : Edit) → length (next_by r delays l o book e) ≡ length book
    next_by_long None e = changed_long r delays e book
    next_by_long (Some d) e = refl

    pub next_long : (e : Edit) → length (next r delays l book at e) ≡ length book
    unfolding next
    next_long e = next_by_long (judge (edge_ops r) book l at e) e

    pub field_next_long : (said : Result Edit FieldFault) → length (field_next r delays l book at said) ≡ length book
    field_next_long (Ok e) = next_long e
    field_next_long (Err d) = refl
