-- An edit changes the book at the edited signal alone.
use Rattle.std.proofs.Common.{◌≡◌, ℕ, false, map, length, ap}
use Rattle.std.proofs.lemmas.Bool.{eqb-false}
use Rattle.gauge.specs.Matrix.{edge_ops}
use Rattle.gauge.specs.Semirings.{Ops}
use Rattle.gauge.specs.declared.matrix.EdgeMatrix.{EdgeMatrix}
use Rattle.paths.specs.Edits.{only}
use Rattle.paths.specs.Web.{SameExcept}
use Rattle.fields.specs.declared.edit.Edit.{Edit}
use Rattle.book.specs.Books.{Entry, Book, none, entry, wire_of, web}
use Rattle.book.specs.Changes.{edited_by, edited, changed}
use Rattle.book.proofs.Updating.{length_update, get_or_update_other}

module _ {G : Type 0} (r : Ops G) (delays : ℕ → ℕ → G) (e : Edit) (book : Book (EdgeMatrix G)) where
  pub changed_long : length (changed r delays e book) ≡ length book
  changed_long = length_update (edited_by e) (edited r delays e) book

  pub entry_else : (s : ℕ) → only (edited_by e) s ≡ false → entry (edge_ops r) (changed r delays e book) s ≡ entry (edge_ops r) book s
  entry_else s un = get_or_update_other (edited_by e) s (edited r delays e) book (none (edge_ops r)) (eqb-false s (edited_by e) un)

  pub same_except : SameExcept (only (edited_by e)) (web (edge_ops r) book) (web (edge_ops r) (changed r delays e book))
  same_except = record {
    size = changed_long;
    start = λ s h un. ap (λ (x : Entry (EdgeMatrix G)). x.start) (entry_else s un);
    into = λ s h un. ap (λ (x : Entry (EdgeMatrix G)). map wire_of x.pins) (entry_else s un);
  }
