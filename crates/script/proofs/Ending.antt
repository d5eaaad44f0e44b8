-- How a script ends.
use Rattle.std.proofs.Common.{◌≡◌, ℕ, List, Some, None, Ok, Err, Option, Result, sym, refl, subst}
use Rattle.gauge.specs.Matrix.{edge_ops}
use Rattle.gauge.specs.Semirings.{Ops}
use Rattle.gauge.specs.declared.matrix.EdgeMatrix.{EdgeMatrix}
use Rattle.fields.specs.Lists.{fields}
use Rattle.fields.specs.Says.{edit_of}
use Rattle.opening.specs.Boards.{View}
use Rattle.book.specs.declared.script_fault.ScriptFault.{ScriptFault}
use Rattle.book.specs.Answers.{judge_script}
use Rattle.board.specs.Books.{book_of, lent_of}
use Rattle.board.specs.Runs.{Taken, ScriptedBy, Scripted}
use Rattle.board.proofs.Stopped.{stopped_scripts}
use Rattle.script.specs.Stops.{EndsBefore}

module _ {G : Type 0} (r : Ops G) (delays : ℕ → ℕ → G) (strip limit : ℕ) (file : List ℕ) (x y : View (EdgeMatrix G)) where
  abbrev judged : Option ScriptFault
  judged = judge_script r delays (lent_of x strip limit) (book_of (edge_ops r) x) file

  -- refused before its first field
  pub script_refused : (d : ScriptFault) (a : Result ℕ ScriptFault) → judged ≡ Some d → a ≡ Err d → Scripted r delays strip limit file x x a
  script_refused d a h is = subst (λ (o : Option ScriptFault). ScriptedBy r delays strip limit o file x x a) (sym h) (refl, is)

  -- or its fields are taken
  pub script_taken : (a : Result ℕ ScriptFault) → judged ≡ None → Taken r delays strip limit (fields edit_of file) 0 x y a → Scripted r delays strip limit file x y a
  script_taken a h taken = subst (λ (o : Option ScriptFault). ScriptedBy r delays strip limit o file x y a) (sym h) taken

  pub ends_before : (a : Result ℕ ScriptFault) → Scripted r delays strip limit file x y a → EndsBefore r delays strip limit file x y a
  ends_before (Ok n) h = tt
  ends_before (Err d) h = λ passed. stopped_scripts r delays strip limit file x y d passed h
