-- What a script that stops at a field leaves.
use Rattle.std.specs.Prelude.{◌≡◌, ℕ, List, take, None, Ok, Err, Result}
use Rattle.gauge.specs.Matrix.{edge_ops}
use Rattle.gauge.specs.Semirings.{Ops}
use Rattle.gauge.specs.declared.matrix.EdgeMatrix.{EdgeMatrix}
use Rattle.opening.specs.Boards.{View}
use Rattle.book.specs.declared.script_fault.ScriptFault.{ScriptFault}
use Rattle.book.specs.Answers.{judge_script}
use Rattle.book.specs.Faults.{script_refusal}
use Rattle.board.specs.Books.{book_of, lent_of}
use Rattle.board.specs.Runs.{Scripted}

module _ {G : Type 0} (r : Ops G) (delays : ℕ → ℕ → G) (strip limit : ℕ) (file : List ℕ) (x y : View (EdgeMatrix G)) where
  -- a script that stops at a field leaves the board as the bytes before that field do, whatever its values
  abbrev pub EndsBefore : Result ℕ ScriptFault → Type 0
  EndsBefore (Ok n) = Unit {0}
  EndsBefore (Err d) = judge_script r delays (lent_of x strip limit) (book_of (edge_ops r) x) file ≡ None
      → (n : ℕ) × Scripted r delays strip limit (take (script_refusal d).place file) x y (Ok n)
