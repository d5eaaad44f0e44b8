-- What holds of every book under scripts.
use Rattle.std.specs.Prelude.{◌≡◌, ℕ, List, take, None, Ok, Err}
use Rattle.gauge.specs.Semirings.{Ops}
use Rattle.gauge.specs.declared.matrix.EdgeMatrix.{EdgeMatrix}
use Rattle.book.specs.declared.script_fault.ScriptFault.{ScriptFault}
use Rattle.book.specs.Books.{Book}
use Rattle.book.specs.Faults.{script_refusal}
use Rattle.book.specs.Judging.{Lent}
use Rattle.book.specs.Answers.{script, judge_script, call_answer, call_next}

module _ {G : Type 0} (r : Ops G) (delays : ℕ → ℕ → G) where
  -- a script that stops at a field leaves the book as if it had ended just before it
  abbrev pub StopsAsIfEnded : Type 0
  StopsAsIfEnded = (l : Lent) (book : Book (EdgeMatrix G)) (file : List ℕ) (d : ScriptFault)
      → judge_script r delays l book file ≡ None → call_answer r delays l book (script file) ≡ Err d
      → ((n : ℕ) × (call_answer r delays l book (script (take (script_refusal d).place file)) ≡ Ok n))
      × (call_next r delays l book (script (take (script_refusal d).place file)) ≡ call_next r delays l book (script file))
