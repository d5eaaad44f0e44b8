-- The book as the two files say.
use Rattle.std.specs.Prelude.{ℕ, cond, List}
use Rattle.gauge.specs.Matrix.{edge_ops}
use Rattle.gauge.specs.Semirings.{Ops}
use Rattle.gauge.specs.declared.matrix.EdgeMatrix.{EdgeMatrix}
use Rattle.weights.specs.Weights.{weight_of, start_of}
use Rattle.network.specs.Senses.{raises_in, lowers_in}
use Rattle.network.specs.Wiring.{driver, is_source}
use Rattle.network.specs.declared.signal.Signal.{Signal}
use Rattle.delays.specs.Tables.{pin_times, source_times}
use Rattle.book.specs.Books.{Book, book_by}

module _ {G : Type 0} (r : Ops G) (delays : ℕ → ℕ → G) (xs : List Signal) (file : List ℕ) where
  -- a source starts by its times, and any other signal at zero
  abbrev pub filed_start : ℕ → EdgeMatrix G
  filed_start s = cond (is_source (driver xs s)) (start_of r delays (source_times file s)) (edge_ops r).zero

  -- a pin weighs by its sense and its times
  abbrev pub filed_weight : (s k : ℕ) → EdgeMatrix G
  filed_weight s k = weight_of r delays (raises_in (driver xs s) k) (lowers_in (driver xs s) k) (pin_times file s k)

  -- the book of a netlist's signals and a delay table
  abbrev pub filed : Book (EdgeMatrix G)
  filed = book_by xs filed_start filed_weight
