-- The book that a board stands for.
use Rattle.std.specs.Prelude.{ℕ, ◌+◌, ◌*◌, length}
use Rattle.gauge.specs.Semirings.{Ops}
use Rattle.paths.specs.Sums.{AreSums}
use Rattle.network.specs.Net.{signals}
use Rattle.settling.specs.Tables.{cells}
use Rattle.opening.specs.Boards.{View}
use Rattle.book.specs.Books.{Book, book_by, web}
use Rattle.book.specs.Judging.{Lent}

module _ {V : Type 0} where
  -- the network's signals, with the starts and the weights that the tables hold
  abbrev pub book_of : Ops V → View V → Book V
  book_of r x = book_by (signals x.network) (cells r x.starts) (λ s k. cells r x.weights (4 * s + k))

  -- a signal's value
  abbrev pub value_of : Ops V → View V → ℕ → V
  value_of r x = cells r x.values

  -- every signal carries the sum over all paths that end there
  abbrev pub Sums : Ops V → View V → Type 0
  Sums r x = AreSums r (web r (book_of r x)) (value_of r x)

  -- what a call on the board is lent, with a strip of so many cells and a list of this limit
  abbrev pub lent_of : View V → (strip limit : ℕ) → Lent
  lent_of x strip limit = record { starts = length x.starts; weights = length x.weights; values = length x.values; strip = strip; limit = limit }
