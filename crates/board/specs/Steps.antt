-- What an edit answers and leaves on a board, whatever its values.
use Rattle.std.specs.Prelude.{◌≡◌, ℕ, ◌+◌, ◌*◌, List, length, drop, Some, None, Ok, Err, Result, slice_set}
use Rattle.gauge.specs.Matrix.{edge_ops}
use Rattle.gauge.specs.Semirings.{Ops}
use Rattle.gauge.specs.declared.matrix.EdgeMatrix.{EdgeMatrix}
use Rattle.weights.specs.Weights.{weight_of, start_of}
use Rattle.paths.specs.Edits.{only, Settled, edit_count}
use Rattle.network.specs.Net.{signals as signals_of, size}
use Rattle.network.specs.Rewiring.{rewired_at}
use Rattle.network.specs.Senses.{raises_in, lowers_in}
use Rattle.network.specs.Wiring.{driver}
use Rattle.network.specs.declared.signal.Signal.{Signal}
use Rattle.fields.specs.declared.edit.Edit.{Edit}
use Rattle.fields.specs.declared.edit.Edit.TheVariants.{SetDelay, SetStart, Rewire, Cut}
use Rattle.opening.specs.Boards.{View}
use Rattle.book.specs.declared.edit_fault.EditFault.{EditFault}
use Rattle.book.specs.Books.{web}
use Rattle.book.specs.Changes.{edited_by}
use Rattle.book.specs.Judging.{judge}
use Rattle.book.specs.Answers.{answer, next}
use Rattle.board.specs.Books.{book_of, value_of, Sums, lent_of}

-- the signals after an accepted edit: a rewiring changes one pin's signal
abbrev pub signals_after : Edit → List Signal → List Signal
signals_after (SetDelay g k t) xs = xs
signals_after (SetStart s t) xs = xs
signals_after (Rewire g k u) xs = rewired_at xs g k u
signals_after (Cut g k) xs = xs

module _ {G : Type 0} (r : Ops G) (delays : ℕ → ℕ → G) where
  -- the tables of starts and of weights after an accepted edit, every cell
  abbrev pub starts_after : Edit → List (EdgeMatrix G) → List (EdgeMatrix G)
  starts_after (SetDelay g k t) starts = starts
  starts_after (SetStart s t) starts = slice_set starts s (start_of r delays t)
  starts_after (Rewire g k u) starts = starts
  starts_after (Cut g k) starts = starts

  abbrev pub weights_after : List Signal → Edit → List (EdgeMatrix G) → List (EdgeMatrix G)
  weights_after xs (SetDelay g k t) weights = slice_set weights (4 * g + k) (weight_of r delays (raises_in (driver xs g) k) (lowers_in (driver xs g) k) t)
  weights_after xs (SetStart s t) weights = weights
  weights_after xs (Rewire g k u) weights = weights
  weights_after xs (Cut g k) weights = slice_set weights (4 * g + k) (edge_ops r).zero

  -- an accepted edit takes the board x to y: the edited signal is worked again, and so is each signal fed by one whose cell changed;
  -- n is their number, and every other cell is as it was
  pub record Accepted (e : Edit) (x y : View (EdgeMatrix G)) (n : ℕ) : Type 0 where
    pub signals : signals_of y.network ≡ signals_after e (signals_of x.network)
    pub starts : y.starts ≡ starts_after e x.starts
    pub weights : y.weights ≡ weights_after (signals_of x.network) e x.weights
    pub long : length y.values ≡ length x.values
    pub past : drop (size x.network) y.values ≡ drop (size x.network) x.values
    pub settled : Settled (edge_ops r) (only (edited_by e)) (web (edge_ops r) (book_of (edge_ops r) y)) (value_of (edge_ops r) x) (value_of (edge_ops r) y)
    pub count : n ≡ edit_count (edge_ops r) (edited_by e) (web (edge_ops r) (book_of (edge_ops r) y)) (value_of (edge_ops r) x) (value_of (edge_ops r) y)

  module _ (strip limit at : ℕ) (e : Edit) (x y : View (EdgeMatrix G)) where
    -- an edit is refused as the book says, and nothing has moved; or it is accepted
    abbrev pub Stepped : Result ℕ EditFault → Type 0
    Stepped (Ok n) = (judge (edge_ops r) (book_of (edge_ops r) x) (lent_of x strip limit) at e ≡ None) × Accepted e x y n
    Stepped (Err d) = (judge (edge_ops r) (book_of (edge_ops r) x) (lent_of x strip limit) at e ≡ Some d) × (y ≡ x)

    -- the board follows the book: wires, weights and starts in any case, and where the values were path sums,
    -- they are path sums again and the answer is the book's
    pub record Follows (a : Result ℕ EditFault) : Type 0 where
      pub book : book_of (edge_ops r) y ≡ next r delays (lent_of x strip limit) (book_of (edge_ops r) x) at e
      pub sums : Sums (edge_ops r) x → Sums (edge_ops r) y
      pub told : Sums (edge_ops r) x → a ≡ answer r delays (lent_of x strip limit) (book_of (edge_ops r) x) at e
