-- What an accepted edit leaves of the lengths: the tables are as long as they were, and the signals as many.
use Rattle.std.proofs.Common.{◌≡◌, ℕ, ◌+◌, ◌*◌, List, length, sym, refl, ap, ◌∙◌}
use Rattle.std.proofs.lemmas.List.{length-set}
use Rattle.gauge.specs.Matrix.{edge_ops}
use Rattle.gauge.specs.Semirings.{Ops}
use Rattle.gauge.specs.declared.matrix.EdgeMatrix.{EdgeMatrix}
use Rattle.network.specs.Net.{signals, size}
use Rattle.network.specs.declared.signal.Signal.{Signal}
use Rattle.network.proofs.Rewired.{rewired_length}
use Rattle.fields.specs.declared.edit.Edit.{Edit}
use Rattle.fields.specs.declared.edit.Edit.TheVariants.{SetDelay, SetStart, Rewire, Cut}
use Rattle.opening.specs.Boards.{View}
use Rattle.board.specs.Books.{book_of, lent_of}
use Rattle.board.specs.Steps.{signals_after, starts_after, weights_after, Accepted}
use Rattle.board.proofs.Webs.{book_long}

pub signals_long : (e : Edit) (xs : List Signal) → length (signals_after e xs) ≡ length xs
signals_long (SetDelay g k t) xs = refl
signals_long (SetStart s t) xs = refl
signals_long (Rewire g k u) xs = rewired_length xs g k u
signals_long (Cut g k) xs = refl

module _ {G : Type 0} (r : Ops G) (delays : ℕ → ℕ → G) where
  pub starts_long : (e : Edit) (starts : List (EdgeMatrix G)) → length (starts_after r delays e starts) ≡ length starts
  starts_long (SetDelay g k t) starts = refl
  starts_long (SetStart s t) starts = length-set starts s _
  starts_long (Rewire g k u) starts = refl
  starts_long (Cut g k) starts = refl

  pub weights_long : (xs : List Signal) (e : Edit) (weights : List (EdgeMatrix G)) → length (weights_after r delays xs e weights) ≡ length weights
  weights_long xs (SetDelay g k t) weights = length-set weights (4 * g + k) _
  weights_long xs (SetStart s t) weights = refl
  weights_long xs (Rewire g k u) weights = refl
  weights_long xs (Cut g k) weights = length-set weights (4 * g + k) _

  module _ (e : Edit) (x y : View (EdgeMatrix G)) (n : ℕ) (done : Accepted r delays e x y n) where
    pub accepted_size : size y.network ≡ size x.network
    accepted_size = ap length done.signals ∙ signals_long e (signals x.network)

    pub accepted_book_long : length (book_of (edge_ops r) y) ≡ length (book_of (edge_ops r) x)
    accepted_book_long = book_long (edge_ops r) y ∙ (accepted_size ∙ sym (book_long (edge_ops r) x))

    -- a call is lent the same after the edit
    pub accepted_lent : (strip limit : ℕ) → lent_of y strip limit ≡ lent_of x strip limit
    accepted_lent strip limit =
        let s : length y.starts ≡ length x.starts = ap length done.starts ∙ starts_long e x.starts in
        let w : length y.weights ≡ length x.weights = ap length done.weights ∙ weights_long (signals x.network) e x.weights in
        let v = done.long in
        cc
