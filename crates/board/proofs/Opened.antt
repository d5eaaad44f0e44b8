-- An opened board stands for the book of its files, and its values are that book's path sums.
use Rattle.std.proofs.Common.{◌≡◌, ℕ, ◌+◌, ◌*◌, ◌<◌, false, List, sym, ap, ◌∙◌, arith}
use Rattle.std.proofs.lemmas.Bool.{lt-ltb, cond-true}
use Rattle.gauge.specs.Matrix.{edge_ops}
use Rattle.gauge.specs.Semirings.{Ops, Laws}
use Rattle.gauge.specs.declared.matrix.EdgeMatrix.{EdgeMatrix}
use Rattle.gauge.specs.Matrices.{edge_laws}
use Rattle.weights.specs.Weights.{weight_of}
use Rattle.weights.specs.declared.times.Times.{Times}
use Rattle.paths.proofs.Sums.{agree_in_sums}
use Rattle.network.specs.Net.{signals, size}
use Rattle.network.specs.Senses.{raises, lowers, raises_in, lowers_in}
use Rattle.network.specs.Wiring.{driver, number_of_pins}
use Rattle.network.specs.declared.signal.Driver.{Driver}
use Rattle.network.specs.declared.signal.Driver.TheVariants.{Undriven, Input, Latched, Gated}
use Rattle.delays.proofs.Marking.{small}
use Rattle.settling.specs.Tables.{cells}
use Rattle.settling.proofs.Shapes.{ranks}
use Rattle.opening.specs.Boards.{View, is_short}
use Rattle.opening.specs.Cells.{driver_weight}
use Rattle.opening.specs.Forwards.{forwards, forwards_sound}
use Rattle.opening.specs.Opens.{opened_view}
use Rattle.opening.proofs.Agreeing.{counted_same, file_sums}
use Rattle.opening.proofs.Holding.{opened_holds}
use Rattle.book.specs.Books.{entry_by}
use Rattle.book.specs.Filed.{filed_start, filed_weight, filed}
use Rattle.board.specs.Books.{book_of, Sums}
use Rattle.board.proofs.Following.{entry_from, entry_same}
use Rattle.board.proofs.Webs.{book_long, entry_of, webs_agree}

module _ {G : Type 0} (r : Ops G) (delays : ℕ → ℕ → G) where
  -- a pin that is there weighs by its sense
  pin_weight : (d : Driver) (k : ℕ) (t : Times) → k < number_of_pins d → driver_weight r delays d k t ≡ weight_of r delays (raises_in d k) (lowers_in d k) t
  pin_weight Undriven k t l = absurd (omega arith)
  pin_weight Input k t l = absurd (omega arith)
  pin_weight (Latched _) k t l = absurd (omega arith)
  pin_weight (Gated g) k t l = cond-true _ (weight_of r delays (raises g k) (lowers g k) t) (edge_ops r).zero (lt-ltb k g.pin_count l)

  pub opened_is_filed : (file : List ℕ) (view : View (EdgeMatrix G)) → is_short view ≡ false
      → book_of (edge_ops r) (opened_view r delays file view) ≡ filed r delays (signals view.network) file
  opened_is_filed file view fits =
      let xs = signals view.network in
      let holds = opened_holds G r delays file view fits in
      counted_same (entry_of (edge_ops r) (opened_view r delays file view)) (entry_by xs (filed_start r delays xs file) (filed_weight r delays xs file)) 0 (size view.network)
      (λ s l.
      let in' : s < size view.network = omega arith in
      let d = driver xs s in
      ap (λ (v : EdgeMatrix G). entry_from d v (λ k. cells (edge_ops r) (opened_view r delays file view).weights (4 * s + k))) (holds.starts s in')
      ∙ entry_same d (filed_start r delays xs file s) (filed_weight r delays xs file s) _
      (λ k lk. holds.weights s k in' (omega (arith, (small view.network).pins s)) ∙ pin_weight d k _ lk))

  pub opened_sums : Laws r → (file : List ℕ) (view : View (EdgeMatrix G)) → is_short view ≡ false → Sums (edge_ops r) (opened_view r delays file view)
  opened_sums laws file view fits s l =
      let net = view.network in
      let opened = opened_view r delays file view in
      let in' : s < size net = omega (arith, book_long (edge_ops r) opened) in
      (opened_holds G r delays file view fits).values s in'
      ∙ sym (file_sums r delays net file view.starts view.weights laws s in')
      ∙ agree_in_sums (edge_ops r) (edge_laws laws) _ _ (ranks (EdgeMatrix G) (edge_ops r) (forwards net) (forwards_sound net) _ _) (webs_agree (edge_ops r) opened) s l
