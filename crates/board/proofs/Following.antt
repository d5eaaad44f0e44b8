-- A board that an edit has stepped as told follows the book.
use Rattle.std.proofs.Common.{◌≡◌, ℕ, ◌+◌, ◌*◌, ◌<◌, ◌≤◌, true, false, ◌≢◌, List, map, length, set, Ok, Err, Option, Result, sym, refl, ap, ◌∙◌, subst, arith}
use Rattle.std.specs.List.{range_with_len}
use Rattle.std.proofs.lemmas.List.{get_or-set_same, get_or-set_other}
use Rattle.gauge.specs.Matrix.{edge_ops}
use Rattle.gauge.specs.Semirings.{Ops, Laws}
use Rattle.gauge.specs.declared.matrix.EdgeMatrix.{EdgeMatrix}
use Rattle.gauge.specs.Matrices.{edge_laws}
use Rattle.weights.specs.Weights.{weight_of, start_of}
use Rattle.paths.specs.Edits.{only, edit_count}
use Rattle.paths.specs.Sums.{path_sum}
use Rattle.paths.specs.Theorems.{EditRight}
use Rattle.paths.specs.Web.{SameExcept}
use Rattle.paths.proofs.Edits.{edits_right}
use Rattle.network.specs.Net.{signals as signals_of, size}
use Rattle.network.specs.Rewiring.{rewired_driver}
use Rattle.network.specs.Senses.{raises_in, lowers_in}
use Rattle.network.specs.Wiring.{absent, driver, is_source, number_of_pins, signal_at_pin}
use Rattle.network.specs.declared.signal.Driver.{Driver}
use Rattle.network.specs.declared.signal.Driver.TheVariants.{Undriven, Input, Latched, Gated}
use Rattle.network.specs.declared.signal.Signal.{Signal}
use Rattle.fields.specs.declared.edit.Edit.{Edit}
use Rattle.fields.specs.declared.edit.Edit.TheVariants.{SetDelay, SetStart, Rewire, Cut}
use Rattle.delays.proofs.Marking.{small}
use Rattle.settling.specs.Tables.{cells}
use Rattle.opening.specs.Boards.{View}
use Rattle.opening.proofs.Agreeing.{counted_same}
use Rattle.book.specs.declared.edit_fault.EditFault.{EditFault}
use Rattle.book.specs.Books.{Pin, Entry, Book, web, entry_by, book_by}
use Rattle.book.specs.Changes.{reweighed, refed, repinned, edited_by, edited, changed}
use Rattle.book.specs.Judging.{has_pin, known, judge}
use Rattle.book.specs.Answers.{unless, count, answer, next_by, next}
use Rattle.book.proofs.Updating.{counted_update}
use Rattle.book.proofs.Editing.{same_except}
use Rattle.book.proofs.Judged.{admitted}
use Rattle.board.specs.Books.{book_of, value_of, Sums, lent_of}
use Rattle.board.specs.Steps.{signals_after, starts_after, weights_after, Stepped, Follows}
use Rattle.board.proofs.Lasting.{signals_long, accepted_lent}
use Rattle.board.proofs.Webs.{entry_of, book_long, pin_within, book_ranks}

-- the entry of a signal with this driver, this start and these weights at its pins
abbrev weighed : {V : Type 0} → Driver → ℕ → V → Pin V
weighed d k y = record { from = signal_at_pin d k; raises = raises_in d k; lowers = lowers_in d k; weight = y }

abbrev pin_from : {V : Type 0} → Driver → (ℕ → V) → ℕ → Pin V
pin_from d w k = weighed d k (w k)

abbrev pub entry_from : {V : Type 0} → Driver → V → (ℕ → V) → Entry V
entry_from d v w = record { source = is_source d; start = v; pins = map (pin_from d w) (range_with_len 0 (number_of_pins d)) }

module _ {V : Type 0} (d : Driver) (v : V) where
  pub entry_same : (w w' : ℕ → V) → ((k : ℕ) → k < number_of_pins d → w' k ≡ w k) → entry_from d v w' ≡ entry_from d v w
  entry_same w w' same =
      ap (λ (ps : List (Pin V)). record { source = is_source d; start = v; pins = ps })
      (counted_same (pin_from d w') (pin_from d w) 0 (number_of_pins d) (λ k l. ap (weighed d k) (same k (omega arith))))

  entry_reweighed : (w w' : ℕ → V) (k : ℕ) (f : Pin V → V) → (k < number_of_pins d → w' k ≡ f (pin_from d w k)) → ((j : ℕ) → j < number_of_pins d → j ≢ k → w' j ≡ w j)
      → entry_from d v w' ≡ repinned k (reweighed f) (entry_from d v w)
  entry_reweighed w w' k f here others =
      ap (λ (ps : List (Pin V)). record { source = is_source d; start = v; pins = ps })
      (counted_update (pin_from d w) (pin_from d w') (number_of_pins d) k (reweighed f) (λ l. ap (weighed d k) (here l)) (λ j l ne. ap (weighed d j) (others j l ne)))

entry_refed : {V : Type 0} (d : Driver) (v : V) (w : ℕ → V) (k u : ℕ) → entry_from (rewired_driver d k u) v w ≡ repinned k (refed u) (entry_from d v w)
entry_refed Undriven v w k u = refl
entry_refed Input v w k u = refl
entry_refed (Latched l) v w k u = refl
entry_refed {V} (Gated g) v w k u =
    let fed_by : (j : ℕ) → ℕ → Pin V = λ j s. record { from = s; raises = raises_in (Gated g) j; lowers = lowers_in (Gated g) j; weight = w j } in
    ap (λ (ps : List (Pin V)). record { source = false; start = v; pins = ps })
    (counted_update (pin_from (Gated g) w) (pin_from (rewired_driver (Gated g) k u) w) g.pin_count k (refed u)
    (λ l. ap (fed_by k) (get_or-set_same g.pins k u 0 (omega (arith, g.few, g.wide))))
    (λ j l ne. ap (fed_by j) (get_or-set_other g.pins k j u 0 ne)))

module _ {G : Type 0} (r : Ops G) (delays : ℕ → ℕ → G) where
  module _ (x : View (EdgeMatrix G)) where
    -- the entries after an edit
    abbrev after : Edit → ℕ → Entry (EdgeMatrix G)
    after e = entry_by (signals_after e (signals_of x.network)) (cells (edge_ops r) (starts_after r delays e x.starts))
        (λ s k. cells (edge_ops r) (weights_after r delays (signals_of x.network) e x.weights) (4 * s + k))

    module _ (weights-fit : 4 * size x.network ≤ length x.weights) (starts_fit : size x.network ≤ length x.starts) where
      weight_here : (g k : ℕ) (f : Pin (EdgeMatrix G) → EdgeMatrix G) → g < size x.network
          → let d = driver (signals_of x.network) g in
          let w = λ (j : ℕ). cells (edge_ops r) x.weights (4 * g + j) in
          entry_from d (cells (edge_ops r) x.starts g) (λ j. cells (edge_ops r) (set x.weights (4 * g + k) (f (pin_from d w k))) (4 * g + j))
          ≡ repinned k (reweighed f) (entry_of (edge_ops r) x g)
      weight_here g k f in' =
          entry_reweighed (driver (signals_of x.network) g) (cells (edge_ops r) x.starts g) _ _ k f
          (λ l. get_or-set_same x.weights (4 * g + k) _ (edge_ops r).zero (omega (arith, (small x.network).pins g)))
          (λ j l ne. get_or-set_other x.weights (4 * g + k) (4 * g + j) _ (edge_ops r).zero (λ e. ne (omega arith)))

      entry_here : (e : Edit) → edited_by e < size x.network → after e (edited_by e) ≡ edited r delays e (entry_of (edge_ops r) x (edited_by e))
      entry_here (SetDelay g k t) in' = weight_here g k (λ p. weight_of r delays p.raises p.lowers t) in'
      entry_here (SetStart s t) in' =
          ap (λ (v : EdgeMatrix G). entry_from (driver (signals_of x.network) s) v (λ k. cells (edge_ops r) x.weights (4 * s + k)))
          (get_or-set_same x.starts s (start_of r delays t) (edge_ops r).zero (omega arith))
      entry_here (Rewire g k u) in' =
          let w = λ (j : ℕ). cells (edge_ops r) x.weights (4 * g + j) in
          ap (λ (y : Signal). entry_from y.driver (cells (edge_ops r) x.starts g) w) (get_or-set_same (signals_of x.network) g _ absent in')
          ∙ entry_refed (driver (signals_of x.network) g) (cells (edge_ops r) x.starts g) w k u
      entry_here (Cut g k) in' = weight_here g k (λ p. (edge_ops r).zero) in'

    weight_else : (g k : ℕ) (v : EdgeMatrix G) → has_pin (edge_ops r) (book_of (edge_ops r) x) g k ≡ true → (s : ℕ) → s ≢ g
        → entry_from (driver (signals_of x.network) s) (cells (edge_ops r) x.starts s) (λ j. cells (edge_ops r) (set x.weights (4 * g + k) v) (4 * s + j)) ≡ entry_of (edge_ops r) x s
    weight_else g k v has s ne =
        let low : k < 4 = omega (arith, (pin_within (edge_ops r) x g k has).1, (small x.network).pins g) in
        entry_same (driver (signals_of x.network) s) (cells (edge_ops r) x.starts s) _ _
        (λ j l. get_or-set_other x.weights (4 * g + k) (4 * s + j) v (edge_ops r).zero (λ e. ne (omega (arith, (small x.network).pins s))))

    entry_else : (e : Edit) → known (edge_ops r) (book_of (edge_ops r) x) e ≡ true → (s : ℕ) → s ≢ edited_by e → after e s ≡ entry_of (edge_ops r) x s
    entry_else (SetDelay g k t) is s ne = weight_else g k _ is s ne
    entry_else (SetStart u t) is s ne =
        ap (λ (v : EdgeMatrix G). entry_from (driver (signals_of x.network) s) v (λ k. cells (edge_ops r) x.weights (4 * s + k)))
        (get_or-set_other x.starts u s (start_of r delays t) (edge_ops r).zero ne)
    entry_else (Rewire g k u) is s ne =
        ap (λ (y : Signal). entry_from y.driver (cells (edge_ops r) x.starts s) (λ j. cells (edge_ops r) x.weights (4 * s + j)))
        (get_or-set_other (signals_of x.network) g s _ absent ne)
    entry_else (Cut g k) is s ne = weight_else g k _ is s ne

  pub book_after : (e : Edit) (x y : View (EdgeMatrix G)) → known (edge_ops r) (book_of (edge_ops r) x) e ≡ true
      → 4 * size x.network ≤ length x.weights → size x.network ≤ length x.starts
      → signals_of y.network ≡ signals_after e (signals_of x.network) → y.starts ≡ starts_after r delays e x.starts
      → y.weights ≡ weights_after r delays (signals_of x.network) e x.weights
      → book_of (edge_ops r) y ≡ changed r delays e (book_of (edge_ops r) x)
  book_after e x y is weights-fit starts_fit signals starts weights =
      (λ i. book_by (signals i) (cells (edge_ops r) (starts i)) (λ s k. cells (edge_ops r) (weights i) (4 * s + k)))
      ∙ ap (λ n. map (after x e) (range_with_len 0 n)) (signals_long e (signals_of x.network))
      ∙ counted_update (entry_of (edge_ops r) x) (after x e) (size x.network) (edited_by e) (edited r delays e)
      (entry_here x weights-fit starts_fit e) (λ s l ne. entry_else x e is s ne)

  -- what an edit is lent stays as long
  pub step_lends : (strip limit at : ℕ) (e : Edit) (x y : View (EdgeMatrix G)) (a : Result ℕ EditFault) → Stepped r delays strip limit at e x y a
      → (strip' limit' : ℕ) → lent_of y strip' limit' ≡ lent_of x strip' limit'
  step_lends strip limit at e x y (Ok n) h strip' limit' = accepted_lent r delays e x y n h.1 strip' limit'
  step_lends strip limit at e x y (Err d) h strip' limit' = ap (λ (z : View (EdgeMatrix G)). lent_of z strip' limit') h.1

  -- what the book answers and how it stands after an edit, by what it judges
  module _ (strip limit at : ℕ) (e : Edit) (x : View (EdgeMatrix G)) {o : Option EditFault}
      (judged : judge (edge_ops r) (book_of (edge_ops r) x) (lent_of x strip limit) at e ≡ o) where
    pub next_judged : next r delays (lent_of x strip limit) (book_of (edge_ops r) x) at e ≡ next_by r delays (lent_of x strip limit) o (book_of (edge_ops r) x) e
    unfolding next
    next_judged = ap (λ (v : Option EditFault). next_by r delays (lent_of x strip limit) v (book_of (edge_ops r) x) e) judged

    pub answer_by : answer r delays (lent_of x strip limit) (book_of (edge_ops r) x) at e ≡ unless o (count r delays (book_of (edge_ops r) x) e)
    unfolding answer
    answer_by = ap (λ (v : Option EditFault). unless v (count r delays (book_of (edge_ops r) x) e)) judged

  pub follows : Laws r → (strip limit at : ℕ) (e : Edit) (x y : View (EdgeMatrix G)) (a : Result ℕ EditFault) → Stepped r delays strip limit at e x y a
      → Follows r delays strip limit at e x y a
  unfolding count
  follows laws strip limit at e x y (Err d) h = record {
    book = ap (book_of (edge_ops r)) h.1 ∙ sym (next_judged strip limit at e x h.0);
    sums = subst (Sums (edge_ops r)) (sym h.1);
    told = λ was. sym (answer_by strip limit at e x h.0);
  }
  follows laws strip limit at e x y (Ok n) h =
      let acc = h.1 in
      let book = book_of (edge_ops r) x in
      let old = web (edge_ops r) book in
      let new = web (edge_ops r) (book_of (edge_ops r) y) in
      let ok = admitted (edge_ops r) book (lent_of x strip limit) at e h.0 in
      let fits = ok.room in
      let long = book_long (edge_ops r) x in
      let next-book : book_of (edge_ops r) y ≡ changed r delays e book =
      book_after e x y ok.is_known (omega (arith, fits.weights_long)) (omega (arith, fits.starts_long)) acc.signals acc.starts acc.weights in
      let right : Sums (edge_ops r) x → EditRight (edge_ops r) (edited_by e) old new (value_of (edge_ops r) x) (value_of (edge_ops r) y) = λ was.
      edits_right (edge_ops r) (edge_laws laws) (edited_by e) old new (book_ranks (edge_ops r) x) (book_ranks (edge_ops r) y)
      (subst (λ (b : Book (EdgeMatrix G)). SameExcept (only (edited_by e)) old (web (edge_ops r) b)) (sym next-book) (same_except r delays e book))
      (value_of (edge_ops r) x) (value_of (edge_ops r) y) was acc.settled in
      record {
        book = next-book ∙ sym (next_judged strip limit at e x h.0);
        sums = λ was. (right was).sums;
        told = λ was.
            ap Ok
            (acc.count ∙ (right was).count
            ∙ ap (λ (b : Book (EdgeMatrix G)). edit_count (edge_ops r) (edited_by e) (web (edge_ops r) b) (path_sum (edge_ops r) old) (path_sum (edge_ops r) (web (edge_ops r) b))) next-book)
            ∙ sym (answer_by strip limit at e x h.0);
      }
