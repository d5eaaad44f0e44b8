-- What no call touches.
use Rattle.std.proofs.Common.{◌≡◌, ℕ, zero, suc, ◌+◌, ◌*◌, ◌<◌, ◌≤◌, true, List, [], ◌∷◌, length, get_or, drop, set, Some, Ok, Err, Result, sym, refl, ap, ◌∙◌, subst, ⊎_elim, arith}
use Rattle.std.specs.List.{slice_get}
use Rattle.std.specs.Option.{option_map}
use Rattle.std.proofs.lemmas.List.{drop-set-lt, get_or-set_other}
use Rattle.std.proofs.lemmas.Option.{slice_get-get_or, slice_get_past}
use Rattle.std.proofs.lemmas.Bool.{cases_lt}
use Rattle.gauge.specs.Matrix.{edge_ops}
use Rattle.gauge.specs.Semirings.{Ops}
use Rattle.gauge.specs.declared.matrix.EdgeMatrix.{EdgeMatrix}
use Rattle.network.specs.Net.{signals as signals_of, size, fanin}
use Rattle.network.specs.Rewiring.{rewired_driver, rewired}
use Rattle.network.specs.Wiring.{absent, number_of_pins}
use Rattle.network.specs.declared.signal.Driver.{Driver}
use Rattle.network.specs.declared.signal.Driver.TheVariants.{Undriven, Input, Latched, Gated}
use Rattle.network.specs.declared.signal.Signal.{Signal}
use Rattle.network.proofs.Rewired.{rewired_fanin}
use Rattle.fields.specs.declared.edit.Edit.{Edit}
use Rattle.fields.specs.declared.edit.Edit.TheVariants.{SetDelay, SetStart, Rewire, Cut}
use Rattle.delays.proofs.Marking.{small}
use Rattle.settling.specs.Tables.{cells}
use Rattle.opening.specs.Boards.{View}
use Rattle.opening.specs.Laws.{SamePast}
use Rattle.book.specs.declared.edit_fault.EditFault.{EditFault}
use Rattle.book.specs.declared.script_fault.ScriptFault.{ScriptFault}
use Rattle.book.specs.Judging.{has_pin, known}
use Rattle.book.specs.Answers.{Call}
use Rattle.book.proofs.Judged.{admitted}
use Rattle.board.specs.Books.{book_of, lent_of}
use Rattle.board.specs.Steps.{signals_after, starts_after, weights_after, Stepped}
use Rattle.board.specs.Runs.{Made, Called, Chained}
use Rattle.board.specs.Laws.{frame_of, Kept}
use Rattle.board.proofs.Carrying.{call_carries, chain_carries}
use Rattle.board.proofs.Lasting.{starts_long, weights_long, accepted_size}
use Rattle.board.proofs.Webs.{pin_within, source_within}

past_more : {V : Type 0} {n : ℕ} {a b c : List V} → SamePast n a b → SamePast n b c → SamePast n a c
past_more h k = record { long = k.long ∙ h.long; past = k.past ∙ h.past }

module _ {V : Type 0} (r : Ops V) where
  pub kept_none : (x : View V) → Kept r x x
  kept_none x = record {
    many = refl;
    pins = λ s. refl;
    frames = λ s. refl;
    names = λ s. refl;
    outputs = λ s. refl;
    captures = λ s. refl;
    starts = record { long = refl; past = refl };
    weights = record { long = refl; past = refl };
    values = record { long = refl; past = refl };
    absent = λ s k in' past low. refl;
  }

  pub kept_more : (x y z : View V) → Kept r x y → Kept r y z → Kept r x z
  kept_more x y z a b = record {
    many = b.many ∙ a.many;
    pins = λ s. b.pins s ∙ a.pins s;
    frames = λ s. b.frames s ∙ a.frames s;
    names = λ s. b.names s ∙ a.names s;
    outputs = λ s. b.outputs s ∙ a.outputs s;
    captures = λ s. b.captures s ∙ a.captures s;
    starts = past_more a.starts (subst (λ n. SamePast n y.starts z.starts) a.many b.starts);
    weights = past_more a.weights (subst (λ n. SamePast (4 * n) y.weights z.weights) a.many b.weights);
    values = past_more a.values (subst (λ n. SamePast n y.values z.values) a.many b.values);
    absent = λ s k in' past low. b.absent s k (omega (arith, a.many)) (omega (arith, a.pins s)) low ∙ a.absent s k in' past low;
  }

rewired_frame : (d : Driver) (k u : ℕ) → frame_of (rewired_driver d k u) ≡ frame_of d
rewired_frame Undriven k u = refl
rewired_frame Input k u = refl
rewired_frame (Latched l) k u = refl
rewired_frame (Gated g) k u = refl

-- what an element put in place of another shares with it, the lists share everywhere
set_keeps : {A B : Type 0} (part : A → B) (xs : List A) (i : ℕ) (y d : A) → part y ≡ part (get_or xs i d)
    → (j : ℕ) → part (get_or (set xs i y) j d) ≡ part (get_or xs j d)
set_keeps part [] i y d same j = refl
set_keeps part (x ∷ xs) zero y d same zero = same
set_keeps part (x ∷ xs) zero y d same (suc j) = refl
set_keeps part (x ∷ xs) (suc i) y d same zero = refl
set_keeps part (x ∷ xs) (suc i) y d same (suc j) = set_keeps part xs i y d same j

-- what rewiring a signal does not touch, no edit touches
signals_keep : {A : Type 0} (part : Signal → A) → ((x : Signal) (k u : ℕ) → part (rewired x k u) ≡ part x)
    → (e : Edit) (xs ys : List Signal) → ys ≡ signals_after e xs → (s : ℕ) → part (get_or ys s absent) ≡ part (get_or xs s absent)
signals_keep part keeps e xs ys is s = ap (λ (zs : List Signal). part (get_or zs s absent)) is ∙ after e
  where
    after : (e : Edit) → part (get_or (signals_after e xs) s absent) ≡ part (get_or xs s absent)
    after (SetDelay g k t) = refl
    after (SetStart u t) = refl
    after (Rewire g k u) = set_keeps part xs g (rewired (get_or xs g absent) k u) absent (keeps (get_or xs g absent) k u) s
    after (Cut g k) = refl

-- the same of a part that is told where there is such a signal
told_keep : {A : Type 0} (part : Signal → A) (xs ys : List Signal) → length ys ≡ length xs → (s : ℕ) → part (get_or ys s absent) ≡ part (get_or xs s absent)
    → option_map part (slice_get ys s) ≡ option_map part (slice_get xs s)
told_keep part xs ys long s same =
    ⊎_elim
    (λ l. ap (option_map part) (slice_get-get_or ys s absent (omega arith)) ∙ ap Some same ∙ sym (ap (option_map part) (slice_get-get_or xs s absent l)))
    (λ past. ap (option_map part) (slice_get_past ys s (omega arith)) ∙ sym (ap (option_map part) (slice_get_past xs s past)))
    (cases_lt s (length xs))

module _ {G : Type 0} (r : Ops G) (delays : ℕ → ℕ → G) where
  module _ (x : View (EdgeMatrix G)) where
    starts_past : (e : Edit) → known (edge_ops r) (book_of (edge_ops r) x) e ≡ true
        → drop (size x.network) (starts_after r delays e x.starts) ≡ drop (size x.network) x.starts
    starts_past (SetDelay g k t) is = refl
    starts_past (SetStart s t) is = drop-set-lt (size x.network) x.starts s _ (source_within (edge_ops r) x s is)
    starts_past (Rewire g k u) is = refl
    starts_past (Cut g k) is = refl

    -- a weight is written at a pin that is there, so before the table's rest and not at an absent pin
    module _ (g k : ℕ) (v : EdgeMatrix G) (has : has_pin (edge_ops r) (book_of (edge_ops r) x) g k ≡ true) where
      weight_past : drop (4 * size x.network) (set x.weights (4 * g + k) v) ≡ drop (4 * size x.network) x.weights
      weight_past =
          let within = pin_within (edge_ops r) x g k has in
          drop-set-lt (4 * size x.network) x.weights (4 * g + k) v (omega (arith, within.0, within.1, (small x.network).pins g))

      weight_absent : (s j : ℕ) → fanin x.network s ≤ j → j < 4
          → cells (edge_ops r) (set x.weights (4 * g + k) v) (4 * s + j) ≡ cells (edge_ops r) x.weights (4 * s + j)
      weight_absent s j past low =
          let there = (pin_within (edge_ops r) x g k has).1 in
          get_or-set_other x.weights (4 * g + k) (4 * s + j) v (edge_ops r).zero
          (λ e.
          let same : s ≡ g = omega (arith, there, (small x.network).pins g) in
          omega (arith, there, (small x.network).pins g, ap (fanin x.network) same))

    weights_past : (e : Edit) → known (edge_ops r) (book_of (edge_ops r) x) e ≡ true
        → drop (4 * size x.network) (weights_after r delays (signals_of x.network) e x.weights) ≡ drop (4 * size x.network) x.weights
    weights_past (SetDelay g k t) is = weight_past g k _ is
    weights_past (SetStart s t) is = refl
    weights_past (Rewire g k u) is = refl
    weights_past (Cut g k) is = weight_past g k _ is

    weights_absent : (e : Edit) → known (edge_ops r) (book_of (edge_ops r) x) e ≡ true → (s j : ℕ) → fanin x.network s ≤ j → j < 4
        → cells (edge_ops r) (weights_after r delays (signals_of x.network) e x.weights) (4 * s + j) ≡ cells (edge_ops r) x.weights (4 * s + j)
    weights_absent (SetDelay g k t) is s j past low = weight_absent g k _ is s j past low
    weights_absent (SetStart u t) is s j past low = refl
    weights_absent (Rewire g k u) is s j past low = refl
    weights_absent (Cut g k) is s j past low = weight_absent g k _ is s j past low

  pub step_keeps : (strip limit at : ℕ) (e : Edit) (x y : View (EdgeMatrix G)) (a : Result ℕ EditFault) → Stepped r delays strip limit at e x y a → Kept (edge_ops r) x y
  step_keeps strip limit at e x y (Err d) h = subst (Kept (edge_ops r) x) (sym h.1) (kept_none (edge_ops r) x)
  step_keeps strip limit at e x y (Ok n) h =
      let acc = h.1 in
      let n = size x.network in
      let xs = signals_of x.network in
      let ys = signals_of y.network in
      let is = (admitted (edge_ops r) (book_of (edge_ops r) x) (lent_of x strip limit) at e h.0).is_known in
      let many : size y.network ≡ n = accepted_size r delays e x y _ acc in
      record {
        many = many;
        pins = signals_keep (λ z. number_of_pins z.driver) (λ z k u. rewired_fanin (z ∷ []) 0 k u 0) e xs ys acc.signals;
        frames = signals_keep (λ z. frame_of z.driver) (λ z. rewired_frame z.driver) e xs ys acc.signals;
        names = λ s. told_keep (λ z. z.name) xs ys many s (signals_keep (λ z. z.name) (λ z k u. refl) e xs ys acc.signals s);
        outputs = signals_keep (λ z. z.output) (λ z k u. refl) e xs ys acc.signals;
        captures = signals_keep (λ z. z.captured) (λ z k u. refl) e xs ys acc.signals;
        starts = record { long = ap length acc.starts ∙ starts_long r delays e x.starts; past = ap (drop n) acc.starts ∙ starts_past x e is };
        weights = record { long = ap length acc.weights ∙ weights_long r delays xs e x.weights; past = ap (drop (4 * n)) acc.weights ∙ weights_past x e is };
        values = record { long = acc.long; past = acc.past };
        absent = λ s k in' past low. ap (λ (ws : List (EdgeMatrix G)). cells (edge_ops r) ws (4 * s + k)) acc.weights ∙ weights_absent x e is s k past low;
      }

  pub call_keeps : (strip limit : ℕ) (c : Call) (x y : View (EdgeMatrix G)) (a : Result ℕ ScriptFault) → Called r delays strip limit c x y a → Kept (edge_ops r) x y
  call_keeps = call_carries r delays (Kept (edge_ops r)) (kept_none (edge_ops r)) (kept_more (edge_ops r)) step_keeps

  pub chain_keeps : (ms : List Made) (x y : View (EdgeMatrix G)) → Chained r delays ms x y → Kept (edge_ops r) x y
  chain_keeps = chain_carries r delays (Kept (edge_ops r)) (kept_none (edge_ops r)) (kept_more (edge_ops r)) step_keeps
