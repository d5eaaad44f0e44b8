-- The search back from a signal, pin by pin.
use Rattle.std.proofs.Common.{◌≡◌, ℕ, ◌+◌, ◌<◌, Bool, true, false, ◌⊎◌, List, length, set, sym, subst, inl, inr, ⊎_elim, arith}
use Rattle.std.proofs.lemmas.List.{get_or-set_same}
use Rattle.std.proofs.lemmas.Bool.{cases_eq, both_ways}
use Rattle.network.specs.Reach.{Wire, Reaches, wire, further}
use Rattle.network.specs.Search.{marked, unmarked, Searched}
use Rattle.network.specs.Wiring.{wires, feeder}
use Rattle.network.specs.declared.signal.Signal.{Signal}
use Rattle.network.proofs.Marks.{all_blank, one_fewer, marks_kept, marks_cases}

-- the next pin's signal is marked already
pub searched_seen : (xs : List Signal) (s pin : ℕ) (before marks : List Bool) → Searched xs s pin before marks → marked marks (feeder xs s pin) ≡ true → Searched xs s (pin + 1) before marks
searched_seen xs s pin before marks h seen =
    record {
      kept = h.kept;
      only = h.only;
      fed = λ k l. ⊎_elim (λ e. subst (λ j. marked marks (feeder xs s j) ≡ true) (sym e) seen) (λ ne. h.fed k (omega arith)) (cases_eq k pin);
      closed = h.closed;
      fewer = h.fewer;
    }

-- the next pin's signal gets a mark, and the search goes on from there
module _ (xs : List Signal) (s pin v : ℕ) (before marks after : List Bool) (h : Searched xs s pin before marks) (w : Wire xs v s) (at : v ≡ feeder xs s pin) (here : v < length marks) (none : marked marks v ≡ false) (deeper : Searched xs v (wires xs v) (set marks v true) after) where
  still : (u : ℕ) → marked marks u ≡ true → marked after u ≡ true
  still u m = deeper.kept u (marks_kept marks v u here m)

  new_mark : marked after v ≡ true
  new_mark = deeper.kept v (get_or-set_same marks v true false here)

  only' : (u : ℕ) → marked after u ≡ true → (marked before u ≡ true) ⊎ Reaches (Wire xs) u s
  only' u m =
      ⊎_elim
      (λ was. ⊎_elim (λ e. inr (subst (λ x. Reaches (Wire xs) x s) (sym e) (wire w))) (h.only u) (marks_cases marks v u was))
      (λ way. inr (further way w))
      (deeper.only u m)

  fed' : (k : ℕ) → k < pin + 1 → marked after (feeder xs s k) ≡ true
  fed' k l =
      ⊎_elim
      (λ e. subst (λ j. marked after (feeder xs s j) ≡ true) (sym e) (subst (λ x. marked after x ≡ true) at new_mark))
      (λ ne. still (feeder xs s k) (h.fed k (omega arith)))
      (cases_eq k pin)

  closed' : (u k : ℕ) → marked after u ≡ true → k < wires xs u → (marked before u ≡ true) ⊎ (marked after (feeder xs u k) ≡ true)
  closed' u k m l =
      ⊎_elim
      (λ was.
      ⊎_elim
      (λ e. inr (subst (λ x. k < wires xs x → marked after (feeder xs x k) ≡ true) (sym e) (deeper.fed k) l))
      (λ old. ⊎_elim inl (λ fed. inr (still (feeder xs u k) fed)) (h.closed u k old l))
      (marks_cases marks v u was))
      inr
      (deeper.closed u k m l)

  pub searched_more : Searched xs s (pin + 1) before after
  searched_more =
      record {
        kept = λ u m. still u (h.kept u m);
        only = only';
        fed = fed';
        closed = closed';
        fewer = omega (arith, h.fewer, deeper.fewer, one_fewer marks v here none);
      }

-- from blank marks: exactly what leads to the signal is marked
module _ (xs : List Signal) (s : ℕ) {before : List Bool} (after : List Bool) (h : Searched xs s (wires xs s) before after) (none : unmarked before ≡ length before) where
  pub leads : (u : ℕ) → marked after u ≡ true → Reaches (Wire xs) u s
  leads u m = ⊎_elim (λ old. absurd (both_ways _ (all_blank before none u) old)) (λ way. way) (h.only u m)

  back_from : (u t : ℕ) → Reaches (Wire xs) u t → ((k : ℕ) → k < wires xs t → marked after (feeder xs t k) ≡ true) → marked after u ≡ true
  back_from u t (wire w) fed = subst (λ x. marked after x ≡ true) w.2 (fed w.0 w.1)
  back_from u t (further {v = v} way w) fed =
      let here = subst (λ x. marked after x ≡ true) w.2 (fed w.0 w.1) in
      back_from u v way (λ k l. ⊎_elim (λ old. absurd (both_ways _ (all_blank before none v) old)) (λ m. m) (h.closed v k here l))

  pub all_that_lead : (u : ℕ) → Reaches (Wire xs) u s → marked after u ≡ true
  all_that_lead u way = back_from u s way h.fed
