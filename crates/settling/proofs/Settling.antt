-- Values that are worked in the order of the turns, up to a front.
use Rattle.std.proofs.Common.{◌≡◌, ℕ, ◌+◌, ◌<◌, ◌≤◌, Bool, true, false, cond, not, ◌&&◌, ◌||◌, eqb, ltb, leb, ◌≢◌, List, length, drop, set, sym, refl, ap, ◌∙◌, arith}
use Rattle.std.proofs.ByRecursion.{All-weaker, All-from_get_or}
use Rattle.std.proofs.lemmas.List.{get_or-set_same, get_or-set_other, drop-set-lt}
use Rattle.std.proofs.lemmas.Bool.{cond-true, cond-false, eq-eqb, ne_eqb, le-ltb, lt-ltb, and_left, and_from, not_from_true}
use Rattle.std.proofs.lemmas.Bool.Decides.{nat_tests}
use Rattle.gauge.specs.Semirings.{Ops, Laws}
use Rattle.paths.specs.Web.{Web}
use Rattle.paths.specs.Sums.{worked, AreSums}
use Rattle.paths.specs.Edits.{count_below, only, fed, Settled, edit_count}
use Rattle.paths.proofs.Sums.{worked_same, unique}
use Rattle.waiting.specs.Turns.{Empty, Least}
use Rattle.settling.specs.Shapes.{Shape, Sound, feeds, with_turns_of}
use Rattle.settling.specs.Tables.{cells, wire_of, web_on}
use Rattle.settling.proofs.Folds.{any_none, any_map, any_more, count_le, count_none, count_same, count_more}
use Rattle.settling.proofs.Shapes.{ranked, ranks, one_turn}

-- a sound shape with its tables, and the cells before
pub record Job (V : Type 0) : Type 0 where
  pub ops : Ops V
  pub laws : Laws ops
  pub shape : Shape
  pub sound : Sound shape
  pub starts : List V
  pub weights : List V
  pub before : List V

module _ {V : Type 0} (job : Job V) where
  abbrev r : Ops V
  r = job.ops

  abbrev web : Web V
  web = web_on r job.shape job.starts job.weights

  abbrev size : ℕ
  size = job.shape.size

  abbrev turn : ℕ → ℕ
  turn = job.shape.turn

  abbrev signal_at : ℕ → ℕ
  signal_at = job.shape.signal_at

  abbrev before : ℕ → V
  before = cells r job.before

  module _ (edited : ℕ → Bool) where
    -- s is edited or fed by a changed cell
    abbrev pub due : List V → ℕ → Bool
    due values s = edited s || fed r web before (cells r values) s

    -- s is due, and its turn is before the front
    abbrev pub reached : ℕ → List V → ℕ → Bool
    reached front values s = ltb (turn s) front && due values s

    -- what is reached is worked, and the other cells are as before
    pub record SettledTo (front : ℕ) (values : List V) : Type 0 where
      pub each : (s : ℕ) → s < size → cells r values s ≡ cond (reached front values s) (worked r web (cells r values) s) (before s)
      pub past : drop size values ≡ drop size job.before

    -- besides, the turns of what is due and not reached wait, and what is reached is counted; the front is no variable of the program
    pub record Settling (waits : ℕ → Bool) (values : List V) (count : ℕ) : Type 0 where
      pub front : ℕ
      pub settled : SettledTo front values
      pub waiting : (t : ℕ) → waits t ≡ (leb front t && (ltb t size && due values (signal_at t)))
      pub counted : count ≡ count_below size (reached front values)
      pub few : count ≤ size

    none_reached : (values : List V) (s : ℕ) → reached 0 values s ≡ false
    none_reached values s = and_left _ _ (le-ltb (turn s) 0 (omega arith))

    pub settled_none : SettledTo 0 job.before
    settled_none = record { each = λ s in'. sym (cond-false _ _ _ (none_reached job.before s)); past = refl }

    -- the signal s of turn t is worked next
    module _ (front : ℕ) (values after : List V) (fit : size ≤ length values) (was : SettledTo front values) (t s : ℕ) (below : t < size) (at : s ≡ signal_at t)
        (written : after ≡ set values s (worked r web (cells r values) s)) (ahead : front ≤ t) (is_due : due values s ≡ true)
        (quiet : (u : ℕ) → u < size → front ≤ turn u → turn u < t → due values u ≡ false) where
      abbrev v : ℕ → V
      v = cells r values

      abbrev v' : ℕ → V
      v' = cells r after

      abbrev differs : Bool
      differs = not (r.same (v s) (v' s))

      in' : s < size
      in' = omega (arith, at, job.sound.signal_below t below)

      turn_is : turn s ≡ t
      turn_is = ap turn at ∙ job.sound.signal_back t below

      new : v' s ≡ worked r web v s
      new = ap (λ xs. cells r xs s) written ∙ get_or-set_same values s _ r.zero (omega (arith, in'))

      others : (u : ℕ) → u ≢ s → v' u ≡ v u
      others u ne = ap (λ xs. cells r xs u) written ∙ get_or-set_other values s u _ r.zero ne

      not_yet : reached front values s ≡ false
      not_yet = and_left _ _ (le-ltb (turn s) front (omega (arith, turn_is)))

      held : v s ≡ before s
      held = was.each s in' ∙ cond-false _ _ _ not_yet

      changes : (u : ℕ) → not (r.same (before u) (v' u)) ≡ ((differs && eqb u s) || not (r.same (before u) (v u)))
      changes u =
          let still = (job.laws.tells (before s) (v s)).1 (sym held) in
          let other = others u in
          grind (arith, nat_tests, held)

      due_more : (u : ℕ) → due after u ≡ ((differs && feeds job.shape s u) || due values u)
      unfolding fed
      due_more u =
          let more = any_more differs _ _ _ (λ x. changes x.from) (web.into u) in
          let taps = any_map (wire_of r job.weights) (λ x. eqb x.from s) (job.shape.taps u) in
          grind arith

      -- no tap into a signal whose turn is not later comes from s
      apart : (u f : ℕ) → turn u ≤ t → turn f < turn u → f ≢ s
      apart u f h climbs e = omega (arith, ap turn e, turn_is)

      unfed : (u : ℕ) → u < size → turn u ≤ t → feeds job.shape s u ≡ false
      unfed u l h =
          any_none _ (job.shape.taps u)
          (All-weaker _ _ (λ x c. ne_eqb x.from s (apart u x.from h c.1)) (job.shape.taps u) (job.sound.climbs u l))

      same_work : (u : ℕ) → u < size → turn u ≤ t → worked r web v' u ≡ worked r web v u
      same_work u l h =
          worked_same r web v' v u
          (All-weaker _ _ (λ x c. others x.from (apart u x.from h c.1)) (web.into u) ((ranked r job.sound job.starts job.weights).climbs u l))

      here : reached (t + 1) after s ≡ true
      here = let more = due_more s in let on = turn_is in grind (arith, nat_tests)

      elsewhere : (u : ℕ) → u < size → u ≢ s → reached (t + 1) after u ≡ reached front values u
      elsewhere u l ne =
          let more = due_more u in
          let free = unfed u l in
          let idle = quiet u l in
          let other : turn u ≢ t = λ e. ne (one_turn job.sound u s l in' (e ∙ sym turn_is)) in
          grind (arith, nat_tests)

      each_more : (u : ℕ) → u < size → v' u ≡ cond (reached (t + 1) after u) (worked r web v' u) (before u)
      each_more u l =
          let e = elsewhere u l in
          let other = others u in
          let same = same_work u l in
          let was' = was.each u l in
          let early = same_work s in' (omega (arith, turn_is)) in
          grind (arith, nat_tests, new, here)

      pub settled_more : SettledTo (t + 1) after
      settled_more = record { each = each_more; past = ap (drop size) written ∙ drop-set-lt size values s _ in' ∙ was.past }

      counted_more : count_below size (reached (t + 1) after) ≡ 1 + count_below size (reached front values)
      counted_more = count_more size s _ _ in' not_yet here elsewhere

    -- a turn that waits is that of a signal which is due
    module _ (waits : ℕ → Bool) (values : List V) (count t : ℕ) (i : Settling waits values count) (waiting : waits t ≡ true) where
      here' : (t < size) × (i.front ≤ t) × (due values (signal_at t) ≡ true)
      here' = let is = i.waiting t in (grind (arith, nat_tests), grind (arith, nat_tests), grind (arith, nat_tests))

      pub taken_below : t < size
      taken_below = here'.0

      taken_ahead : i.front ≤ t
      taken_ahead = here'.1

      taken_due : due values (signal_at t) ≡ true
      taken_due = here'.2

    -- one turn of the loop: t is taken, its signal s worked, and what s feeds is put if its cell changed
    pub turned : (waits left waits' : ℕ → Bool) (values after : List V) (count count' t s : ℕ) → Settling waits values count → size ≤ length values
        → Least waits t → ((u : ℕ) → left u ≡ (not (eqb u t) && waits u))
        → s ≡ signal_at t → after ≡ set values s (worked r web (cells r values) s)
        → ((u : ℕ) → waits' u ≡ with_turns_of job.shape (λ x. not (r.same (cells r values s) (cells r after s)) && feeds job.shape s x) left u)
        → count' ≡ count + 1 → Settling waits' after count'
    turned waits left waits' values after count count' t s i fit least removed at written put one_more = record {
      front = t + 1;
      settled = settled_more i.front values after fit i.settled t s below at written ahead is_due quiet;
      waiting = waiting;
      counted = counts;
      few = omega (arith, counts, count_le size (reached (t + 1) after));
    }
      where
        below : t < size
        below = taken_below waits values count t i least.0

        ahead : i.front ≤ t
        ahead = taken_ahead waits values count t i least.0

        is_due : due values s ≡ true
        is_due = ap (due values) at ∙ taken_due waits values count t i least.0

        quiet : (u : ℕ) → u < size → i.front ≤ turn u → turn u < t → due values u ≡ false
        quiet u l h h' =
            let first = least.1 (turn u) in
            let was = i.waiting (turn u) in
            let same = ap (due values) (job.sound.turn_back u l) in
            let under = job.sound.turn_below u l in
            grind (arith, nat_tests)

        counts : count' ≡ count_below size (reached (t + 1) after)
        counts = omega (arith, i.counted, counted_more i.front values after fit i.settled t s below at written ahead is_due quiet)

        waiting : (u : ℕ) → waits' u ≡ (leb (t + 1) u && (ltb u size && due after (signal_at u)))
        waiting u =
            let more = due_more i.front values after fit i.settled t s below at written ahead is_due quiet (signal_at u) in
            let free : u < size → u ≤ t → feeds job.shape s (signal_at u) ≡ false = λ l h.
            unfed i.front values after fit i.settled t s below at written ahead is_due quiet (signal_at u) (job.sound.signal_below u l) (omega (arith, job.sound.signal_back u l)) in
            let now' = put u in
            let gone = removed u in
            let was = i.waiting u in
            let first = least.1 u in
            let low = ahead in
            grind (arith, nat_tests)

  -- an edit of the signal e
  module _ (e : ℕ) where
    -- nothing has changed yet
    none_fed : (s : ℕ) → fed r web before before s ≡ false
    unfolding fed
    none_fed s =
        any_none _ (web.into s)
        (All-from_get_or _ _ (record { from = 0; weight = r.zero }) (λ i l. not_from_true _ ((job.laws.tells _ _).1 refl)))

    -- the edited signal alone waits
    pub begun : (waits : ℕ → Bool) → ((t : ℕ) → waits t ≡ with_turns_of job.shape (only e) (λ u. false) t) → Settling (only e) waits job.before 0
    begun waits alone = record {
      front = 0;
      settled = settled_none (only e);
      waiting = λ t. let none = none_fed (signal_at t) in let is = alone t in grind (arith, nat_tests);
      counted = sym (count_none size _ (λ k in'. none_reached (only e) job.before k));
      few = omega arith;
    }

    -- nothing waits
    module _ (waits : ℕ → Bool) (values : List V) (count : ℕ) (i : Settling (only e) waits values count) (none : Empty waits) where
      all_reached : (s : ℕ) → s < size → reached (only e) i.front values s ≡ due (only e) values s
      all_reached s in' =
          let idle = sym (none (turn s)) ∙ i.waiting (turn s) in
          let under = job.sound.turn_below s in' in
          let back = ap (due (only e) values) (job.sound.turn_back s in') in
          grind (arith, nat_tests)

      pub ended : Settled r (only e) web before (cells r values)
      ended s in' = i.settled.each s in' ∙ ap (λ b. cond b (worked r web (cells r values) s) (before s)) (all_reached s in')

      pub count_ended : e < size → count ≡ edit_count r e web before (cells r values)
      unfolding edit_count
      count_ended in' =
          let here = eq-eqb e e refl in
          i.counted ∙ count_same size _ _ all_reached
          ∙ count_more size e _ _ in' (grind arith) (grind arith) (λ k l ne. let apart = ne_eqb k e ne in grind arith)

  -- where every signal counts as edited and all turns have come, the values are the path sums
  pub all_worked : (front : ℕ) (values : List V) → size ≤ front → SettledTo (λ s. true) front values → AreSums r web (cells r values)
  all_worked front values h i =
      unique r job.laws web (ranks V r job.shape job.sound job.starts job.weights) (cells r values)
      (λ s in'. i.each s in' ∙ cond-true _ _ _ (and_from _ _ (lt-ltb (turn s) front (omega (arith, job.sound.turn_below s in'))) refl))
