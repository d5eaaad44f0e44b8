-- Marks on what is downstream of a gate, turn by turn.
use Rattle.std.proofs.Common.{◌≡◌, ℕ, ◌+◌, ◌<◌, ◌≤◌, Bool, true, false, not, ◌||◌, eqb, List, length, get_or, set, replicate, sym, refl, ap, ◌∙◌, subst, inl, inr, ⊎_elim, arith}
use Rattle.std.specs.List.{list_any}
use Rattle.std.proofs.lemmas.List.{get_or-set_same, get_or-set_other, get_or-replicate, get_or_past, length-replicate}
use Rattle.std.proofs.lemmas.Bool.{cases_eq, cases_lt, cases_Bool, both_ways, not_from_false, or_left, or_right, or_cases, eq-eqb, eqb-true}
use Rattle.network.specs.Marks.{marked, MarkedBelow, MarksReached}
use Rattle.network.specs.Net.{signals, size, turn, signal_by_turn, fanin, from}
use Rattle.network.specs.Reach.{Wire, Reaches, wire, further}
use Rattle.network.specs.Rewiring.{Downstream}
use Rattle.network.specs.Wiring.{feeders}
use Rattle.network.specs.declared.network.Network.{Network}
use Rattle.network.specs.declared.signal.Signal.{Signal}
use Rattle.network.proofs.Ends.{ends_within, begins_within}
use Rattle.network.proofs.Pins.{feeder_yes, feeder_found}

-- the last wire of a way
last_wire : (xs : List Signal) (u s : ℕ) → Reaches (Wire xs) u s → (v : ℕ) × Wire xs v s × Downstream xs u v
last_wire xs u s (wire w) = (u, w, inl refl)
last_wire xs u s (further {v = v} way w) = (v, w, inr way)

-- one wire more
one_further : (xs : List Signal) (u v s : ℕ) → Downstream xs u v → Wire xs v s → Reaches (Wire xs) u s
one_further xs u v s d w = ⊎_elim (λ e. wire (subst (λ x. Wire xs x s) e w)) (λ way. further way w) d

marked_set : (marks : List ℕ) (s : ℕ) → s < length marks → marked (set marks s 1) s ≡ true
marked_set marks s l = ap (λ x. not (eqb x 0)) (get_or-set_same marks s 1 0 l)

marked_other : (marks : List ℕ) (s u : ℕ) → (u ≡ s → ⊥) → marked (set marks s 1) u ≡ marked marks u
marked_other marks s u ne = ap (λ x. not (eqb x 0)) (get_or-set_other marks s u 1 0 ne)

-- a pin of s reads a marked signal
abbrev reads : Network → List ℕ → ℕ → Bool
reads net marks s = list_any (marked marks) (feeders (signals net) s)

-- what reads a marked signal is downstream, if only such signals are marked
read_reached : (net : Network) (gate s : ℕ) (marks : List ℕ) → ((u : ℕ) → marked marks u ≡ true → Downstream (signals net) gate u) → reads net marks s ≡ true → Downstream (signals net) gate s
read_reached net gate s marks only e =
    let found = feeder_found (marked marks) (signals net) s e in
    let k = found.0 in
    inr (one_further (signals net) gate (from net s k) s (only (from net s k) found.2) (k, found.1, refl))

-- what is reached reads a marked signal, if all such signals of earlier turns are marked
reached_reads : (net : Network) (gate s : ℕ) (marks : List ℕ) → ((u : ℕ) → u < size net → turn net u < turn net s → Downstream (signals net) gate u → marked marks u ≡ true) → Reaches (Wire (signals net)) gate s → reads net marks s ≡ true
reached_reads net gate s marks all way =
    let last = last_wire (signals net) gate s way in
    let v = last.0 in
    let w = last.1 in
    let below : turn net v < turn net s = subst (λ x. turn net x < turn net s) w.2 (net.climbs s w.0 w.1) in
    let there = all v (begins_within (signals net) net.wired v s w) below last.2 in
    feeder_yes (marked marks) (signals net) s w.0 w.1 (subst (λ x. marked marks x ≡ true) (sym w.2) there)

-- s has the turn t, and the marks below it are right
module _ (net : Network) (gate t s : ℕ) (marks : List ℕ) (before : MarkedBelow net gate t marks) (here : s < size net) (at : turn net s ≡ t) where
  pub reads_marked_reached : (r : Bool) → r ≡ reads net marks s → r ≡ true → Downstream (signals net) gate s
  reads_marked_reached r is yes' = read_reached net gate s marks (λ u m. (before.only u m).2) (sym is ∙ yes')

  -- only s has its turn
  earlier : (u : ℕ) → u < size net → turn net u < t + 1 → (u ≡ s → ⊥) → turn net u < t
  earlier u l h ne =
      ⊎_elim
      (λ e. absurd (ne (sym (net.turns.numbered u (omega (arith, l, net.counted))).1 ∙ ap (signal_by_turn net) (e ∙ sym at) ∙ (net.turns.numbered s (omega (arith, here, net.counted))).1)))
      (λ other. omega arith)
      (cases_eq (turn net u) t)

  pub marks_it : s < length marks → Downstream (signals net) gate s → MarkedBelow net gate (t + 1) (set marks s 1)
  marks_it l reached = record {
    only = λ u m.
        ⊎_elim
        (λ e. subst (λ x. (x < size net) × (turn net x < t + 1) × Downstream (signals net) gate x) (sym e) (here, omega arith, reached))
        (λ ne. let o = before.only u (sym (marked_other marks s u ne) ∙ m) in (o.0, omega (arith, o.1), o.2))
        (cases_eq u s);
    all = λ u lu lt ru.
        ⊎_elim
        (λ e. subst (λ x. marked (set marks s 1) x ≡ true) (sym e) (marked_set marks s l))
        (λ ne. marked_other marks s u ne ∙ before.all u lu (earlier u lu lt ne) ru)
        (cases_eq u s);
  }

  unread_unreached : (s ≡ gate → ⊥) → reads net marks s ≡ false → Downstream (signals net) gate s → ⊥
  unread_unreached ne none reached =
      ⊎_elim
      ne
      (λ way. both_ways (reads net marks s) none (reached_reads net gate s marks (λ u l h r. before.all u l (omega arith) r) way))
      reached

  pub leaves_it : (s ≡ gate → ⊥) → (r : Bool) → r ≡ reads net marks s → r ≡ false → MarkedBelow net gate (t + 1) marks
  leaves_it ne r is no' = record {
    only = λ u m. let o = before.only u m in (o.0, omega (arith, o.1), o.2);
    all = λ u lu lt ru.
        ⊎_elim
        (λ e. absurd (unread_unreached ne (sym is ∙ no') (subst (Downstream (signals net) gate) e ru)))
        (λ other. before.all u lu (earlier u lu lt other) ru)
        (cases_eq u s);
  }

blank_cell : (n s : ℕ) → ◌≡◌ {A = ℕ} (get_or (replicate n 0) s 0) 0
blank_cell n s =
    ⊎_elim
    (λ l. get_or-replicate n s 0 0 l)
    (λ past. get_or_past (replicate n 0) s 0 (omega (arith, past, length-replicate {A = ℕ} n 0)))
    (cases_lt s n)

pub none_marked : (net : Network) (gate : ℕ) (marks : List ℕ) (n : ℕ) → marks ≡ replicate n 0 → MarkedBelow net gate 0 marks
none_marked net gate marks n e =
    let blank : (s : ℕ) → marked marks s ≡ false = λ s. ap (λ (ms : List ℕ). marked ms s) e ∙ ap (λ x. not (eqb x 0)) (blank_cell n s) in
    record { only = λ s m. absurd (both_ways (marked marks s) (blank s) m); all = λ s l h r. absurd (omega arith) }

-- marks on all that is downstream go on along every wire
pub marks_closed : (net : Network) (gate : ℕ) (marks : List ℕ) → MarksReached net gate marks → (s k : ℕ) → k < fanin net s → marked marks (from net s k) ≡ true → marked marks s ≡ true
marks_closed net gate marks m s k l yes' =
    m.all s (ends_within (signals net) s k l) (inr (one_further (signals net) gate (from net s k) s (m.only (from net s k) yes').1 (k, l, refl)))

-- past the signals no cell has a mark
pub marks_past : (net : Network) (gate : ℕ) (marks : List ℕ) → MarksReached net gate marks → (s : ℕ) → size net ≤ s → get_or marks s 0 ≡ 0
marks_past net gate marks m s past =
    ⊎_elim
    (λ yes'. eqb-true (get_or marks s 0) 0 yes')
    (λ no'. absurd (omega (arith, past, (m.only s (not_from_false (eqb (get_or marks s 0) 0) no')).0)))
    (cases_Bool (eqb (get_or marks s 0) 0))

same_tests : (a b : Bool) → (a ≡ true → b ≡ true) → (b ≡ true → a ≡ true) → a ≡ b
same_tests true true to back = refl
same_tests true false to back = sym (to refl)
same_tests false true to back = back refl
same_tests false false to back = refl

-- marked are the gate and what reads a marked signal
pub marks_fix : (net : Network) (gate : ℕ) (marks : List ℕ) → MarksReached net gate marks → (s : ℕ) → s < size net → marked marks s ≡ (eqb s gate || list_any (marked marks) (feeders (signals net) s))
marks_fix net gate marks m s l =
    same_tests (marked marks s) (eqb s gate || reads net marks s)
    (λ yes'.
    ⊎_elim
    (λ e. or_left (eqb s gate) (reads net marks s) (eq-eqb s gate e))
    (λ way. or_right (eqb s gate) (reads net marks s) (reached_reads net gate s marks (λ u lu h r. m.all u lu r) way))
    (m.only s yes').1)
    (λ yes'.
    m.all s l
    (⊎_elim
    (λ e. inl (eqb-true s gate e))
    (λ e. read_reached net gate s marks (λ u mu. (m.only u mu).1) e)
    (or_cases (eqb s gate) (reads net marks s) yes')))
