-- One signal more gets its turn.
use Rattle.std.proofs.Common.{◌≡◌, ℕ, ◌+◌, ◌<◌, ◌≤◌, false, leb, List, length, get_or, sym, ap, ◌∙◌, subst, ⊎_elim, zero-add, arith}
use Rattle.std.specs.List.{range_with_len, swap}
use Rattle.std.proofs.lemmas.List.Edits.{Swapped, swapped_from_swap, length-swap}
use Rattle.std.proofs.lemmas.List.FromFn.{get_or-range_with_len, length-range_with_len}
use Rattle.std.proofs.lemmas.Bool.{cases_eq, cases_lt, both_ways, le-leb}
use Rattle.network.specs.Ranking.{Ranked, waits}
use Rattle.network.specs.Turns.{turns_of, order_of, count_of, turn_in, signal_in}
use Rattle.network.specs.Wiring.{wires, feeder, Wired, Inverse}
use Rattle.network.specs.declared.signal.Signal.{Signal}
use Rattle.network.specs.declared.turns.Turns.{Turns}
use Rattle.network.proofs.Pins.{feeder_yes}
use Rattle.network.proofs.Ends.{ends_within}

-- what waits for none reads placed signals alone
reads_placed : (xs : List Signal) (turns : List ℕ) (placed s k : ℕ) → waits xs turns placed s ≡ false → k < wires xs s → get_or turns (feeder xs s k) 0 < placed
reads_placed xs turns placed s k z l =
    ⊎_elim
    (λ h. h)
    (λ h. absurd (both_ways (waits xs turns placed s) z (feeder_yes (λ u. leb placed (get_or turns u 0)) xs s k l (le-leb placed _ h))))
    (cases_lt (get_or turns (feeder xs s k) 0) placed)

-- the signal y at a later turn b is placed, and x at the turn a goes there instead
module _ (xs : List Signal) (wired : Wired xs) (turns turns' : Turns) (a b : ℕ) (before : Ranked xs turns a) (later : a ≤ b) (here : b < length xs) (ready : waits xs (turns_of turns) a (signal_in turns b) ≡ false) (swapped : order_of turns' ≡ swap (order_of turns) a b) where
  abbrev x : ℕ
  x = signal_in turns a

  abbrev y : ℕ
  y = signal_in turns b

  moved : Swapped (signal_in turns) (signal_in turns') a b
  moved = swapped_from_swap (order_of turns) (order_of turns') a b 0 (omega (arith, turns.long, before.counted)) (omega (arith, turns.long, before.counted)) swapped

  same_count : count_of turns' ≡ length xs
  same_count = omega (arith, turns.long, turns'.long, ap length swapped, length-swap (order_of turns) a b, before.counted)

  at' : (t : ℕ) → t < length xs → turn_in turns' (signal_in turns' t) ≡ t
  at' t l = (turns'.listed t (omega (arith, same_count))).1

  turns_x : turn_in turns' x ≡ b
  turns_x = subst (λ v. turn_in turns' v ≡ b) moved.1 (at' b here)

  turns_y : turn_in turns' y ≡ a
  turns_y = subst (λ v. turn_in turns' v ≡ a) moved.0 (at' a (omega arith))

  turns_other : (s : ℕ) → s < length xs → (s ≡ x → ⊥) → (s ≡ y → ⊥) → turn_in turns' s ≡ turn_in turns s
  turns_other s l nx ny =
      let t = turn_in turns s in
      let was = turns.numbered s (omega (arith, before.counted)) in
      let now = moved.2 t (λ e. nx (sym was.1 ∙ ap (signal_in turns) e)) (λ e. ny (sym was.1 ∙ ap (signal_in turns) e)) in
      subst (λ v. turn_in turns' v ≡ t) (now ∙ was.1) (at' t (omega (arith, was.0, before.counted)))

  -- what had one of the first turns keeps it
  kept : (v : ℕ) → v < length xs → turn_in turns v < a → turn_in turns' v ≡ turn_in turns v
  kept v there l =
      turns_other v there
      (λ e. let q = ap (turn_in turns) e ∙ (turns.listed a (omega (arith, before.counted))).1 in omega arith)
      (λ e. let q = ap (turn_in turns) e ∙ (turns.listed b (omega (arith, before.counted))).1 in omega arith)

  climbs' : (s k : ℕ) → k < wires xs s → turn_in turns' s < a + 1 → turn_in turns' (feeder xs s k) < turn_in turns' s
  climbs' s k w l =
      let v = feeder xs s k in
      ⊎_elim
      (λ e.
      let low : turn_in turns v < a = reads_placed xs (turns_of turns) a s k (subst (λ u. waits xs (turns_of turns) a u ≡ false) (sym e) ready) w in
      let now' : turn_in turns' s ≡ a = ap (turn_in turns') e ∙ turns_y in
      let old = kept v (wired s k w) low in
      omega arith)
      (λ ny.
      ⊎_elim
      (λ e.
      let now' : turn_in turns' s ≡ b = ap (turn_in turns') e ∙ turns_x in
      let same : a ≡ b = omega arith in
      absurd (ny (e ∙ ap (signal_in turns) same)))
      (λ nx.
      let inside : s < length xs = ends_within xs s k w in
      let was = turns.numbered s (omega (arith, inside, before.counted)) in
      let same : turn_in turns' s ≡ turn_in turns s = turns_other s inside nx ny in
      let na : turn_in turns s ≡ a → ⊥ = λ q. nx (sym was.1 ∙ ap (signal_in turns) q) in
      let low : turn_in turns s < a = omega arith in
      let climb = before.climbs s k w low in
      let old = kept v (wired s k w) (omega arith) in
      omega arith)
      (cases_eq s x))
      (cases_eq s y)

  pub placed : Ranked xs turns' (a + 1)
  placed = record { counted = same_count; climbs = climbs' }

-- lists that give each number itself
pub counting : (xs ys zs : List ℕ) (n : ℕ) → xs ≡ range_with_len 0 n → ys ≡ range_with_len 0 n → zs ≡ range_with_len 0 n → Inverse xs ys (length zs)
counting xs ys zs n e f g i l =
    let long = ap length g ∙ length-range_with_len 0 n in
    let at : (us : List ℕ) → us ≡ range_with_len 0 n → get_or us i 0 ≡ i = λ us h. ap (λ (vs : List ℕ). get_or vs i 0) h ∙ get_or-range_with_len 0 n i 0 (omega arith) ∙ zero-add i in
    let here = at xs e in
    (omega arith, ap (λ j. get_or ys j 0) here ∙ at ys f)
