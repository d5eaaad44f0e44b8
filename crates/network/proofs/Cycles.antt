-- Turns rule cycles out, and a cycle stands where no signal can be placed.
use Rattle.std.proofs.Common.{◌≡◌, ℕ, zero, suc, ◌<◌, ◌≤◌, Bool, true, false, leb, List, length, get_or, set, replicate, sym, refl, ◌∙◌, subst, arith, length-set}
use Rattle.std.proofs.lemmas.List.{get_or-set_other, length-replicate}
use Rattle.std.proofs.lemmas.Bool.{leb-true}
use Rattle.network.specs.Ranking.{Ranked, waits}
use Rattle.network.specs.Reach.{Wire, Reaches, wire, further, Acyclic}
use Rattle.network.specs.Search.{marked, unmarked}
use Rattle.network.specs.Turns.{turns_of, turn_in, signal_in}
use Rattle.network.specs.Wiring.{feeder, Wired, Climbs}
use Rattle.network.specs.declared.signal.Signal.{Signal}
use Rattle.network.specs.declared.turns.Turns.{Turns}
use Rattle.network.proofs.Marks.{all_blank, unmarked_blank, one_fewer}
use Rattle.network.proofs.Pins.{feeder_found}
use Rattle.network.proofs.Ends.{ends_within, begins_within}

module _ (xs : List Signal) (turns : List ℕ) (climbs : Climbs xs turns) where
  pub wire_climbs : (u s : ℕ) → Wire xs u s → get_or turns u 0 < get_or turns s 0
  wire_climbs u s w = subst (λ x. get_or turns x 0 < get_or turns s 0) w.2 (climbs s w.0 w.1)

  way_climbs : (u s : ℕ) → Reaches (Wire xs) u s → get_or turns u 0 < get_or turns s 0
  way_climbs u s (wire w) = wire_climbs u s w
  way_climbs u s (further {v = v} way w) = omega (arith, way_climbs u v way, wire_climbs v s w)

  pub climbing_acyclic : Acyclic xs
  climbing_acyclic s way = let l = way_climbs s s way in omega arith

pub all_climb : (xs : List Signal) (turns : Turns) → Ranked xs turns (length xs) → Climbs xs (turns_of turns)
all_climb xs turns r s k l = r.climbs s k l (omega (arith, ends_within xs s k l, turns.numbered s))

-- Where each signal of U reads another of them and none is on a cycle, there are none: going back from one, what
-- has no mark yet grows fewer, since none comes back to itself.
module _ (xs : List Signal) (U : ℕ → Type 0) (wired : Wired xs) (back : (s : ℕ) → U s → (v : ℕ) × Wire xs v s × U v) (none : Acyclic xs) where
  going_back : (m : ℕ) (marks : List Bool) → length marks ≡ length xs → unmarked marks ≤ m → (s : ℕ) → U s → ((v : ℕ) → Reaches (Wire xs) v s → marked marks v ≡ false) → ⊥
  going_back zero marks long few s us left =
      let b = back s us in
      let v-in = begins_within xs wired b.0 s b.1 in
      let one = one_fewer marks b.0 (omega arith) (left b.0 (wire b.1)) in
      omega arith
  going_back (suc m) marks long few s us left =
      let b = back s us in
      let v = b.0 in
      let w = b.1 in
      let v-in = begins_within xs wired v s w in
      let one = one_fewer marks v (omega arith) (left v (wire w)) in
      going_back m (set marks v true) (length-set marks v true ∙ long) (omega arith) v b.2
      (λ u way. get_or-set_other marks v u true false (λ e. none v (subst (λ x. Reaches (Wire xs) x v) e way)) ∙ left u (further way w))

  never_ends : (s : ℕ) → U s → ⊥
  never_ends s us =
      let n = length xs in
      let long = length-replicate n false in
      going_back n (replicate n false) long (omega (arith, unmarked_blank n)) s us (λ v way. all_blank (replicate n false) (unmarked_blank n ∙ sym long) v)

-- where every signal not yet placed waits, some signal is on a cycle
pub stuck : (xs : List Signal) (turns : Turns) (placed : ℕ) → Wired xs → Ranked xs turns placed → placed < length xs → ((t : ℕ) → placed ≤ t → t < length xs → waits xs (turns_of turns) placed (signal_in turns t) ≡ true) → Acyclic xs → ⊥
stuck xs turns placed wired r more all none =
    let U : ℕ → Type 0 = λ s. (s < length xs) × (placed ≤ turn_in turns s) in
    let back : (s : ℕ) → U s → (v : ℕ) × Wire xs v s × U v = λ s us.
    let at = turns.numbered s (omega (arith, us.0, r.counted)) in
    let waiting : waits xs (turns_of turns) placed s ≡ true = subst (λ x. waits xs (turns_of turns) placed x ≡ true) at.1 (all (turn_in turns s) us.1 (omega (arith, at.0, r.counted))) in
    let f = feeder_found (λ u. leb placed (turn_in turns u)) xs s waiting in
    (feeder xs s f.0, (f.0, f.1, refl), (wired s f.0 f.1, leb-true placed _ f.2)) in
    let first = turns.listed placed (omega (arith, more, r.counted)) in
    never_ends xs U wired back none (signal_in turns placed) (omega (arith, first.0, r.counted), omega (arith, first.1))
