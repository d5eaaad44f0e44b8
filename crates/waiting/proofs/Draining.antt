-- Turns taken one by one. Assumes nothing.
use Rattle.std.proofs.Common.{◌≡◌, ℕ, suc, ◌+◌, ◌<◌, ◌≤◌, Bool, true, not, ◌&&◌, ◌||◌, eqb, List, [], ◌∷◌, ◌++◌, length, take, drop, set, sym, ap, ◌∙◌, arith}
use Rattle.std.specs.List.{AllByRecursion}
use Rattle.std.proofs.lemmas.List.{take_more_set, drop-set-lt, drop-drop, length-take-le}
use Rattle.std.proofs.ByRecursion.{All-push, All-weaker}
use Rattle.std.proofs.lemmas.Bool.{false_from_ne_true}
use Rattle.std.proofs.lemmas.Bool.Decides.{nat_tests}
use Rattle.waiting.specs.Turns.{Empty, Least, stands, Rising, Drained}

rising_push : (xs : List ℕ) (t : ℕ) → Rising xs → AllByRecursion (λ x. x < t) xs → Rising (xs ++ t ∷ [])
rising_push [] t r l = (tt, tt)
rising_push (x ∷ xs) t r l = (All-push (λ y. x < y) xs t r.0 l.0, rising_push xs t r.1 l.1)

stands_push : (xs : List ℕ) (t u : ℕ) → stands (xs ++ t ∷ []) u ≡ (stands xs u || eqb u t)
stands_push [] t u = grind (arith, nat_tests)
stands_push (x ∷ xs) t u = grind (arith, nat_tests, stands_push xs t u)

-- the numbers of a list that rises are too few to fill what is below a greater number
few : (xs : List ℕ) (low t : ℕ) → Rising xs → AllByRecursion (λ x. low ≤ x) xs → AllByRecursion (λ x. x < t) xs → low ≤ t → low + length xs ≤ t
few [] low t r a b l = omega arith
few (x ∷ xs) low t r a b l = omega (arith, few xs (suc x) t r.1 r.0 b.1 b.0, a.0)

module _ (waited : ℕ → Bool) (out : List ℕ) (n : ℕ) (waits : ℕ → Bool) (was : Drained waited (take n out) waits) where
  abbrev given : List ℕ
  given = take n out

  -- one more turn is taken
  pub drained_more : (left : ℕ → Bool) (t : ℕ) → n < length out → Least waits t → ((u : ℕ) → left u ≡ (not (eqb u t) && waits u)) → Drained waited (take (n + 1) (set out n t)) left
  drained_more left t room least gone = rw (take_more_set out n t room) record {
    rising = rising_push given t was.rising (was.lesser t least.0);
    either = λ u.
        let before = was.either u in
        let now' = gone u in
        let push = stands_push given t u in
        let there = λ (e : u ≡ t). ap waits e ∙ least.0 in
        grind (arith, nat_tests);
    lesser = λ u h.
        let now' = gone u in
        let least' = least.1 u in
        let both : (waits u ≡ true) × (t < u) = (grind (arith, nat_tests), grind (arith, nat_tests)) in
        All-push (λ x. x < u) given t (was.lesser u both.0) both.1;
  }

  -- as many turns as there are below the limit are all
  pub drained_all : (limit : ℕ) → ((t : ℕ) → waits t ≡ true → t < limit) → n ≤ length out → limit ≤ n → Empty waits
  drained_all limit below room many t = false_from_ne_true (waits t) (λ e.
      let lesser = was.lesser t e in
      let any = All-weaker (λ x. x < t) (λ x. 0 ≤ x) (λ x l. omega arith) given lesser in
      absurd (omega (arith, below t e, few given 0 t was.rising any lesser (omega arith), length-take-le n out room)))

-- the cells past those written stay
pub past_more : (out before : List ℕ) (n t : ℕ) → drop n out ≡ drop n before → drop (n + 1) (set out n t) ≡ drop (n + 1) before
past_more out before n t e = drop-set-lt (n + 1) out n t (omega arith) ∙ sym (drop-drop 1 n out) ∙ ap (drop 1) e ∙ drop-drop 1 n before
