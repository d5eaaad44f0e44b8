-- Laws of `any`, `gathered` and `count_below`.
use Rattle.std.proofs.Common.{◌≡◌, ℕ, zero, suc, ◌+◌, ◌<◌, ◌≤◌, Bool, true, false, ◌&&◌, ◌||◌, ◌≢◌, List, [], ◌∷◌, map, fold, length, get_or, sym, refl, ap, ◌∙◌, arith}
use Rattle.std.specs.List.{AllByRecursion, list_any, range_with_len}
use Rattle.std.proofs.lemmas.List.Folds.{fold-map}
use Rattle.std.proofs.lemmas.List.FromFn.{fill_by_all}
use Rattle.std.proofs.lemmas.Bool.{or_from}
use Rattle.gauge.specs.Semirings.{Ops}
use Rattle.paths.specs.Web.{Incoming}
use Rattle.paths.specs.Sums.{brought, gathered}
use Rattle.paths.specs.Edits.{any, count_below}
use Rattle.settling.specs.declared.tap.Tap.{Tap}
use Rattle.settling.specs.Tables.{wire_of}

any_is : {A : Type 0} (test : A → Bool) (xs : List A) → list_any test xs ≡ any test xs
any_is test [] = refl
any_is test (x ∷ xs) = ap (λ b. test x || b) (any_is test xs)

module _ {A : Type 0} where
  pub any_none : (test : A → Bool) (xs : List A) → AllByRecursion (λ x. test x ≡ false) xs → any test xs ≡ false
  any_none test [] h = refl
  any_none test (x ∷ xs) h = or_from (test x) (any test xs) h.0 (any_none test xs h.1)

  pub any_map : {B : Type 0} (f : B → A) (test : A → Bool) (xs : List B) → any test (map f xs) ≡ any (λ x. test (f x)) xs
  any_map f test [] = refl
  any_map f test (x ∷ xs) = ap (λ b. test (f x) || b) (any_map f test xs)

  -- a test of the elements by their places
  pub any_at : (test : A → Bool) (xs : List A) (n : ℕ) (d : A) → n ≡ length xs → list_any (λ k. test (get_or xs k d)) (range_with_len 0 n) ≡ any test xs
  any_at test xs n d e =
      let f = λ (k : ℕ). get_or xs k d in
      any_is (λ k. test (f k)) (range_with_len 0 n) ∙ sym (any_map f test (range_with_len 0 n)) ∙ ap (any test) (sym (fill_by_all f xs n d (sym e) (λ k l. refl)))

  -- a test that passes more, where b
  pub any_more : (b : Bool) (test more all : A → Bool) → ((x : A) → all x ≡ ((b && more x) || test x)) → (xs : List A) → any all xs ≡ ((b && any more xs) || any test xs)
  any_more b test more all h [] = grind arith
  any_more b test more all h (x ∷ xs) = let here = h x in let rest = any_more b test more all h xs in grind arith

module _ {V : Type 0} (r : Ops V) (v : ℕ → V) where
  abbrev add : V → Incoming V → V
  add y x = r.plus y (brought r v x)

  gathered_is : (y : V) (xs : List (Incoming V)) → gathered r v y xs ≡ fold add y xs
  gathered_is y [] = refl
  gathered_is y (x ∷ xs) = gathered_is (add y x) xs

  -- what taps bring, by their places
  pub gathered_at : (weights : List V) (y : V) (taps : List Tap) (n : ℕ) (d : Tap) → n ≡ length taps
      → fold (λ y k. add y (wire_of r weights (get_or taps k d))) y (range_with_len 0 n) ≡ gathered r v y (map (wire_of r weights) taps)
  gathered_at weights y taps n d e =
      let wire = wire_of r weights in
      let more : V → Tap → V = λ y x. add y (wire x) in
      let f = λ (k : ℕ). get_or taps k d in
      sym (fold-map more f y (range_with_len 0 n)) ∙ ap (fold more y) (sym (fill_by_all f taps n d (sym e) (λ k l. refl)))
      ∙ sym (fold-map add wire y taps) ∙ sym (gathered_is y (map wire taps))

pub count_le : (n : ℕ) (test : ℕ → Bool) → count_below n test ≤ n
count_le zero test = omega arith
count_le (suc n) test = let rest = count_le n test in grind arith

pub count_none : (n : ℕ) (test : ℕ → Bool) → ((k : ℕ) → k < n → test k ≡ false) → count_below n test ≡ 0
count_none zero test h = refl
count_none (suc n) test h = let here = h n in let rest = count_none n test (λ k l. h k (omega arith)) in grind arith

pub count_same : (n : ℕ) (test other : ℕ → Bool) → ((k : ℕ) → k < n → test k ≡ other k) → count_below n test ≡ count_below n other
count_same zero test other h = refl
count_same (suc n) test other h = let here = h n in let rest = count_same n test other (λ k l. h k (omega arith)) in grind arith

-- a test that passes s too
pub count_more : (n s : ℕ) (test more : ℕ → Bool) → s < n → test s ≡ false → more s ≡ true → ((k : ℕ) → k < n → k ≢ s → more k ≡ test k) → count_below n more ≡ 1 + count_below n test
count_more zero s test more in' off on others = absurd (omega arith)
count_more (suc n) s test more in' off on others =
    let here = others n in
    let same = λ (e : s ≡ n). count_same n more test (λ k l. others k (omega arith) (omega arith)) in
    let rest = λ (l : s < n). count_more n s test more l off on (λ k l. others k (omega arith)) in
    grind arith
