-- Settled cells: they are unique, and after an edit of path sums they are path sums.
use Rattle.std.proofs.Common.{◌≡◌, ℕ, zero, suc, ◌+◌, ◌<◌, Bool, true, false, cond, not, ◌&&◌, ◌||◌, eqb, List, [], ◌∷◌, sym, refl, ap, ◌∙◌, ap₂, arith}
use Rattle.std.specs.List.{AllByRecursion}
use Rattle.std.proofs.ByRecursion.{All-weaker}
use Rattle.std.proofs.lemmas.Bool.{eqb-true, not-false, or_parts, cond_both}
use Rattle.gauge.specs.Semirings.{Ops, Laws}
use Rattle.paths.specs.Web.{Web}
use Rattle.paths.specs.Sums.{path_sum}
use Rattle.paths.specs.Edits.{any, count_below, only, fed, edit_count}
use Rattle.paths.specs.Theorems.{SumsAreSettled, SettledUnique, SettledAreSums, EditsRight, EditsCommute}
use Rattle.paths.proofs.Sums.{by_rank, worked_same, worked_unedited, unfolds}

any_false : {A : Type 0} (test : A → Bool) (xs : List A) → any test xs ≡ false → AllByRecursion (λ x. test x ≡ false) xs
any_false test [] e = tt
any_false test (x ∷ xs) e = let h = or_parts (test x) (any test xs) e in (h.0, any_false test xs h.1)

pub any_same : {A : Type 0} (t u : A → Bool) (xs : List A) → AllByRecursion (λ x. t x ≡ u x) xs → any t xs ≡ any u xs
any_same t u [] h = refl
any_same t u (x ∷ xs) h = ap₂ ◌||◌ h.0 (any_same t u xs h.1)

count_same : (n : ℕ) (t u : ℕ → Bool) → ((s : ℕ) → s < n → t s ≡ u s) → count_below n t ≡ count_below n u
count_same zero t u h = refl
count_same (suc n) t u h = ap₂ ◌+◌ (ap (λ b. cond b 1 0) (h n (omega arith))) (count_same n t u (λ s l. h s (omega arith)))

fed_same : {V : Type 0} (r : Ops V) (web : Web V) (b b' a a' : ℕ → V) (s : ℕ)
    → AllByRecursion (λ x. (b x.from ≡ b' x.from) × (a x.from ≡ a' x.from)) (web.into s)
    → fed r web b a s ≡ fed r web b' a' s
unfolding fed
fed_same r web b b' a a' s h =
    any_same _ _ (web.into s) (All-weaker _ _ (λ x e. ap not (ap₂ r.same e.0 e.1)) (web.into s) h)

-- a signal that no changed cell feeds is fed the values of before
not_fed : {V : Type 0} (r : Ops V) → Laws r → (web : Web V) (before after : ℕ → V) (s : ℕ)
    → fed r web before after s ≡ false → AllByRecursion (λ x. before x.from ≡ after x.from) (web.into s)
unfolding fed
not_fed r laws web before after s e =
    All-weaker _ _ (λ x h. (laws.tells (before x.from) (after x.from)).0 (not-false _ h)) (web.into s) (any_false _ (web.into s) e)

pub settled_unique : {V : Type 0} (r : Ops V) → SettledUnique r
settled_unique r edited web ranking before one two settled settled' =
    by_rank web ranking (λ s. one s ≡ two s)
    (λ s in' h.
    let a = settled s in' in
    let b = settled' s in' in
    let e = fed_same r web before before one two s (All-weaker _ _ (λ x e. (refl, e)) (web.into s) h) in
    let f = worked_same r web one two s h in
    cc)

module _ {V : Type 0} (r : Ops V) (laws : Laws r) where
  pub sums_are_settled : SumsAreSettled r
  sums_are_settled edited old new was-ranked ranked same before sums s in' =
      cond_both _ _ _ (λ v. path_sum r new s ≡ v)
      (λ _. unfolds r laws new ranked s in')
      (λ un. let h = or_parts (edited s) (fed r new before (path_sum r new) s) un in
      let in'' : s < old.size = omega (arith, same.size) in
      sym (sums s in'' ∙ unfolds r laws old was-ranked s in''
      ∙ worked_same r old (path_sum r old) before s
      (All-weaker _ _ (λ x c. sym (sums x.from c.0)) (old.into s) (was-ranked.1.climbs s in''))
      ∙ worked_unedited r edited old new same before s in' h.0
      ∙ worked_same r new before (path_sum r new) s (not_fed r laws new before (path_sum r new) s h.1)
      ∙ sym (unfolds r laws new ranked s in')))

  pub settled_are_sums : SettledAreSums r
  settled_are_sums edited old new was-ranked ranked same before after sums settled =
      let renewed = settled_unique r edited new ranked before after (path_sum r new) settled (sums_are_settled edited old new was-ranked ranked same before sums) in
      record {
        sums = renewed;
        changes = λ s in'. fed_same r new before (path_sum r old) after (path_sum r new) s
            (All-weaker _ _ (λ x c. (sums x.from (omega (arith, same.size, c.0)), renewed x.from c.0)) (new.into s) (ranked.1.climbs s in'));
      }

  pub edits_right : EditsRight r
  unfolding edit_count
  edits_right e old new was-ranked ranked same before after sums settled =
      let right = settled_are_sums (only e) old new was-ranked ranked same before after sums settled in
      record {
        sums = right.sums;
        count = ap (λ n. 1 + n) (count_same new.size _ _ (λ s in'. ap (λ t. not (only e s) && t) (right.changes s in')));
      }

swapped : {A : Type 0} (a b : Bool) (x y z : A) → (a ≡ true → b ≡ true → ⊥) → cond a x (cond b y z) ≡ cond b y (cond a x z)
swapped true true x y z apart = absurd (apart refl refl)
swapped true false x y z apart = refl
swapped false true x y z apart = refl
swapped false false x y z apart = refl

pub edits_commute : {V : Type 0} (r : Ops V) → EditsCommute r
edits_commute r web e f ne v w xs ys s =
    let apart : (s : ℕ) → eqb s e ≡ true → eqb s f ≡ true → ⊥ = λ s h h'. ne (sym (eqb-true s e h) ∙ eqb-true s f h') in
    ap (λ web. path_sum r web s)
    (λ i. record { size = web.size; start = λ s. swapped (eqb s e) (eqb s f) v w (web.start s) (apart s) i; into = λ s. swapped (eqb s e) (eqb s f) xs ys (web.into s) (apart s) i })
