-- One turn more of the loop that numbers what is picked.
use Rattle.std.proofs.Common.{◌≡◌, ℕ, ◌+◌, ◌<◌, Bool, true, false, List, length, get_or, set, sym, ap, ◌∙◌, subst, ⊎_elim, add-one, arith}
use Rattle.std.proofs.lemmas.List.{get_or-set_same, get_or-set_other}
use Rattle.std.proofs.lemmas.Bool.{cases_eq, both_ways, cond-true, cond-false}
use Rattle.network.specs.Renumbering.{Distinct, Numbered}
use Rattle.network.specs.Tally.{many}

many_yes : (test : ℕ → Bool) (t : ℕ) → test t ≡ true → many test (t + 1) ≡ many test t + 1
many_yes test t h = rw (add-one t) (ap (λ x. many test t + x) (cond-true {A = ℕ} (test t) 1 0 h))

many_no : (test : ℕ → Bool) (t : ℕ) → test t ≡ false → many test (t + 1) ≡ many test t
many_no test t h = rw add-one (let none = cond-false {A = ℕ} (test t) 1 0 h in omega arith)

-- the signal s has the turn t
module _ (pick : ℕ → Bool) (order before : List ℕ) (first : ℕ) (turns : List ℕ) (next t s : ℕ) (so_far : Numbered pick order first t before turns next) (at : s ≡ get_or order t 0) where
  abbrev hit : ℕ → Bool
  hit u = pick (get_or order u 0)

  pub numbers_one : pick s ≡ true → s < length turns → t < length order → (n : ℕ) → Distinct order n → Numbered pick order first (t + 1) before (set turns s next) (next + 1)
  numbers_one picked l lt n distinct =
      let m = many_yes hit t (subst (λ x. pick x ≡ true) at picked) in
      let start = so_far.counted in
      record {
        counted = omega arith;
        picked = λ u lu hu.
            ⊎_elim
            (λ e. subst (λ x. get_or (set turns s next) (get_or order x 0) 0 ≡ first + many hit x) (sym e) (subst (λ x. get_or (set turns s next) x 0 ≡ first + many hit t) at (get_or-set_same turns s next 0 l ∙ start)))
            (λ ne. get_or-set_other turns s (get_or order u 0) next 0 (λ q. ne (distinct.once u t (omega arith) lt (q ∙ at))) ∙ so_far.picked u (omega arith) hu)
            (cases_eq u t);
        others = λ v no'. get_or-set_other turns s v next 0 (λ e. both_ways (pick v) no' (subst (λ x. pick x ≡ true) (sym e) picked)) ∙ so_far.others v no';
      }

  pub numbers_none : pick s ≡ false → Numbered pick order first (t + 1) before turns next
  numbers_none no' =
      let h : hit t ≡ false = subst (λ x. pick x ≡ false) at no' in
      let m = many_no hit t h in
      let start = so_far.counted in
      record {
        counted = omega arith;
        picked = λ u lu hu. ⊎_elim (λ e. absurd (both_ways (hit t) h (subst (λ x. hit x ≡ true) e hu))) (λ ne. so_far.picked u (omega arith) hu) (cases_eq u t);
        others = so_far.others;
      }

-- what is known of lists, known of lists that are the same
pub numbered_as : {pick : ℕ → Bool} {order before : List ℕ} {first t : ℕ} {turns turns' : List ℕ} {next next' : ℕ} → turns' ≡ turns → next' ≡ next → Numbered pick order first t before turns next → Numbered pick order first t before turns' next'
numbered_as {pick} {order} {before} {first} {t} {turns} {turns'} {next} {next'} e f h =
    subst (λ x. Numbered pick order first t before x next') (sym e) (subst (λ x. Numbered pick order first t before turns x) (sym f) h)
