-- `place` moves the numbers below n without gaps.
use Rattle.std.proofs.Common.{◌≡◌, ℕ, zero, suc, ◌+◌, ◌-◌, ◌<◌, ◌≤◌, Bool, true, false, not, sym, refl, ◌∙◌, subst, ⊎_elim, arith}
use Rattle.std.proofs.lemmas.Bool.{cases_Bool, cases_eq, cases_lt, cases_order, both_ways, cond-true, cond-false, not_from_false, not-true}
use Rattle.network.specs.Renumbering.{place}
use Rattle.network.specs.Tally.{many}

many_mono : (test : ℕ → Bool) (a b : ℕ) → a ≤ b → many test a ≤ many test b
many_mono test a zero h = let e : a ≡ 0 = omega arith in subst (λ x. many test x ≤ 0) (sym e) (omega arith)
many_mono test a (suc b) h =
    ⊎_elim
    (λ e. subst (λ x. many test x ≤ many test (suc b)) (sym e) (omega arith))
    (λ ne. let below = many_mono test a b (omega arith) in omega arith)
    (cases_eq a (suc b))

pub many_strict : (test : ℕ → Bool) (a b : ℕ) → test a ≡ true → a < b → many test a < many test b
many_strict test a b yes' l = let m = many_mono test (suc a) b l in let one = cond-true {A = ℕ} (test a) 1 0 yes' in omega arith

pub many_split : (test : ℕ → Bool) (n : ℕ) → many (λ u. not (test u)) n + many test n ≡ n
many_split test zero = refl
many_split test (suc n) = let below = many_split test n in grind arith

-- the number of which the test holds that has j such numbers below it
counted_off : (test : ℕ → Bool) (n j : ℕ) → j < many test n → (t : ℕ) × (t < n) × (test t ≡ true) × (many test t ≡ j)
counted_off test zero j h = absurd (omega arith)
counted_off test (suc n) j h =
    ⊎_elim
    (λ l. let r = counted_off test n j l in (r.0, omega (arith, r.1), r.2, r.3))
    (λ ge.
    ⊎_elim
    (λ yes'. let one = cond-true {A = ℕ} (test n) 1 0 yes' in (n, omega arith, yes', omega arith))
    (λ no'. let none = cond-false {A = ℕ} (test n) 1 0 no' in absurd (omega arith))
    (cases_Bool (test n)))
    (cases_lt j (many test n))

module _ (test : ℕ → Bool) (n : ℕ) where
  abbrev rest : ℕ → Bool
  rest u = not (test u)

  place_yes : (t : ℕ) → test t ≡ true → place test n t ≡ many rest n + many test t
  place_yes t h = cond-true {A = ℕ} (test t) (many rest n + many test t) (many rest t) h

  place_no : (t : ℕ) → test t ≡ false → place test n t ≡ many rest t
  place_no t h = cond-false {A = ℕ} (test t) (many rest n + many test t) (many rest t) h

  pub place_low : (t : ℕ) → t < n → test t ≡ false → place test n t < many rest n
  place_low t l h = let e = place_no t h in let s = many_strict rest t n (not_from_false (test t) h) l in omega arith

  pub place_high : (t : ℕ) → test t ≡ true → many rest n ≤ place test n t
  place_high t h = let e = place_yes t h in omega arith

  pub place_in : (t : ℕ) → t < n → place test n t < n
  place_in t l =
      let all = many_split test n in
      ⊎_elim
      (λ yes'. let e = place_yes t yes' in let s = many_strict test t n yes' l in omega arith)
      (λ no'. let s = place_low t l no' in omega arith)
      (cases_Bool (test t))

  -- the order stays, unless the test holds of the first alone
  pub place_climbs : (a b : ℕ) → a < b → a < n → b < n → (test a ≡ true → test b ≡ true) → place test n a < place test n b
  place_climbs a b l la lb up =
      ⊎_elim
      (λ ya. let x = place_yes a ya in let z = place_yes b (up ya) in let s = many_strict test a b ya l in omega arith)
      (λ na.
      ⊎_elim
      (λ yb. let x = place_low a la na in let z = place_high b yb in omega arith)
      (λ nb. let x = place_no a na in let z = place_no b nb in let s = many_strict rest a b (not_from_false (test a) na) l in omega arith)
      (cases_Bool (test b)))
      (cases_Bool (test a))

  apart : (a b : ℕ) → a < b → a < n → b < n → place test n a ≡ place test n b → ⊥
  apart a b l la lb e =
      ⊎_elim
      (λ ya.
      ⊎_elim
      (λ yb. let s = place_climbs a b l la lb (λ _. yb) in omega arith)
      (λ nb. let x = place_high a ya in let z = place_low b lb nb in omega arith)
      (cases_Bool (test b)))
      (λ na. let s = place_climbs a b l la lb (λ ya. absurd (both_ways (test a) na ya)) in omega arith)
      (cases_Bool (test a))

  pub place_one : (a b : ℕ) → a < n → b < n → place test n a ≡ place test n b → a ≡ b
  place_one a b la lb e =
      ⊎_elim
      (λ same. same)
      (λ differ. absurd (⊎_elim (λ l. apart a b l la lb e) (λ l. apart b a l lb la (sym e)) differ))
      (cases_order a b)

  pub place_all : (j : ℕ) → j < n → (t : ℕ) × (t < n) × (place test n t ≡ j)
  place_all j l =
      let all = many_split test n in
      ⊎_elim
      (λ low. let r = counted_off rest n j low in (r.0, r.1, place_no r.0 (not-true (test r.0) r.2) ∙ r.3))
      (λ high.
      let r = counted_off test n (j - many rest n) (omega arith) in
      let e = place_yes r.0 r.2 in
      (r.0, r.1, omega (arith, r.3)))
      (cases_lt j (many rest n))
