-- The test whether wires lead from one signal to another, and the most that an edit can count.
use Rattle.std.proofs.Common.{◌≡◌, ℕ, zero, suc, ◌+◌, ◌<◌, ◌≤◌, Bool, true, false, not, ◌&&◌, ◌||◌, eqb, List, [], ◌∷◌, ◌++◌, map, sym, refl, ap, ◌∙◌, subst, ap₂, inl, inr, ⊎_elim, arith}
use Rattle.std.specs.List.{flat_map}
use Rattle.std.proofs.ByRecursion.{All-weaker}
use Rattle.std.proofs.lemmas.Bool.{cases_Bool, both_ways, eqb-true, eq-eqb, or_left, or_right}
use Rattle.gauge.specs.Semirings.{Ops}
use Rattle.paths.specs.Web.{Web, Incoming, Ranked, Wire, Path, Leads}
use Rattle.paths.specs.Listing.{numbered, wires_into, extended, paths_under, paths, In}
use Rattle.paths.specs.Edits.{any, count_below, only, fed, edit_count}
use Rattle.paths.specs.Reach.{reached}
use Rattle.paths.specs.Theorems.{ReachTold}
use Rattle.paths.proofs.Listing.{lists_paths}
use Rattle.paths.proofs.Edits.{any_same}

or_rest : (a b : Bool) → a ≡ false → (a || b) ≡ true → b ≡ true
or_rest a b e h = grind arith

module _ {A : Type 0} (t : A → Bool) where
  any_find : (xs : List A) → any t xs ≡ true → (x : A) × In x xs × (t x ≡ true)
  any_find [] h = absurd (both_ways false refl h)
  any_find (y ∷ ys) h =
      ⊎_elim
      (λ e. (y, inl refl, e))
      (λ e. let r = any_find ys (or_rest (t y) (any t ys) e h) in (r.0, inr r.1, r.2))
      (cases_Bool (t y))

  any_in : (x : A) (xs : List A) → In x xs → t x ≡ true → any t xs ≡ true
  any_in x [] m h = absurd m
  any_in x (y ∷ ys) (inl e) h = or_left (t y) (any t ys) (subst (λ z. t z ≡ true) e h)
  any_in x (y ∷ ys) (inr m) h = or_right (t y) (any t ys) (any_in x ys m h)

  any_append : (xs ys : List A) → any t (xs ++ ys) ≡ (any t xs || any t ys)
  any_append [] ys = refl
  any_append (x ∷ xs) ys = let e = any_append xs ys in grind arith

any_joined : {A B : Type 0} (t : B → Bool) (f : A → List B) (xs : List A) → any t (flat_map f xs) ≡ any (λ x. any t (f x)) xs
any_joined t f [] = refl
any_joined t f (x ∷ xs) = any_append t (f x) (flat_map f xs) ∙ ap (λ b. any t (f x) || b) (any_joined t f xs)

pub tells_reach : (V : Type 0) → ReachTold V
tells_reach V web ranking a s in' =
    let listed = lists_paths V web ranking s in' in (
      (λ h.
          let r = any_find (λ (p : Path V). eqb p.first a) (paths web s) h in
          (r.0.wires, subst (λ f. Leads web f r.0.wires s) (eqb-true r.0.first a r.2) ((listed.has r.0).1 r.1))),
      (λ led.
          let p : Path V = record { first = a; wires = led.0 } in
          any_in (λ (q : Path V). eqb q.first a) p (paths web s) ((listed.has p).0 led.1) (eq-eqb a a refl)),
    )

module _ {V : Type 0} where
  -- a further wire leaves a path's first signal as it is
  any_extended : (g : ℕ) (w : Wire V) (ps : List (Path V))
      → any (λ p. eqb p.first g) (map (extended w) ps) ≡ any (λ p. eqb p.first g) ps
  any_extended g w [] = refl
  any_extended g w (p ∷ ps) = ap (λ b. eqb p.first g || b) (any_extended g w ps)

  any_wires : (g : ℕ) (ps : ℕ → List (Path V)) (s i : ℕ) (xs : List (Incoming V))
      → any (λ w. any (λ p. eqb p.first g) (map (extended w) (ps w.from))) (numbered s i xs)
      ≡ any (λ x. any (λ p. eqb p.first g) (ps x.from)) xs
  any_wires g ps s i [] = refl
  any_wires g ps s i (x ∷ xs) =
      ap₂ ◌||◌ (any_extended g (record { from = x.from; to = s; slot = i; weight = x.weight }) (ps x.from)) (any_wires g ps s (suc i) xs)

-- a test that is yes at g, and further on wherever some wire comes from a yes, tells what g reaches
pub reached_fixed : {V : Type 0} (web : Web V) (rank : ℕ → ℕ) → Ranked web rank → (F : ℕ → Bool) (g : ℕ)
    → ((s : ℕ) → s < web.size → F s ≡ (eqb s g || any (λ x. F x.from) (web.into s)))
    → (s : ℕ) → s < web.size → reached web g s ≡ F s
unfolding paths
reached_fixed web rank ranked F g fixed s in' = under web.size s in' (ranked.below s in')
  where
    under : (n s : ℕ) → s < web.size → rank s < n → any (λ p. eqb p.first g) (paths_under web n s) ≡ F s
    under zero s in' h = absurd (omega arith)
    under (suc n) s in' h =
        ap (λ b. eqb s g || b)
        (any_joined (λ p. eqb p.first g) (λ w. map (extended w) (paths_under web n w.from)) (wires_into web s)
        ∙ any_wires g (paths_under web n) s 0 (web.into s)
        ∙ any_same (λ x. any (λ p. eqb p.first g) (paths_under web n x.from)) (λ x. F x.from) (web.into s)
        (All-weaker _ _ (λ x c. under n x.from c.0 (omega (arith, c.1))) (web.into s) (ranked.climbs s in')))
        ∙ sym (fixed s in')

count_below_most : (n : ℕ) (t : ℕ → Bool) → count_below n t ≤ n
count_below_most zero t = omega arith
count_below_most (suc n) t = let h = count_below_most n t in grind arith

-- an edit counts no signal twice
pub count_most : {V : Type 0} (r : Ops V) (e : ℕ) (web : Web V) (before after : ℕ → V) → edit_count r e web before after ≤ 1 + web.size
unfolding edit_count
count_most r e web before after =
    let h = count_below_most web.size (λ s. not (only e s) && fed r web before after s) in omega arith
