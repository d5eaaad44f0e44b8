-- Path sums agree with the wires, and no other values do.
use Rattle.std.proofs.Common.{◌≡◌, ℕ, zero, suc, ◌<◌, Bool, false, List, [], ◌∷◌, ◌++◌, map, sym, refl, ap, ◌∙◌, subst, ap₂, arith}
use mathlib.Core.List.{map-append}
use Rattle.std.specs.List.{flat_map, AllByRecursion}
use Rattle.std.proofs.ByRecursion.{All-weaker}
use Rattle.gauge.specs.Semirings.{Ops, Laws}
use Rattle.paths.specs.Web.{Web, Incoming, Ranked, Rankable, Wire, Path, along, weight, SameExcept, Agree}
use Rattle.paths.specs.Listing.{numbered, extended, paths_under, paths}
use Rattle.paths.specs.Sums.{total, path_sum, brought, worked, gathered, mirror}
use Rattle.paths.specs.Theorems.{Unfolds, Unique, Gathers, AgreeInSums}

along_push : {V : Type 0} (r : Ops V) (v : V) (ws : List (Wire V)) (w : Wire V) → along r v (ws ++ (w ∷ [])) ≡ r.times (along r v ws) w.weight
along_push r v [] w = refl
along_push r v (x ∷ ws) w = along_push r (r.times v x.weight) ws w

module _ {V : Type 0} {r : Ops V} (laws : Laws r) where
  total_append : (xs ys : List V) → total r (xs ++ ys) ≡ r.plus (total r xs) (total r ys)
  total_append [] ys = sym (laws.zero_plus (total r ys))
  total_append (x ∷ xs) ys = ap (r.plus x) (total_append xs ys) ∙ sym (laws.plus_assoc x (total r xs) (total r ys))

  module _ (web : Web V) where
    -- the weights of some paths, each extended by w
    extended_total : (w : Wire V) (ps : List (Path V))
        → total r (map (weight r web) (map (extended w) ps)) ≡ r.times (total r (map (weight r web) ps)) w.weight
    extended_total w [] = sym (laws.zero_times w.weight)
    extended_total w (p ∷ ps) =
        ap₂ r.plus (along_push r (web.start p.first) p.wires w) (extended_total w ps)
        ∙ sym (laws.plus_times (weight r web p) (total r (map (weight r web) ps)) w.weight)

    -- the weights of the paths that go on by the wires from slot i on
    through_total : (s i : ℕ) (ps : ℕ → List (Path V)) (xs : List (Incoming V))
        → total r (map (weight r web) (flat_map (λ w. map (extended w) (ps w.from)) (numbered s i xs)))
        ≡ total r (map (brought r (λ u. total r (map (weight r web) (ps u)))) xs)
    through_total s i ps [] = refl
    through_total s i ps (x ∷ xs) =
        let w : Wire V = record { from = x.from; to = s; slot = i; weight = x.weight } in
        let rest : List (Path V) = flat_map (λ w. map (extended w) (ps w.from)) (numbered s (suc i) xs) in
        ap (total r) (map-append (weight r web) (map (extended w) (ps x.from)) rest)
        ∙ total_append (map (weight r web) (map (extended w) (ps x.from))) (map (weight r web) rest)
        ∙ ap₂ r.plus (extended_total w (ps x.from)) (through_total s (suc i) ps xs)

through_same : {V : Type 0} (f g : ℕ → List (Path V)) (s i : ℕ) (xs : List (Incoming V)) → AllByRecursion (λ x. f x.from ≡ g x.from) xs
    → flat_map (λ w. map (extended w) (f w.from)) (numbered s i xs) ≡ flat_map (λ w. map (extended w) (g w.from)) (numbered s i xs)
through_same f g s i [] h = refl
through_same f g s i (x ∷ xs) h = ap₂ ◌++◌ (ap (map (extended _)) h.0) (through_same f g s (suc i) xs h.1)

-- no path to s has more wires than the rank of s
pub paths_end : {V : Type 0} (web : Web V) (ranking : Rankable web) (m n s : ℕ) → s < web.size → ranking.0 s < m → ranking.0 s < n
    → paths_under web m s ≡ paths_under web n s
paths_end web ranking zero n s in' h h' = absurd (omega arith)
paths_end web ranking (suc m) zero s in' h h' = absurd (omega arith)
paths_end web ranking (suc m) (suc n) s in' h h' =
    let e = through_same (paths_under web m) (paths_under web n) s 0 (web.into s)
    (All-weaker _ _ (λ x c. paths_end web ranking m n x.from c.0 (omega arith) (omega arith)) (web.into s) (ranking.1.climbs s in')) in
    cc

-- what holds of a signal wherever it holds of all that feed it holds of every signal
pub by_rank : {V : Type 0} (web : Web V) → Rankable web → (P : ℕ → Type 0)
    → ((s : ℕ) → s < web.size → AllByRecursion (λ x. P x.from) (web.into s) → P s) → (s : ℕ) → s < web.size → P s
by_rank web (rank, ranked) P step s in' = go (suc (rank s)) s in' (omega arith)
  where
    go : (n s : ℕ) → s < web.size → rank s < n → P s
    go zero s in' h = absurd (omega arith)
    go (suc n) s in' h = step s in' (All-weaker _ _ (λ x c. go n x.from c.0 (omega arith)) (web.into s) (ranked.climbs s in'))

pub worked_same : {V : Type 0} (r : Ops V) (web : Web V) (v w : ℕ → V) (s : ℕ) → AllByRecursion (λ x. v x.from ≡ w x.from) (web.into s)
    → worked r web v s ≡ worked r web w s
unfolding worked
worked_same {V} r web v w s h = ap (r.plus (web.start s)) (go (web.into s) h)
  where
    go : (xs : List (Incoming V)) → AllByRecursion (λ x. v x.from ≡ w x.from) xs
        → total r (map (brought r v) xs) ≡ total r (map (brought r w) xs)
    go [] h = refl
    go (x ∷ xs) h = ap₂ r.plus (ap (λ y. brought r (λ u. y) x) h.0) (go xs h.1)

-- where nothing is edited both webs work alike
pub worked_unedited : {V : Type 0} (r : Ops V) (edited : ℕ → Bool) (old new : Web V) → SameExcept edited old new → (v : ℕ → V) (s : ℕ)
    → s < new.size → edited s ≡ false → worked r old v s ≡ worked r new v s
unfolding worked
worked_unedited r edited old new same v s in' un =
    ap₂ (λ y xs. r.plus y (total r (map (brought r v) xs))) (sym (same.start s in' un)) (sym (same.into s in' un))

pub agree_ranked : {V : Type 0} (old new : Web V) (rank : ℕ → ℕ) → Ranked old rank → Agree old new → Ranked new rank
agree_ranked old new rank ranked agree = record {
  below = λ s in'. let h = ranked.below s (omega (arith, agree.size)) in omega (arith, agree.size);
  climbs = λ s in'. subst (AllByRecursion (λ x. (x.from < new.size) × (rank x.from < rank s))) (sym (agree.into s in' refl))
      (All-weaker _ _ (λ x c. (omega (arith, agree.size, c.0), c.1)) (old.into s) (ranked.climbs s (omega (arith, agree.size))));
}

module _ {V : Type 0} (r : Ops V) (laws : Laws r) where
  pub unfolds : Unfolds r
  unfolding worked path_sum paths
  unfolds web ranking s in' =
      let h = ranking.1.below s in' in
      ap (λ ps. total r (map (weight r web) ps)) (paths_end web ranking web.size (suc web.size) s in' h (omega arith))
      ∙ ap (r.plus (web.start s)) (through_total laws web s 0 (paths_under web web.size) (web.into s))

  pub unique : Unique r
  unique web ranking v holds =
      by_rank web ranking (λ s. v s ≡ path_sum r web s)
      (λ s in' h. holds s in' ∙ worked_same r web v (path_sum r web) s h ∙ sym (unfolds web ranking s in'))

  pub gathers : Gathers r
  unfolding worked
  gathers web v s = go (web.start s) (web.into s)
    where
      go : (y : V) (xs : List (Incoming V)) → gathered r v y xs ≡ r.plus y (total r (map (brought r v) xs))
      go y [] = sym (laws.plus_comm y r.zero ∙ laws.zero_plus y)
      go y (x ∷ xs) = go (r.plus y (brought r v x)) xs ∙ laws.plus_assoc y _ _

  pub agree_in_sums : AgreeInSums r
  agree_in_sums old new ranking agree =
      unique new (ranking.0, agree_ranked old new ranking.0 ranking.1 agree) (path_sum r old)
      (λ s in'. unfolds old ranking s (omega (arith, agree.size)) ∙ worked_unedited r (λ s. false) old new agree (path_sum r old) s in' refl)

  pub mirrors : Laws (mirror r)
  mirrors = record {
    plus_assoc = laws.plus_assoc;
    plus_comm = laws.plus_comm;
    zero_plus = laws.zero_plus;
    times_assoc = λ x y z. sym (laws.times_assoc z y x);
    one_times = laws.times_one;
    times_one = laws.one_times;
    times_plus = λ x y z. laws.plus_times y z x;
    plus_times = λ x y z. laws.times_plus z x y;
    zero_times = laws.times_zero;
    times_zero = laws.zero_times;
    tells = laws.tells;
  }
