-- The first byte that a netlist may not hold. Assumes nothing.
use Rattle.std.proofs.Common.{◌≡◌, ℕ, suc, ◌+◌, Bool, true, false, cond, not, ltb, List, [], ◌∷◌, length, take, position, Option, Some, None, Result, Ok, Err, sym, refl, ap, ◌∙◌, one-add, arith, min, ◌-◌, drop, ⊎_elim}
use lib.Dec.{leb-suc-suc}
use Rattle.std.specs.List.{position_or_len}
use Rattle.std.proofs.lemmas.Bool.{cases_lt, lt-ltb}
use Rattle.std.proofs.lemmas.List.{length-drop, take_all, take_rest}
use Rattle.text.specs.Text.{bad, bad_places}
use Rattle.text.specs.Refusals.{refusing}

-- a line that is cut off with the text is the line as far as the text goes
pub cut_short : (xs : List ℕ) (from end m : ℕ) → m ≡ min end (length xs) → take (m - from) (drop from xs) ≡ take (end - from) (drop from xs)
cut_short xs from end m e =
    ⊎_elim
    (λ within. ap (λ (k : ℕ). take (k - from) (drop from xs)) (omega (arith, e, within)))
    (λ past.
    ap (λ (k : ℕ). take (k - from) (drop from xs)) (omega (arith, e, past))
    ∙ (take_rest xs from
    ∙ sym (take_all (end - from) (drop from xs) (omega (arith, past, length-drop from xs)))))
    (cases_lt end (length xs))

module _ {F : Type 0} (f : ℕ → F) where
  -- a fault at the place that is found, counted from `at`
  abbrev pub refused_at : ℕ → Option ℕ → Result (Unit {0}) F
  refused_at at None = Ok tt
  refused_at at (Some i) = Err (f (at + i))

  shifted : (at n : ℕ) (t : Bool) → refused_at (suc at) (cond t (Some n) None) ≡ refused_at at (cond t (Some (1 + n)) None)
  shifted at n true = ap (λ (k : ℕ). Err (f k)) (omega arith)
  shifted at n false = refl

  step : (at n m : ℕ) (ps : List ℕ) (t : Bool) → refusing f ps ≡ refused_at (suc at) (cond (ltb n m) (Some n) None)
      → refusing f (cond t (at ∷ ps) ps) ≡ refused_at at (cond (ltb (cond (not t) (1 + n) 0) (suc m)) (Some (cond (not t) (1 + n) 0)) None)
  step at n m ps true e =
      ap (λ (k : ℕ). Err (f k)) (omega arith)
      ∙ sym (ap (λ (t : Bool). refused_at at (cond t (Some 0) None)) (lt-ltb 0 (suc m) (omega arith)))
  step at n m ps false e =
      let below : ltb n m ≡ ltb (1 + n) (suc m) = sym (ap (λ (k : ℕ). ltb k (suc m)) (one-add n) ∙ leb-suc-suc (suc n) m) in
      e ∙ (shifted at n (ltb n m) ∙ ap (λ (t : Bool). refused_at at (cond t (Some (1 + n)) None)) below)

  first_bad : (at : ℕ) (xs : List ℕ) → refusing f (bad_places at xs) ≡ refused_at at (position bad xs)
  first_bad at [] = refl
  first_bad at (x ∷ xs) = step at (position_or_len bad xs) (length xs) (bad_places (suc at) xs) (bad x) (first_bad (suc at) xs)

  pub bad_found : (at m n : ℕ) (xs ys zs : List ℕ) (o : Option ℕ) → o ≡ position bad zs → zs ≡ take n ys → n ≡ m → ys ≡ xs → refused_at at o ≡ refusing f (bad_places at (take m xs))
  bad_found at m n xs ys zs o e z k q =
      ap (refused_at at) (e ∙ ap (position bad) (z ∙ (ap (λ (i : ℕ). take i ys) k ∙ ap (take m) q))) ∙ sym (first_bad at (take m xs))
