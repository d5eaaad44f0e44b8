-- Lists with one element done over.
use Rattle.std.proofs.Common.{◌≡◌, ℕ, zero, suc, ◌<◌, ◌≢◌, List, [], ◌∷◌, map, length, get_or, sym, refl, ap, ◌∙◌, subst, ⊎_elim, arith}
use Rattle.std.specs.List.{range_with_len}
use Rattle.std.proofs.lemmas.List.FromFn.{length-map-range_with_len, get_or-map-range_with_len}
use Rattle.std.proofs.lemmas.List.{same_lists}
use Rattle.std.proofs.lemmas.Bool.{cases_eq}
use Rattle.book.specs.Changes.{update}

module _ {A : Type 0} where
  pub length_update : (i : ℕ) (f : A → A) (xs : List A) → length (update i f xs) ≡ length xs
  length_update i f [] = refl
  length_update zero f (x ∷ xs) = refl
  length_update (suc i) f (x ∷ xs) = ap suc (length_update i f xs)

  pub get_or_update_same : (i : ℕ) (f : A → A) (xs : List A) (d : A) → i < length xs → get_or (update i f xs) i d ≡ f (get_or xs i d)
  get_or_update_same i f [] d h = absurd (omega arith)
  get_or_update_same zero f (x ∷ xs) d h = refl
  get_or_update_same (suc i) f (x ∷ xs) d h = get_or_update_same i f xs d (omega arith)

  pub get_or_update_other : (i j : ℕ) (f : A → A) (xs : List A) (d : A) → j ≢ i → get_or (update i f xs) j d ≡ get_or xs j d
  get_or_update_other i j f [] d ne = refl
  get_or_update_other zero zero f (x ∷ xs) d ne = absurd (ne refl)
  get_or_update_other zero (suc j) f (x ∷ xs) d ne = refl
  get_or_update_other (suc i) zero f (x ∷ xs) d ne = refl
  get_or_update_other (suc i) (suc j) f (x ∷ xs) d ne = get_or_update_other i j f xs d (λ e. ne (ap suc e))

  -- a list by a function that differs at i alone
  pub counted_update : (f g : ℕ → A) (n i : ℕ) (t : A → A) → (i < n → g i ≡ t (f i)) → ((j : ℕ) → j < n → j ≢ i → g j ≡ f j)
      → map g (range_with_len 0 n) ≡ update i t (map f (range_with_len 0 n))
  counted_update f g n i t here others =
      let old = map f (range_with_len 0 n) in
      let many = length-map-range_with_len f 0 n in
      let many' = length-map-range_with_len g 0 n in
      same_lists (map g (range_with_len 0 n)) (update i t old) (many' ∙ sym (length_update i t old ∙ many))
      (λ k d h.
      let l : k < n = omega arith in
      get_or-map-range_with_len g 0 n k k d l (omega arith)
      ∙ ⊎_elim
      (λ e.
      let li : i < n = omega arith in
      subst (λ j. g j ≡ get_or (update i t old) j d) (sym e)
      (here li ∙ ap t (sym (get_or-map-range_with_len f 0 n i i d li (omega arith))) ∙ sym (get_or_update_same i t old d (omega arith))))
      (λ ne. others k l ne ∙ sym (get_or-map-range_with_len f 0 n k k d l (omega arith)) ∙ sym (get_or_update_other i k t old d ne))
      (cases_eq k i))
