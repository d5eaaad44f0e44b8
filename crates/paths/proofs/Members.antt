-- What stands in a list, and lists without repeats.
use Rattle.std.proofs.Common.{◌≡◌, ◌⊎◌, List, [], ◌∷◌, ◌++◌, map, sym, refl, ap, subst, inl, inr, ⊎_elim}
use Rattle.std.specs.List.{flat_map}
use Rattle.paths.specs.Listing.{In, Distinct}

module _ {A : Type 0} where
  in_left : (x : A) (xs ys : List A) → In x xs → In x (xs ++ ys)
  in_left x [] ys m = absurd m
  in_left x (y ∷ xs) ys (inl e) = inl e
  in_left x (y ∷ xs) ys (inr m) = inr (in_left x xs ys m)

  in_right : (x : A) (xs ys : List A) → In x ys → In x (xs ++ ys)
  in_right x [] ys m = m
  in_right x (y ∷ xs) ys m = inr (in_right x xs ys m)

  in_append : (x : A) (xs ys : List A) → In x (xs ++ ys) → In x xs ⊎ In x ys
  in_append x [] ys m = inr m
  in_append x (y ∷ xs) ys (inl e) = inl (inl e)
  in_append x (y ∷ xs) ys (inr m) = ⊎_elim (λ h. inl (inr h)) inr (in_append x xs ys m)

  pub distinct_append : (xs ys : List A) → Distinct xs → Distinct ys → ((x : A) → In x xs → In x ys → ⊥) → Distinct (xs ++ ys)
  distinct_append [] ys d d' apart = d'
  distinct_append (x ∷ xs) ys d d' apart =
      (λ m. ⊎_elim d.0 (apart x (inl refl)) (in_append x xs ys m), distinct_append xs ys d.1 d' (λ y m. apart y (inr m)))

module _ {A B : Type 0} where
  pub in_map : (f : A → B) (x : A) (xs : List A) → In x xs → In (f x) (map f xs)
  in_map f x [] m = absurd m
  in_map f x (y ∷ ys) (inl e) = inl (ap f e)
  in_map f x (y ∷ ys) (inr m) = inr (in_map f x ys m)

  pub of_map : (f : A → B) (y : B) (xs : List A) → In y (map f xs) → (x : A) × In x xs × (y ≡ f x)
  of_map f y [] m = absurd m
  of_map f y (x ∷ xs) (inl e) = (x, inl refl, e)
  of_map f y (x ∷ xs) (inr m) = let h = of_map f y xs m in (h.0, inr h.1, h.2)

  pub distinct_map : (f : A → B) → ((x y : A) → f x ≡ f y → x ≡ y) → (xs : List A) → Distinct xs → Distinct (map f xs)
  distinct_map f inj [] d = tt
  distinct_map f inj (x ∷ xs) d =
      (λ m. let h = of_map f (f x) xs m in d.0 (subst (λ y. In y xs) (sym (inj x h.0 h.2)) h.1), distinct_map f inj xs d.1)

  pub in_joined : (f : A → List B) (y : B) (x : A) (xs : List A) → In x xs → In y (f x) → In y (flat_map f xs)
  in_joined f y x [] m n = absurd m
  in_joined f y x (z ∷ zs) (inl e) n = in_left y (f z) (flat_map f zs) (subst (λ w. In y (f w)) e n)
  in_joined f y x (z ∷ zs) (inr m) n = in_right y (f z) (flat_map f zs) (in_joined f y x zs m n)

  pub of_joined : (f : A → List B) (y : B) (xs : List A) → In y (flat_map f xs) → (x : A) × In x xs × In y (f x)
  of_joined f y [] m = absurd m
  of_joined f y (x ∷ xs) m =
      ⊎_elim (λ h. (x, inl refl, h)) (λ h. let k = of_joined f y xs h in (k.0, inr k.1, k.2)) (in_append y (f x) (flat_map f xs) m)
