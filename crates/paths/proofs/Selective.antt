-- Where ⊕ is one of its arguments: a path sum is the weight of a path, and absorbs the weight of every path.
use Rattle.std.proofs.Common.{◌≡◌, ◌⊎◌, List, [], ◌∷◌, map, sym, refl, ap, ◌∙◌, subst, inl, inr, ⊎_elim}
use Rattle.gauge.specs.Semirings.{Ops, Laws, Selects}
use Rattle.paths.specs.Web.{weight}
use Rattle.paths.specs.Listing.{paths, In}
use Rattle.paths.specs.Sums.{total, path_sum}
use Rattle.paths.specs.Theorems.{SumIsWeight, WeightsAbsorbed}
use Rattle.paths.proofs.Members.{in_map, of_map}
use Rattle.paths.proofs.Listing.{lists_paths}

module _ {V : Type 0} (r : Ops V) (selects : Selects r) where
  picked : (xs : List V) → (total r xs ≡ r.zero) ⊎ In (total r xs) xs
  picked [] = inl refl
  picked (x ∷ xs) =
      ⊎_elim (λ e. inr (inl e))
      (λ e. ⊎_elim (λ z. inl (e ∙ z)) (λ m. inr (inr (subst (λ v. In v xs) (sym e) m))) (picked xs))
      (selects x (total r xs))

  pub sum_is_weight : SumIsWeight r
  unfolding path_sum
  sum_is_weight web ranking s in' ne =
      ⊎_elim (λ z. absurd (ne z))
      (λ m. let h = of_map (weight r web) (path_sum r web s) (paths web s) m in
      (h.0, ((lists_paths V web ranking s in').has h.0).1 h.1, sym h.2))
      (picked (map (weight r web) (paths web s)))

  module _ (laws : Laws r) where
    absorbed : (x : V) (xs : List V) → In x xs → r.plus x (total r xs) ≡ total r xs
    absorbed x [] m = absurd m
    absorbed x (y ∷ ys) (inl e) =
        ap (λ v. r.plus v (r.plus y (total r ys))) e ∙ sym (laws.plus_assoc y y (total r ys))
        ∙ ap (λ v. r.plus v (total r ys)) (⊎_elim (λ h. h) (λ h. h) (selects y y))
    absorbed x (y ∷ ys) (inr m) =
        sym (laws.plus_assoc x y (total r ys)) ∙ ap (λ v. r.plus v (total r ys)) (laws.plus_comm x y)
        ∙ laws.plus_assoc y x (total r ys) ∙ ap (r.plus y) (absorbed x ys m)

    pub weights_absorbed : WeightsAbsorbed r
    unfolding path_sum
    weights_absorbed web ranking s in' p ends =
        absorbed (weight r web p) (map (weight r web) (paths web s))
        (in_map (weight r web) p (paths web s) (((lists_paths V web ranking s in').has p).0 ends))
