-- Turns numbered anew number the signals without gaps, and wires still climb.
use Rattle.std.proofs.Common.{◌≡◌, ℕ, ◌<◌, Bool, true, false, List, length, get_or, sym, ap, ◌∙◌, subst, arith}
use Rattle.network.specs.Marks.{marked}
use Rattle.network.specs.Renumbering.{Distinct, Renumbered, place}
use Rattle.network.specs.Wiring.{Inverse}
use Rattle.network.proofs.Places.{place_in, place_one, place_all, place_low, place_high, place_climbs}

module _ (turns order marks turns' : List ℕ) (n : ℕ) (long : length order ≡ n) (numbered : Inverse turns order n) (listed : Inverse order turns n) (renumbered : Renumbered marks order turns') where
  abbrev at : ℕ → Bool
  at t = marked marks (get_or order t 0)

  placed_at : (t : ℕ) → t < n → get_or turns' (get_or order t 0) 0 ≡ place at n t
  placed_at t l = subst (λ m. get_or turns' (get_or order t 0) 0 ≡ place at m t) long (renumbered t (omega arith))

  placed : (s : ℕ) → s < n → get_or turns' s 0 ≡ place at n (get_or turns s 0)
  placed s l = subst (λ x. get_or turns' x 0 ≡ place at n (get_or turns s 0)) (numbered s l).1 (placed_at (get_or turns s 0) (numbered s l).0)

  mark : (s : ℕ) → s < n → at (get_or turns s 0) ≡ marked marks s
  mark s l = ap (marked marks) (numbered s l).1

  turns_within : (s : ℕ) → s < n → get_or turns' s 0 < n
  turns_within s l = subst (λ x. x < n) (sym (placed s l)) (place_in at n (get_or turns s 0) (numbered s l).0)

  turns_once : (s u : ℕ) → s < n → u < n → get_or turns' s 0 ≡ get_or turns' u 0 → s ≡ u
  turns_once s u ls lu e =
      let same = place_one at n (get_or turns s 0) (get_or turns u 0) (numbered s ls).0 (numbered u lu).0 (sym (placed s ls) ∙ e ∙ placed u lu) in
      sym (numbered s ls).1 ∙ ap (λ t. get_or order t 0) same ∙ (numbered u lu).1

  pub still_distinct : length turns' ≡ n → Distinct turns' n
  still_distinct long' = record { within = λ s l. turns_within s (omega arith); once = λ s u ls lu. turns_once s u (omega arith) (omega arith) }

  pub still_numbered : (order' : List ℕ) → ((s : ℕ) → s < n → get_or order' (get_or turns' s 0) 0 ≡ s) → Inverse turns' order' n
  still_numbered order' back s l = (turns_within s l, back s l)

  pub still_listed : (order' : List ℕ) → ((s : ℕ) → s < n → get_or order' (get_or turns' s 0) 0 ≡ s) → Inverse order' turns' n
  still_listed order' back t l =
      let from = place_all at n t l in
      let s = get_or order from.0 0 in
      let ls = (listed from.0 from.1).0 in
      let turn : get_or turns' s 0 ≡ t = placed_at from.0 from.1 ∙ from.2 in
      let is : get_or order' t 0 ≡ s = subst (λ x. get_or order' x 0 ≡ s) turn (back s ls) in
      (subst (λ x. x < n) (sym is) ls, ap (λ x. get_or turns' x 0) is ∙ turn)

  -- what has no mark comes before what has one
  pub marked_later : (a b : ℕ) → a < n → b < n → marked marks a ≡ false → marked marks b ≡ true → get_or turns' a 0 < get_or turns' b 0
  marked_later a b la lb no' yes' =
      let low = place_low at n (get_or turns a 0) (numbered a la).0 (mark a la ∙ no') in
      let high = place_high at n (get_or turns b 0) (mark b lb ∙ yes') in
      omega (arith, low, high, placed a la, placed b lb)

  pub still_climbs : (a b : ℕ) → a < n → b < n → get_or turns a 0 < get_or turns b 0 → (marked marks a ≡ true → marked marks b ≡ true) → get_or turns' a 0 < get_or turns' b 0
  still_climbs a b la lb l up =
      let s = place_climbs at n (get_or turns a 0) (get_or turns b 0) l (numbered a la).0 (numbered b lb).0 (λ m. mark b lb ∙ up (sym (mark a la) ∙ m)) in
      omega (arith, s, placed a la, placed b lb)
