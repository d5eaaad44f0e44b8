-- The fields of a file in their order.
use Rattle.std.proofs.Common.{◌≡◌, ℕ, zero, suc, ◌+◌, ◌-◌, ◌<◌, ◌≤◌, List, [], ◌∷◌, ◌++◌, length, take, drop, Ok, Result, sym, refl, ap, ◌∙◌, ⊎_elim, add-zero, arith, le-leb}
use native.Mathlib.Nat.{sub-zero}
use Rattle.std.specs.Int.Digits.{number_from_digits}
use Rattle.std.proofs.lemmas.List.{length-drop, length-take-le, drop-drop, drop_all, drop-take, take-take, take_all}
use Rattle.std.proofs.lemmas.Bool.{cond-true, cases_lt}
use Rattle.fields.specs.declared.faults.FieldFault.{FieldFault}
use Rattle.fields.specs.Fields.{Content, size_of, field_at, next_place}
use Rattle.fields.specs.Lists.{told, said_at, placed, fields_from, fields}
use Rattle.fields.specs.declared.read.Placed.{Placed}

-- more than a field's bytes make no difference to it
module _ (x : ℕ) (xs : List ℕ) (n : ℕ) (enough : 2 + size_of (x ∷ xs) ≤ n) where
  same_size : size_of (x ∷ take n xs) ≡ size_of (x ∷ xs)
  same_size = let two : 2 ≤ n = omega arith in ap (number_from_digits 256) (take-take 2 n xs two)

  same_value : take (size_of (x ∷ xs)) (drop 2 (take n xs)) ≡ take (size_of (x ∷ xs)) (drop 2 xs)
  same_value =
      let some : n ≡ 2 + (n - 2) = omega arith in
      let left : size_of (x ∷ xs) ≤ n - 2 = omega arith in
      ap (λ (k : ℕ). take (size_of (x ∷ xs)) (drop 2 (take k xs))) some
      ∙ (ap (take (size_of (x ∷ xs))) (drop-take 2 (n - 2) xs) ∙ take-take _ _ (drop 2 xs) left)

  same_field : (at : ℕ) → field_at (x ∷ take n xs) at ≡ field_at (x ∷ xs) at
  same_field at =
      ⊎_elim
      (λ lt.
      let long : 3 + size_of (x ∷ xs) ≤ length (x ∷ xs) = omega arith in
      let le : n ≤ length xs = omega arith in
      let kept : 3 + size_of (x ∷ take n xs) ≤ length (x ∷ take n xs) = omega (arith, same_size, length-take-le n xs le) in
      cond-true _ _ _ (le-leb _ _ kept)
      ∙ (ap (λ (v : List ℕ). Ok (record { at = at; tag = x; value = v })) (ap (λ (k : ℕ). take k (drop 2 (take n xs))) same_size ∙ same_value)
      ∙ sym (cond-true _ _ _ (le-leb _ _ long))))
      (λ le. ap (λ (ys : List ℕ). field_at (x ∷ ys) at) (take_all n xs le))
      (cases_lt n (length xs))

module _ {A : Type 0} (says : Content → Result A FieldFault) where
  -- bytes that are skipped may be dropped
  skips : (k at : ℕ) (xs : List ℕ) → placed says k at xs ≡ placed says 0 (at + k) (drop k xs)
  skips zero at [] = refl
  skips (suc k) at [] = refl
  skips zero at (x ∷ xs) = ap (λ (n : ℕ). placed says 0 n (x ∷ xs)) (sym (add-zero at))
  skips (suc k) at (x ∷ xs) =
      let e : (at + 1) + k ≡ at + suc k = omega arith in
      skips k (at + 1) xs ∙ ap (λ (n : ℕ). placed says 0 n (drop k xs)) e

  -- the field at the front, and those behind it
  pub front : (bytes : List ℕ) (at : ℕ) → 0 < length bytes
      → placed says 0 at bytes
      ≡ record { at = at; said = said_at says bytes at } ∷ placed says 0 (at + (3 + size_of bytes)) (drop (3 + size_of bytes) bytes)
  front [] at h = absurd (omega arith)
  front (x ∷ xs) at h =
      let e : (at + 1) + (2 + size_of (x ∷ xs)) ≡ at + (3 + size_of (x ∷ xs)) = omega arith in
      let d : suc (2 + size_of (x ∷ xs)) ≡ 3 + size_of (x ∷ xs) = omega arith in
      ap (λ (r : List (Placed A)). record { at = at; said = said_at says (x ∷ xs) at } ∷ r)
      (skips (2 + size_of (x ∷ xs)) (at + 1) xs
      ∙ (ap (λ (n : ℕ). placed says 0 n (drop (2 + size_of (x ∷ xs)) xs)) e
      ∙ ap (λ (n : ℕ). placed says 0 (at + (3 + size_of (x ∷ xs))) (drop n (x ∷ xs))) d))

  -- the fields from a place on are the field there and those after it
  pub fields_more : (file : List ℕ) (at : ℕ) → at < length file
      → fields_from says at file ≡ record { at = at; said = said_at says (drop at file) at } ∷ fields_from says (next_place file at) file
  fields_more file at h =
      let some : 0 < length (drop at file) = simp length-drop (omega arith) in
      front (drop at file) at some
      ∙ ap (λ (rest : List ℕ). record { at = at; said = said_at says (drop at file) at } ∷ placed says 0 (next_place file at) rest) (drop-drop _ at file)

  pub fields_none : (file : List ℕ) (at : ℕ) → length file ≤ at → fields_from says at file ≡ []
  fields_none file at h = ap (placed says 0 at) (drop_all at file h)

  never : (before after : List (Placed A)) (f : Placed A) → ◌≡◌ {A = List (Placed A)} [] (before ++ (f ∷ after)) → ⊥
  never [] after f h = grind arith
  never (b ∷ before) after f h = grind arith

  -- the bytes up to a field's tag, of fields in any bytes
  prefix : (skip at : ℕ) (xs : List ℕ) (before after : List (Placed A)) (f : Placed A)
      → placed says skip at xs ≡ before ++ (f ∷ after)
      → (at + skip ≤ f.at) × (placed says skip at (take (f.at - at) xs) ≡ before)
  prefix zero at [] before after f h = absurd (never before after f h)
  prefix (suc k) at [] before after f h = absurd (never before after f h)
  prefix zero at (x ∷ xs) [] after f h =
      let here : record { at = at; said = said_at says (x ∷ xs) at } ≡ f = cc in
      let place : at ≡ f.at = ap (λ (g : Placed A). g.at) here in
      let none : f.at - at ≡ 0 = omega arith in
      (omega arith, ap (λ (n : ℕ). placed says 0 at (take n (x ∷ xs))) none)
  prefix zero at (x ∷ xs) (b ∷ before) after f h =
      let here : record { at = at; said = said_at says (x ∷ xs) at } ≡ b = cc in
      let behind : placed says (2 + size_of (x ∷ xs)) (at + 1) xs ≡ before ++ (f ∷ after) = cc in
      let ih = prefix (2 + size_of (x ∷ xs)) (at + 1) xs before after f behind in
      let n : ℕ = f.at - (at + 1) in
      let one_more : f.at - at ≡ suc n = omega (arith, ih.0) in
      let enough : 2 + size_of (x ∷ xs) ≤ n = omega (arith, ih.0) in
      let kept : List ℕ = take n xs in (
        omega (arith, ih.0),
        ap (λ (m : ℕ). placed says 0 at (take m (x ∷ xs))) one_more
            ∙ (ap (λ (r : Result Content FieldFault). record { at = at; said = told says r } ∷ placed says (2 + size_of (x ∷ kept)) (at + 1) kept) (same_field x xs n enough at)
            ∙ (ap (λ (s : ℕ). record { at = at; said = said_at says (x ∷ xs) at } ∷ placed says (2 + s) (at + 1) kept) (same_size x xs n enough)
            ∙ (ap (λ (g : Placed A). g ∷ placed says (2 + size_of (x ∷ xs)) (at + 1) kept) here ∙ ap (λ (gs : List (Placed A)). b ∷ gs) ih.1))),
      )
  prefix (suc k) at (x ∷ xs) before after f h =
      let ih = prefix k (at + 1) xs before after f h in
      let one_more : f.at - at ≡ suc (f.at - (at + 1)) = omega (arith, ih.0) in
      (omega (arith, ih.0), ap (λ (n : ℕ). placed says (suc k) at (take n (x ∷ xs))) one_more ∙ ih.1)

  -- the bytes before a field's tag hold the fields before it
  pub fields_before : (file : List ℕ) (before after : List (Placed A)) (f : Placed A)
      → fields says file ≡ before ++ (f ∷ after) → fields says (take f.at file) ≡ before
  fields_before file before after f h =
      ap (λ (n : ℕ). fields says (take n file)) (sym (sub-zero f.at)) ∙ (prefix 0 0 file before after f h).1
