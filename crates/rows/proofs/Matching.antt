-- Settings as the bits of a number. Assumes nothing.
use Rattle.std.proofs.Common.{◌≡◌, ℕ, ◌+◌, ◌*◌, ◌%◌, ◌^◌, ◌<◌, ◌⊎◌, Bool, true, false, ◌&&◌, ltb, bit_or, w16, suc, zero, fold, cond, refl, ap, ◌∙◌, ⊎_elim, arith}
use Rattle.std.specs.Int.{bit_at}
use Rattle.std.specs.List.{range_with_len}
use mathlib.Core.Bool.{and-false}
use Rattle.std.specs.Int.Bits.{or_zero_r}
use Rattle.std.proofs.lemmas.Nat.Bits.{bit_at_set_same, bit_at_set_other}
use Rattle.std.proofs.lemmas.Bool.{cases_order, lt-ltb, le-ltb}
use Rattle.rows.specs.Settings.{one}

-- one setting more: t has the bits of the settings below s that pass m
module _ (m : ℕ → Bool) (t s : ℕ) (h : s < 16) (inv : (k : ℕ) → k < 16 → bit_at t k ≡ one (ltb k s && m k)) where
  other : (k : ℕ) → (k < s) ⊎ (s < k) → one (ltb k s && m k) ≡ one (ltb k (s + 1) && m k)
  other k o =
      ⊎_elim (λ l. simp (lt-ltb k s l, lt-ltb k (s + 1) (omega arith))) (λ l. simp (le-ltb k s (omega arith), le-ltb k (s + 1) (omega arith))) o

  pub setting_no : m s ≡ false → (k : ℕ) → k < 16 → bit_at t k ≡ one (ltb k (s + 1) && m k)
  setting_no e k l =
      inv k l ∙ ⊎_elim (λ q. here q) (other k) (cases_order k s)
    where
      here : k ≡ s → one (ltb k s && m k) ≡ one (ltb k (s + 1) && m k)
      here q = let f : m k ≡ false = ap m q ∙ e in simp (f, and-false)

  pub setting_yes : m s ≡ true → (k : ℕ) → k < 16 → bit_at (bit_or t (1 * 2 ^ s % 2 ^ 16)) k ≡ one (ltb k (s + 1) && m k)
  setting_yes e k l =
      ⊎_elim here (λ o. bit_at_set_other w16 t s h k (λ q. ⊎_elim (λ a. omega arith) (λ a. omega arith) o) ∙ (inv k l ∙ other k o)) (cases_order k s)
    where
      here : k ≡ s → bit_at (bit_or t (1 * 2 ^ s % 2 ^ 16)) k ≡ one (ltb k (s + 1) && m k)
      here q =
          let f : m k ≡ true = ap m q ∙ e in
          ap (bit_at (bit_or t (1 * 2 ^ s % 2 ^ 16))) q ∙ (bit_at_set_same w16 t s h ∙ simp (lt-ltb k (s + 1) (omega arith), f))

-- the settings that pass m, one after another
module _ (m : ℕ → Bool) where
  abbrev pub more : ℕ → ℕ → ℕ
  more t s = bit_or t (cond (m s) 1 0 * 2 ^ s % 2 ^ 16)

  more_bits : (b : Bool) (t s : ℕ) → m s ≡ b → s < 16 → ((k : ℕ) → k < 16 → bit_at t k ≡ one (ltb k s && m k)) → (k : ℕ) → k < 16 → bit_at (bit_or t (cond b 1 0 * 2 ^ s % 2 ^ 16)) k ≡ one (ltb k (s + 1) && m k)
  more_bits true t s e h inv = setting_yes m t s h inv e
  more_bits false t s e h inv = λ k l. ap (λ z. bit_at (bit_or t z) k) none ∙ ap (λ z. bit_at z k) (or_zero_r t) ∙ setting_no m t s h inv e k l
    where
      none : 0 * 2 ^ s % 2 ^ 16 ≡ 0
      none = let p = 2 ^ s in omega arith

  pub covers : (n s t : ℕ) → s + n ≡ 16 → ((k : ℕ) → k < 16 → bit_at t k ≡ one (ltb k s && m k)) → (k : ℕ) → k < 16 → bit_at (fold more t (range_with_len s n)) k ≡ one (m k)
  covers zero s t e inv k l = inv k l ∙ simp (lt-ltb k s (omega arith))
  covers (suc n) s t e inv k l = covers n (s + 1) (more t s) (omega arith) (more_bits (m s) t s refl (omega arith) inv) k l
