-- Strips of words. Assumes nothing.
use Rattle.std.proofs.Common.{◌≡◌, ℕ, ◌+◌, ◌*◌, ◌/◌, ◌%◌, ◌^◌, ◌<◌, true, not, ◌&&◌, ◌||◌, eqb, List, length, get_or, set, bit_or, bit_xor, w32, ap, ◌∙◌, arith, get_or-set_other, get_or-set_same}
use lib.Count.{count_trailing_zeros}
use Rattle.std.proofs.lemmas.Nat.{one_shl}
use Rattle.std.proofs.lemmas.Nat.Bits.{bit_at_set_same, bit_at_set_other, bit_at_xor, bit_at-pow_same, bit_at-pow_other, bit_at-zero, bit_at-trailing_zeros}
use Rattle.std.proofs.lemmas.Bool.{eq-eqb}
use Rattle.std.proofs.lemmas.Bool.Decides.{nat_tests}
use Rattle.waiting.specs.Turns.{Least}
use Rattle.waiting.specs.Bits.{bit, in_strip, ZerosBefore}

-- the program's `1 << z`
abbrev one : ℕ → ℕ
one z = 1 * 2 ^ z % 2 ^ 32

or_bit : (w z k : ℕ) → z < 32 → bit (bit_or w (one z)) k ≡ (eqb k z || bit w k)
or_bit w z k l =
    let same = bit_at_set_same w32 w z l in
    let other = bit_at_set_other w32 w z l k in
    grind (arith, nat_tests)

xor_bit : (w z k : ℕ) → z < 32 → bit w z ≡ true → bit (bit_xor w (one z)) k ≡ (not (eqb k z) && bit w k)
xor_bit w z k l h =
    let is = bit_at_xor w (2 ^ z) k in
    let same = bit_at-pow_same z in
    let other = bit_at-pow_other z k in
    ap (λ n. bit (bit_xor w n) k) (one_shl z 32 l) ∙ grind (arith, nat_tests)

module _ (n : ℕ) (ws : List ℕ) (long : length ws ≡ n) where
  -- a turn is put, in word i
  pub put_adds : (t i : ℕ) → t < 32 * n → i ≡ t / 32 → (u : ℕ) → in_strip n (set ws i (bit_or (get_or ws i 0) (one (t % 32)))) u ≡ (eqb u t || in_strip n ws u)
  put_adds t i l is u =
      let w = get_or ws i 0 in
      let here = get_or-set_same ws i (bit_or w (one (t % 32))) 0 (omega arith) in
      let other = get_or-set_other ws i (u / 32) (bit_or w (one (t % 32))) 0 in
      let bits = or_bit w (t % 32) (u % 32) (omega arith) in
      grind (arith, nat_tests)

  -- the lowest bit of word i, which is not 0
  module _ (i : ℕ) (within : i < n) (some : 0 < get_or ws i 0) (fits : get_or ws i 0 < 2 ^ 32) where
    pub least_turn : ZerosBefore ws i → Least (in_strip n ws) (32 * i + count_trailing_zeros 32 (get_or ws i 0))
    least_turn zeros =
        let w = get_or ws i 0 in
        let low = bit_at-trailing_zeros w32 w some fits in
        let word : (32 * i + count_trailing_zeros 32 w) / 32 ≡ i = omega (arith, low.0) in
        let place : (32 * i + count_trailing_zeros 32 w) % 32 ≡ count_trailing_zeros 32 w = omega (arith, low.0) in (
          grind (arith, nat_tests),
          λ u h.
              let under = low.2 (u % 32) in
              let before = zeros (u / 32) in
              let blank = bit_at-zero (u % 32) in
              grind (arith, nat_tests),
        )

    pub take_removes : (u : ℕ) → in_strip n (set ws i (bit_xor (get_or ws i 0) (one (count_trailing_zeros 32 (get_or ws i 0))))) u ≡ (not (eqb u (32 * i + count_trailing_zeros 32 (get_or ws i 0))) && in_strip n ws u)
    take_removes u =
        let w = get_or ws i 0 in
        let z = count_trailing_zeros 32 w in
        let low = bit_at-trailing_zeros w32 w some fits in
        let here = get_or-set_same ws i (bit_xor w (one z)) 0 (omega arith) in
        let other = get_or-set_other ws i (u / 32) (bit_xor w (one z)) 0 in
        let bits = xor_bit w z (u % 32) low.0 (eq-eqb _ _ low.1) in
        grind (arith, nat_tests)
