use Rattle.std.proofs.Common.{◌≡◌, ℕ, ◌/◌, ◌%◌, ◌^◌, ◌<◌, eqb, sym, ap, ◌∙◌, arith, pow_mono}
use native.Mathlib.Nat.{div-eq_of_lt}
use Rattle.std.proofs.lemmas.Bool.{le-ltb}
use Rattle.network.proofs.gate.truth.has_bit.Goals as goal

-- past its bits a number has none
pub returns-else-place-lt64 : goal.returns-else-place-lt64
returns-else-place-lt64 c =
    let n = c.args.number in
    let i = c.args.place in
    let past : n < 2 ^ i = omega (arith, pow_mono {i = 64} {j = i} c.if-place-lt64.false) in
    let none : n / 2 ^ i ≡ 0 = div-eq_of_lt past in
    le-ltb _ _ c.if-place-lt64.false ∙ ap (λ (x : ℕ). eqb (x % 2) 1) (sym none)
