-- Counts modulo 2 ^ 32 are a semiring.
use Rattle.std.specs.Prelude.{◌≡◌, ℕ, ◌+◌, ◌*◌, ◌%◌, ◌^◌, ◌<◌}
use Rattle.std.proofs.Common.{sym, ap, ◌∙◌, eq-eqb, eqb-true, mul_assoc, mul-add, add-mul, arith}
use mathlib.Core.HLevel.{is_prop→PathP}
use Rattle.std.proofs.Math.Bridge.{le_prop}
use Rattle.std.proofs.Math.Nat.{add-mod}
use Rattle.std.proofs.lemmas.Nat.{mul-mod_first, mul-mod_second}
use Rattle.gauge.specs.declared.count.Count.{Count}
use Rattle.gauge.specs.Count.{count_ops}
use Rattle.gauge.specs.Semirings.{Laws}

pub count_same : {x y : Count} → x.paths ≡ y.paths → x ≡ y
count_same {x} {y} e =
    λ i. record { paths = e i; fits = is_prop→PathP (λ j. e j < 2 ^ 32) (λ j. le_prop) x.fits y.fits i }

-- counts are equal where what they are the rests of is
rest : {a b : ℕ} → a ≡ b → a % 2 ^ 32 ≡ b % 2 ^ 32
rest e = ap (λ t. t % 2 ^ 32) e

pub count_laws : Laws count_ops
count_laws = record {
  plus_assoc = λ x y z. count_same (omega arith);
  plus_comm = λ x y. count_same (omega arith);
  zero_plus = λ x. count_same (omega arith);
  times_assoc = λ x y z. count_same (mul-mod_first (x.paths * y.paths) z.paths (2 ^ 32)
      ∙ rest (mul_assoc x.paths y.paths z.paths) ∙ sym (mul-mod_second x.paths (y.paths * z.paths) (2 ^ 32)));
  one_times = λ x. count_same (omega arith);
  times_one = λ x. count_same (omega arith);
  times_plus = λ x y z. count_same (mul-mod_second x.paths (y.paths + z.paths) (2 ^ 32)
      ∙ rest (mul-add x.paths y.paths z.paths) ∙ add-mod (x.paths * y.paths) (x.paths * z.paths) (2 ^ 32));
  plus_times = λ x y z. count_same (mul-mod_first (x.paths + y.paths) z.paths (2 ^ 32)
      ∙ rest (add-mul x.paths y.paths z.paths) ∙ add-mod (x.paths * z.paths) (y.paths * z.paths) (2 ^ 32));
  zero_times = λ x. count_same (omega arith);
  times_zero = λ x. count_same (omega arith);
  tells = λ x y. (λ t. count_same (eqb-true _ _ t), λ e. eq-eqb _ _ (ap (λ c. c.paths) e));
}
