-- Times of one number of picoseconds are one time, and what that gives.
use Rattle.std.specs.Prelude.{◌≡◌, ◌^◌, ◌<◌, ◌⊎◌}
use mathlib.Core.HLevel.{is_prop→PathP}
use Rattle.std.proofs.Common.{inl, inr, arith}
use Rattle.std.proofs.Math.Bridge.{le_prop}
use Rattle.std.proofs.Math.Decide.{dec_le}
use Rattle.gauge.specs.declared.time.Time.{Time}
use Rattle.gauge.specs.Times.{larger, smaller, sum}

pub time_same : {x y : Time} → x.picoseconds ≡ y.picoseconds → x ≡ y
time_same {x} {y} e =
    λ i. record { picoseconds = e i; fits = is_prop→PathP (λ j. e j < 2 ^ 32) (λ j. le_prop) x.fits y.fits i }

-- what a rule that keeps one of two times has to obey, for arrivals under it to be a semiring
pub record Keeps (keep : Time → Time → Time) : Type 0 where
  pub assoc : (a b c : Time) → keep (keep a b) c ≡ keep a (keep b c)
  pub comm : (a b : Time) → keep a b ≡ keep b a
  pub sum_left : (a b c : Time) → sum a (keep b c) ≡ keep (sum a b) (sum a c)
  pub sum_right : (a b c : Time) → sum (keep a b) c ≡ keep (sum a c) (sum b c)
  pub one_of : (a b : Time) → (keep a b ≡ a) ⊎ (keep a b ≡ b)

pub larger_keeps : Keeps larger
larger_keeps = record {
  assoc = λ a b c. time_same (omega arith);
  comm = λ a b. time_same (omega arith);
  sum_left = λ a b c. time_same (omega arith);
  sum_right = λ a b c. time_same (omega arith);
  one_of = λ a b. elim (dec_le a.picoseconds b.picoseconds) [ yes h ↦ inr (time_same (omega arith)) | no h ↦ inl (time_same (omega arith)) ];
}

pub smaller_keeps : Keeps smaller
smaller_keeps = record {
  assoc = λ a b c. time_same (omega arith);
  comm = λ a b. time_same (omega arith);
  sum_left = λ a b c. time_same (omega arith);
  sum_right = λ a b c. time_same (omega arith);
  one_of = λ a b. elim (dec_le a.picoseconds b.picoseconds) [ yes h ↦ inl (time_same (omega arith)) | no h ↦ inr (time_same (omega arith)) ];
}
