-- What a semiring is: its operations, and the laws that they obey.
use Rattle.std.specs.Prelude.{◌≡◌, Bool, true, ◌⊎◌, ◌↔◌}

-- a sum with its zero, a product with its one, and the question whether two values are the same
pub record Ops (V : Type 0) : Type 0 where
  pub zero : V
  pub one : V
  pub plus : V → V → V
  pub times : V → V → V
  pub same : V → V → Bool

pub record Laws {V : Type 0} (r : Ops V) : Type 0 where
  pub plus_assoc : (x y z : V) → r.plus (r.plus x y) z ≡ r.plus x (r.plus y z)
  pub plus_comm : (x y : V) → r.plus x y ≡ r.plus y x
  pub zero_plus : (x : V) → r.plus r.zero x ≡ x
  pub times_assoc : (x y z : V) → r.times (r.times x y) z ≡ r.times x (r.times y z)
  pub one_times : (x : V) → r.times r.one x ≡ x
  pub times_one : (x : V) → r.times x r.one ≡ x
  pub times_plus : (x y z : V) → r.times x (r.plus y z) ≡ r.plus (r.times x y) (r.times x z)
  pub plus_times : (x y z : V) → r.times (r.plus x y) z ≡ r.plus (r.times x z) (r.times y z)
  pub zero_times : (x : V) → r.times r.zero x ≡ r.zero
  pub times_zero : (x : V) → r.times x r.zero ≡ r.zero
  pub tells : (x y : V) → (r.same x y ≡ true) ↔ (x ≡ y)

-- the sum is always one of its two arguments
abbrev pub Selects : {V : Type 0} → Ops V → Type 0
Selects {V} r = (x y : V) → (r.plus x y ≡ x) ⊎ (r.plus x y ≡ y)

-- the same operations on values that stand in a wrapper
abbrev pub carried : {V W : Type 0} → (V → W) → (W → V) → Ops V → Ops W
carried wrap inside r = record {
  zero = wrap r.zero;
  one = wrap r.one;
  plus = λ x y. wrap (r.plus (inside x) (inside y));
  times = λ x y. wrap (r.times (inside x) (inside y));
  same = λ x y. r.same (inside x) (inside y);
}
