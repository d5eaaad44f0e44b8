-- Numbers below n that a test holds of.
use Rattle.std.specs.Prelude.{ℕ, zero, suc, ◌+◌, Bool, cond}

-- of how many numbers below n it holds
abbrev pub many : (ℕ → Bool) → ℕ → ℕ
many test zero = 0
many test (suc n) = many test n + cond (test n) 1 0
