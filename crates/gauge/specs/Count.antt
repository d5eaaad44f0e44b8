-- The gauge that counts paths, modulo 2 ^ 32. Every delay counts 1.
use Rattle.std.specs.Prelude.{ℕ, ◌+◌, ◌*◌, ◌%◌, ◌^◌, ◌<◌, ◌==◌}
use Rattle.std.proofs.Common.{arith}
use Rattle.gauge.specs.declared.count.Count.{Count}
use Rattle.gauge.specs.Semirings.{Ops}

pub rest_fits : (n : ℕ) → n % 2 ^ 32 < 2 ^ 32
rest_fits n = omega arith

abbrev pub count : ℕ → Count
count n = record { paths = n % 2 ^ 32; fits = rest_fits n }

abbrev pub count_ops : Ops Count
count_ops = record {
  zero = count 0;
  one = count 1;
  plus = λ x y. count (x.paths + y.paths);
  times = λ x y. count (x.paths * y.paths);
  same = λ x y. (x.paths == y.paths);
}

abbrev pub count_delays : ℕ → ℕ → Count
count_delays l e = count 1
