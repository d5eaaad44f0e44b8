-- Times in picoseconds, and what is done with two of them.
use Rattle.std.specs.Prelude.{ℕ, ◌+◌, ◌^◌, ◌<◌, min, max}
use Rattle.std.proofs.Common.{arith}
use Rattle.gauge.specs.declared.time.Time.{Time}

abbrev pub exactly : (n : ℕ) → n < 2 ^ 32 → Time
exactly n below = record { picoseconds = n; fits = below }

pub larger_fits : (x y : Time) → max x.picoseconds y.picoseconds < 2 ^ 32
larger_fits x y = omega arith

pub smaller_fits : (x y : Time) → min x.picoseconds y.picoseconds < 2 ^ 32
smaller_fits x y = omega arith

pub stopped_fits : (n : ℕ) → min n 4294967295 < 2 ^ 32
stopped_fits n = omega arith

abbrev pub larger : Time → Time → Time
larger x y = exactly (max x.picoseconds y.picoseconds) (larger_fits x y)

abbrev pub smaller : Time → Time → Time
smaller x y = exactly (min x.picoseconds y.picoseconds) (smaller_fits x y)

-- the time of n picoseconds, stopped at the largest time
abbrev pub time : ℕ → Time
time n = exactly (min n 4294967295) (stopped_fits n)

-- the sum, stopped at the largest time
abbrev pub sum : Time → Time → Time
sum x y = time (x.picoseconds + y.picoseconds)
