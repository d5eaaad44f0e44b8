-- The gauge of the earliest arrivals.
use Rattle.std.specs.Prelude.{ℕ}
use Rattle.gauge.specs.declared.arrivals.Arrival.{Arrival}
use Rattle.gauge.specs.declared.early.Earliest.{Earliest}
use Rattle.gauge.specs.Arrivals.{arrival_ops, arrival_delays}
use Rattle.gauge.specs.Semirings.{Ops}
use Rattle.gauge.specs.Times.{smaller}

abbrev pub early_ops : Ops (Arrival Earliest)
early_ops = arrival_ops smaller

-- the value of a pair of delays is its early one
abbrev pub early_delays : ℕ → ℕ → Arrival Earliest
early_delays = arrival_delays (λ l e. e)
