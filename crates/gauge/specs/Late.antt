-- The gauge of the latest arrivals.
use Rattle.std.specs.Prelude.{ℕ}
use Rattle.gauge.specs.declared.arrivals.Arrival.{Arrival}
use Rattle.gauge.specs.declared.late.Latest.{Latest}
use Rattle.gauge.specs.Arrivals.{arrival_ops, arrival_delays}
use Rattle.gauge.specs.Semirings.{Ops}
use Rattle.gauge.specs.Times.{larger}

abbrev pub late_ops : Ops (Arrival Latest)
late_ops = arrival_ops larger

-- the value of a pair of delays is its late one
abbrev pub late_delays : ℕ → ℕ → Arrival Latest
late_delays = arrival_delays (λ l e. l)
