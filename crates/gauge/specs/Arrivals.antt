-- Arrivals, a time or none, as a semiring. Its sum keeps one of two times: Late the larger, Early the smaller.
use Rattle.std.specs.Prelude.{ℕ, List, Bool, true, false, Some, None, Option, ◌==◌, codes}
use Rattle.std.specs.Fmt.{decimal}
use Rattle.gauge.specs.declared.arrivals.Arrival.{Arrival}
use Rattle.gauge.specs.declared.time.Time.{Time}
use Rattle.gauge.specs.Semirings.{Ops, carried}
use Rattle.gauge.specs.Times.{time, sum}

-- one of two arrivals; none gives way
abbrev pub chosen : (Time → Time → Time) → Option Time → Option Time → Option Time
chosen keep None y = y
chosen keep (Some a) None = Some a
chosen keep (Some a) (Some b) = Some (keep a b)

-- the sum of two arrivals; none if either is none
abbrev pub passed : Option Time → Option Time → Option Time
passed None y = None
passed (Some a) None = None
passed (Some a) (Some b) = Some (sum a b)

abbrev pub alike : Option Time → Option Time → Bool
alike None None = true
alike None (Some b) = false
alike (Some a) None = false
alike (Some a) (Some b) = a.picoseconds == b.picoseconds

-- an arrival in words
abbrev pub text_of : Option Time → List ℕ
text_of None = codes "NONE"
text_of (Some a) = decimal a.picoseconds

-- arrivals under a rule that keeps one of two times
abbrev pub arrivals : (Time → Time → Time) → Ops (Option Time)
arrivals keep = record { zero = None; one = Some (time 0); plus = chosen keep; times = passed; same = alike }

-- the same as values of the type of a rule R
abbrev pub arrival : {R : Type 0} → Option Time → Arrival R
arrival o = record { arrival = o; rule = record {} }

abbrev pub arrival_ops : {R : Type 0} → (Time → Time → Time) → Ops (Arrival R)
arrival_ops keep = carried arrival (λ x. x.arrival) (arrivals keep)

-- the value of a pair of delays is the one that the rule picks
abbrev pub arrival_delays : {R : Type 0} → (ℕ → ℕ → ℕ) → ℕ → ℕ → Arrival R
arrival_delays pick l e = arrival (Some (time (pick l e)))
