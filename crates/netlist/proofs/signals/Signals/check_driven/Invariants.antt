use Rattle.std.proofs.Common.{◌≡◌, ℕ, List, drop}
use Rattle.netlist.specs.Reading.{undriven_at}
use Rattle.netlist.specs.Views.{signals_on, signals_in}
use Rattle.netlist.proofs.signals.Signals.check_driven.Given as goal

abbrev pub invariant-loop-s : goal.invariant-loop-s
invariant-loop-s l = (t : List ℕ) → undriven_at (signals_on t (drop l.s-index l.s-items)) ≡ undriven_at (signals_in t l.self)
