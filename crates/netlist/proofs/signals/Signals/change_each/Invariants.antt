use Rattle.std.proofs.Common.{◌≡◌, drop}
use Rattle.netlist.specs.Signals.{on_each}
use Rattle.netlist.specs.Views.{pieces, signals_in, change_on}
use Rattle.netlist.proofs.signals.Signals.change_each.Given as goal

abbrev pub invariant-loop-w : goal.invariant-loop-w
invariant-loop-w l = on_each (change_on l.text l.change) (signals_in l.text l.self) (pieces l.text (drop l.w-index l.names)) ≡ on_each (change_on l.text l.change) (signals_in l.text l.initial.self) (pieces l.text l.names)
