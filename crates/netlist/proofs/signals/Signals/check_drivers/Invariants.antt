use Rattle.std.proofs.Common.{◌≡◌, [], take, drop}
use Rattle.netlist.specs.Faults.{driven_twice}
use Rattle.netlist.specs.Views.{pieces, signals_in, bytes_of}
use Rattle.netlist.proofs.signals.Signals.check_drivers.Given as goal

abbrev pub invariant-loop-i : goal.invariant-loop-i
invariant-loop-i l = driven_twice (signals_in l.text l.self) (bytes_of l.text (take l.i l.names)) (pieces l.text (drop l.i l.names)) ≡ driven_twice (signals_in l.text l.self) [] (pieces l.text l.names)
