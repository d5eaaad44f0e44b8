use Rattle.std.proofs.Common.{◌≡◌, length, take}
use Rattle.netlist.specs.Signals.{numbers}
use Rattle.netlist.specs.Views.{pieces, signals_in}
use Rattle.netlist.proofs.signals.Signals.pin_numbers.Given as goal

abbrev pub invariant-loop-i : goal.invariant-loop-i
invariant-loop-i l = (take l.i l.found ≡ numbers (signals_in l.text l.self) (pieces l.text (take l.i l.pins))) × (length l.found ≡ 4)
