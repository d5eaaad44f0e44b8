use Rattle.std.proofs.Common.{◌≡◌, drop}
use Rattle.netlist.specs.Signals.{mention_all}
use Rattle.netlist.specs.Views.{pieces, signals_in}
use Rattle.netlist.proofs.signals.Signals.mention_all.Given as goal

abbrev pub invariant-loop-w : goal.invariant-loop-w
invariant-loop-w l = mention_all (signals_in l.text l.self) (pieces l.text (drop l.w-index l.names)) ≡ mention_all (signals_in l.text l.initial.self) (pieces l.text l.names)
