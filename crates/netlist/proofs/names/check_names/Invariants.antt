use Rattle.std.proofs.Common.{◌≡◌, drop}
use Rattle.text.specs.Refusals.{refusing}
use Rattle.text.specs.Words.{long_names}
use Rattle.text.specs.declared.word_fault.WordFault.TheVariants.{LongName}
use Rattle.netlist.specs.Views.{pieces}
use Rattle.netlist.proofs.names.check_names.Given as goal

abbrev pub invariant-loop-w : goal.invariant-loop-w
invariant-loop-w l = refusing LongName (long_names (pieces l.text (drop l.w-index l.names))) ≡ refusing LongName (long_names (pieces l.text l.names))
