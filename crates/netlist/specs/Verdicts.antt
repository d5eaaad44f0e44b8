-- What reading answers.
use Rattle.std.specs.Prelude.{ℕ, List, Ok, Err, vec_items, Result}
use Rattle.netlist.specs.declared.draft.Draft.{Draft}
use Rattle.netlist.specs.declared.netlist_fault.NetlistFault.{NetlistFault}
use Rattle.netlist.specs.Signals.{Signal}
use Rattle.netlist.specs.Reading.{Verdict, refuses, netlist}
use Rattle.netlist.specs.Outcomes.{refusal_of}
use Rattle.netlist.specs.Views.{signals_on}

-- what the end of the text says of these signals
abbrev pub closed_on : List Signal → Result (Unit {0}) NetlistFault → Verdict
closed_on ss (Ok x) = netlist ss
closed_on ss (Err f) = refuses (refusal_of f)

abbrev pub verdict_on : List ℕ → Result Draft NetlistFault → Verdict
verdict_on text (Ok d) = netlist (signals_on text (vec_items d.signals))
verdict_on text (Err f) = refuses (refusal_of f)
