use Rattle.netlist.proofs.Lawful.{names_differ, first_mentions}
use Rattle.netlist.proofs.laws.numbered_by_mention.Goals as goal

pub returns : goal.returns
returns c = record { climb = names_differ; first = first_mentions }
