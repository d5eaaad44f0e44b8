use Rattle.delays.proofs.Accepting.{accepted_well_named}
use Rattle.delays.proofs.laws.accepted_tables_are_well_named.Goals as goal

pub returns : goal.returns
returns c = accepted_well_named
