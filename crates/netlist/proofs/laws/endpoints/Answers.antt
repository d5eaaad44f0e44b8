use Rattle.netlist.proofs.Lawful as lawful
use Rattle.netlist.proofs.laws.endpoints.Goals as goal

pub returns : goal.returns
returns c = lawful.endpoints
