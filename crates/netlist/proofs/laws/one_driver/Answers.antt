use Rattle.netlist.proofs.Lawful.{one_driver}
use Rattle.netlist.proofs.laws.one_driver.Goals as goal

pub returns : goal.returns
returns c = one_driver
