use Rattle.paths.proofs.Sums.{gathers}
use Rattle.paths.proofs.loops_gather.Goals as goal

pub returns : goal.returns
returns g c = gathers
