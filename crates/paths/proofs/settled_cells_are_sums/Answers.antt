use Rattle.paths.proofs.Edits.{settled_are_sums}
use Rattle.paths.proofs.settled_cells_are_sums.Goals as goal

pub returns : goal.returns
returns g c = settled_are_sums
