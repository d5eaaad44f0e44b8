use Rattle.paths.proofs.Edits.{settled_unique}
use Rattle.paths.proofs.settled_cells_are_unique.Goals as goal

pub returns : goal.returns
returns g c = settled_unique
