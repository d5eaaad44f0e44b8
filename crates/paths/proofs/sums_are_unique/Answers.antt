use Rattle.paths.proofs.Sums.{unique}
use Rattle.paths.proofs.sums_are_unique.Goals as goal

pub returns : goal.returns
returns g c = unique
