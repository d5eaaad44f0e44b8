use Rattle.paths.proofs.Sums.{unfolds}
use Rattle.paths.proofs.sums_unfold.Goals as goal

pub returns : goal.returns
returns g c = unfolds
