use Rattle.paths.proofs.Sums.{mirrors}
use Rattle.paths.proofs.mirror_is_a_semiring.Goals as goal

pub returns : goal.returns
returns g c = mirrors
