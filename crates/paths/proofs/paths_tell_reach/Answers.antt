use Rattle.paths.proofs.Reaching.{tells_reach}
use Rattle.paths.proofs.paths_tell_reach.Goals as goal

pub returns : goal.returns
returns g c = tells_reach _
