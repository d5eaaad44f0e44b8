use Rattle.paths.proofs.Edits.{edits_commute}
use Rattle.paths.proofs.edits_commute.Goals as goal

pub returns : goal.returns
returns g c = edits_commute
