use Rattle.paths.proofs.Edits.{edits_right}
use Rattle.paths.proofs.one_edit_is_right.Goals as goal

pub returns : goal.returns
returns g c = edits_right
