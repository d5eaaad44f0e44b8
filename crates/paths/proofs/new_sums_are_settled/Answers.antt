use Rattle.paths.proofs.Edits.{sums_are_settled}
use Rattle.paths.proofs.new_sums_are_settled.Goals as goal

pub returns : goal.returns
returns g c = sums_are_settled
