use Rattle.fields.proofs.Cutting.{cut_between}
use Rattle.fields.proofs.laws.files_cut_between_fields.Goals as goal

pub returns : goal.returns
returns g c = cut_between g.T.Says.says
