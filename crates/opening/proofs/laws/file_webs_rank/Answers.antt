use Rattle.opening.proofs.Holding.{file_webs_rank}
use Rattle.opening.proofs.laws.file_webs_rank.Goals as goal

pub returns : goal.returns
returns g c = file_webs_rank _
