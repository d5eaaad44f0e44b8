use Rattle.paths.proofs.Sums.{agree_in_sums}
use Rattle.paths.proofs.agreeing_webs_have_equal_sums.Goals as goal

pub returns : goal.returns
returns g c = agree_in_sums
