use Rattle.opening.proofs.Holding.{opened_holds}
use Rattle.opening.proofs.laws.opened_boards_hold.Goals as goal

pub returns : goal.returns
returns g c = opened_holds _
