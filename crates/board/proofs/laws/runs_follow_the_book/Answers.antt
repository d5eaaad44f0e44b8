use Rattle.board.proofs.Running.{runs_follow}
use Rattle.board.proofs.laws.runs_follow_the_book.Goals as goal

pub returns : goal.returns
returns g c = runs_follow _ _ g.met.G.Semiring.laws
