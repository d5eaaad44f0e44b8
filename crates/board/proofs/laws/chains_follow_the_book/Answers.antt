use Rattle.board.proofs.Chaining.{chains_follow}
use Rattle.board.proofs.laws.chains_follow_the_book.Goals as goal

pub returns : goal.returns
returns g c = chains_follow _ _ g.met.G.Semiring.laws
