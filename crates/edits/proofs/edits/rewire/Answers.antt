use Rattle.board.proofs.Following.{follows}
use Rattle.edits.proofs.edits.rewire.Goals as goal

pub returns-clause-follows : goal.returns-clause-follows
returns-clause-follows g c = follows _ _ g.met.G.Semiring.laws _ _ _ _ _ _ _ c.apply_at.ensures.stepped
