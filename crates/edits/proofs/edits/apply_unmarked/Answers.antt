use Rattle.opening.specs.Boards.{view_of}
use Rattle.board.proofs.Following.{follows}
use Rattle.edits.proofs.Passing.{any_strip}
use Rattle.edits.proofs.edits.apply_unmarked.Goals as goal

pub returns-clause-stepped : goal.returns-clause-stepped
returns-clause-stepped g c strip =
    let z = c.apply_at.new.board in
    any_strip g.G.Semiring.ops g.G.Gauge.delays (view_of c.args.board) (record { network = z.0; starts = z.1.0; weights = z.1.1.0; values = z.1.1.1.0 })
    0 strip (g.W.WaitingList.limit c.args.list.now) 0 c.args.edit c.apply_at.result c.requires c.apply_at.ensures.stepped

pub returns-clause-follows : goal.returns-clause-follows
returns-clause-follows g c strip = follows _ _ g.met.G.Semiring.laws _ _ _ _ _ _ _ (returns-clause-stepped g c strip)
