use Rattle.network.specs.Marks.{MarkedBelow}
use Rattle.network.proofs.network.mark.mark_reached.Given as goal

abbrev pub invariant-loop-turn : goal.invariant-loop-turn
invariant-loop-turn l = MarkedBelow l.net l.gate l.turn l.strip
