use Rattle.network.specs.Ranking.{Ranked}
use Rattle.network.proofs.wires.Wires.rank.Given as goal

abbrev pub invariant-loop-placed : goal.invariant-loop-placed
invariant-loop-placed l = Ranked l.self.signals.now l.turns l.placed
