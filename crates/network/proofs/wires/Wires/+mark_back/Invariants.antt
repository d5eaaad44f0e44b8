use Rattle.network.specs.Search.{unmarked, Searched}
use Rattle.network.proofs.wires.Wires.+mark_back.Given as goal

abbrev pub decreases-mark_back : goal.decreases-mark_back
decreases-mark_back l = unmarked l.marks.now

abbrev pub invariant-loop-feeder : goal.invariant-loop-feeder
invariant-loop-feeder l = Searched l.self.signals.now l.signal l.feeder-index l.initial.marks l.marks
