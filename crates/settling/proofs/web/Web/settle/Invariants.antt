use Rattle.std.proofs.Common.{◌≡◌, ◌-◌}
use Rattle.paths.specs.Edits.{only}
use Rattle.settling.proofs.Settling.{Settling}
use Rattle.settling.proofs.web.Web.settle.Given as goal

abbrev pub invariant-loop-turn : goal.invariant-loop-turn
invariant-loop-turn g l =
    let list = g.W.WaitingList in
    Settling (record {
      ops = g.V.Semiring.ops;
      laws = g.met.V.Semiring.laws;
      shape = g.N.Wiring.shape l.self.wiring.now;
      sound = g.N.Wiring.sound l.self.wiring.now;
      starts = l.self.starts.now;
      weights = l.self.weights.now;
      before = l.initial.values;
    }) (only l.edited) (list.waits l.list) l.values l.count
    × (list.limit l.list ≡ list.limit l.initial.list)

abbrev pub decreases-loop-turn : goal.decreases-loop-turn
decreases-loop-turn g l = (g.N.Wiring.shape l.self.wiring.now).size - l.count
