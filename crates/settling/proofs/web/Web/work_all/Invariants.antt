use Rattle.std.proofs.Common.{true}
use Rattle.settling.proofs.Settling.{SettledTo}
use Rattle.settling.proofs.web.Web.work_all.Given as goal

-- the signals whose turn has come are worked
abbrev pub invariant-loop-turn : goal.invariant-loop-turn
invariant-loop-turn g l =
    SettledTo (record {
      ops = g.V.Semiring.ops;
      laws = g.met.V.Semiring.laws;
      shape = g.N.Wiring.shape l.self.wiring.now;
      sound = g.N.Wiring.sound l.self.wiring.now;
      starts = l.self.starts.now;
      weights = l.self.weights.now;
      before = l.initial.values;
    }) (λ s. true) l.turn l.values
