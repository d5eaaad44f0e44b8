use Rattle.std.proofs.Common.{refl, arith}
use Rattle.settling.proofs.Settling.{begun, turned, taken_below, ended, count_ended}
use Rattle.settling.proofs.web.Web.settle.Goals as goal

pub loop-turn-init : goal.loop-turn-init
loop-turn-init g c =
    (begun _ c.args.edited _ (λ t. let put = c.put_signal.ensures.put t in let none = c.clear.ensures.empty t in grind arith), refl)

pub rework-requires-clause-here : goal.rework-requires-clause-here
rework-requires-clause-here g c =
    let below = taken_below _ _ _ _ _ c.in-Some.turn c.loop-turn.invariant.0 c.in-Some.ensures.least.0 in
    omega (arith, c.signal_at-signal.ensures, (g.N.Wiring.sound c.args.self.now.wiring.now).signal_below c.in-Some.turn below)

pub loop-turn-preserved : goal.loop-turn-preserved
loop-turn-preserved g c =
    let took = c.in-Some.ensures in
    let re = c.rework.ensures in
    let list = g.W.WaitingList in (
      turned _ _ (list.waits c.loop-turn.list) (list.waits c.take.new.self) (list.waits c.rework.new.list) c.loop-turn.values c.rework.new.values
          c.loop-turn.count _ c.in-Some.turn c.signal_at-signal.result c.loop-turn.invariant.0 (omega (arith, c.loop-turn.auto.values, c.requires.room))
          took.least took.removed c.signal_at-signal.ensures re.written re.put (omega arith),
      (let limit = took.limit in let was = c.loop-turn.invariant.1 in cc),
    )

pub loop-turn-smaller : goal.loop-turn-smaller
loop-turn-smaller g c = omega (arith, (loop-turn-preserved g c).0.few)

pub returns-clause-settled : goal.returns-clause-settled
returns-clause-settled g c = ended _ c.args.edited (g.W.WaitingList.waits c.loop-turn.list) c.loop-turn.values c.loop-turn.count c.loop-turn.invariant.0 c.in_default.ensures.least

pub returns-clause-count : goal.returns-clause-count
returns-clause-count g c = count_ended _ c.args.edited (g.W.WaitingList.waits c.loop-turn.list) c.loop-turn.values c.loop-turn.count c.loop-turn.invariant.0 c.in_default.ensures.least c.requires.here
