use Rattle.std.proofs.Common.{true, set, refl, ap, arith}
use Rattle.settling.proofs.Settling.{settled_more, all_worked}
use Rattle.settling.proofs.web.Web.work_all.Goals as goal

pub loop-turn-preserved : goal.loop-turn-preserved
loop-turn-preserved g c =
    settled_more _ (λ s. true) c.loop-turn.turn c.loop-turn.values _ (omega (arith, c.loop-turn.auto.values, c.requires)) c.loop-turn.invariant c.loop-turn.turn c.signal_at-signal.result
    (omega (arith, c.signal_count-count.ensures)) c.signal_at-signal.ensures (ap (set c.loop-turn.values c.signal_at-signal.result) c.work.ensures) (omega arith) refl (λ u l h h'. absurd (omega arith))

pub returns-clause-sums : goal.returns-clause-sums
returns-clause-sums g c = all_worked _ c.loop-turn.turn c.loop-turn.values (omega (arith, c.signal_count-count.ensures)) c.loop-turn.invariant
