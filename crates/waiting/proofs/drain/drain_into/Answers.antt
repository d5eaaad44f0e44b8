use Rattle.std.proofs.Common.{arith, rules}
use Rattle.waiting.proofs.Draining.{drained_more, drained_all, past_more}
use Rattle.waiting.proofs.drain.drain_into.Goals as goal

pub loop-n-preserved : goal.loop-n-preserved
loop-n-preserved g c = let took = c.in-Some.ensures in (search rules, search (rules, drained_more, took.removed), search (rules, past_more))

pub returns-clause-enough : goal.returns-clause-enough
returns-clause-enough g c =
    let w = g.W.WaitingList in
    let l = c.loop-n in
    λ many. drained_all _ _ _ _ l.invariant.1 (w.limit l.list) (w.below l.list) (omega arith) (omega (arith, l.invariant.0))
