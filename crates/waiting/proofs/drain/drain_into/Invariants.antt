use Rattle.std.proofs.Common.{◌≡◌, take, drop}
use Rattle.waiting.specs.Turns.{Drained}
use Rattle.waiting.proofs.drain.drain_into.Given as goal

abbrev pub invariant-loop-n : goal.invariant-loop-n
invariant-loop-n g l =
    let w = g.W.WaitingList in
    (w.limit l.list ≡ w.limit l.initial.list)
    × Drained (w.waits l.initial.list) (take l.n l.out) (w.waits l.list)
    × (drop l.n l.out ≡ drop l.n l.initial.out)
