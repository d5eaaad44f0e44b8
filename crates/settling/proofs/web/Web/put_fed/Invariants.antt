use Rattle.std.proofs.Common.{◌≡◌, ℕ, ◌-◌, ◌≤◌, ◌&&◌, ltb}
use Rattle.settling.specs.Shapes.{feeds, with_turns_of}
use Rattle.settling.proofs.web.Web.put_fed.Given as goal

-- the turns of the fed signals below `start` wait, besides those that waited
abbrev pub invariant-loop-signal : goal.invariant-loop-signal
invariant-loop-signal g l =
    let shape = g.N.Wiring.shape l.self.wiring.now in
    let list = g.W.WaitingList in
    (l.start ≤ shape.size)
    × (list.limit l.list ≡ list.limit l.initial.list)
    × ((t : ℕ) → list.waits l.list t ≡ with_turns_of shape (λ s. ltb s l.start && feeds shape l.source s) (list.waits l.initial.list) t)

abbrev pub decreases-loop-signal : goal.decreases-loop-signal
decreases-loop-signal g l = (g.N.Wiring.shape l.self.wiring.now).size - l.start
