use Rattle.std.proofs.Common.{◌≡◌, ◌+◌, ◌*◌, ◌≤◌, length}
use Rattle.waiting.specs.Turns.{Empty}
use Rattle.fields.specs.Lists.{rest, fields}
use Rattle.fields.specs.Says.{edit_of}
use Rattle.script.proofs.Taking.{Onto}
use Rattle.script.proofs.take.take_fields.Given as goal

abbrev pub invariant-loop-field : goal.invariant-loop-field
invariant-loop-field g l =
    (g.W.WaitingList.limit l.list ≡ g.W.WaitingList.limit l.initial.list)
    × Empty (g.W.WaitingList.waits l.list)
    × (l.total + 256 * length (rest edit_of l.field-iterator) ≤ 256 * length l.file)
    × Onto g.G.Semiring.ops g.G.Gauge.delays (length l.initial.strip) (g.W.WaitingList.limit l.initial.list) (fields edit_of l.file)
    (record { network = l.initial.network; starts = l.initial.starts; weights = l.initial.weights; values = l.initial.values })
    (record { network = l.network; starts = l.starts; weights = l.weights; values = l.values }) (rest edit_of l.field-iterator) l.total
