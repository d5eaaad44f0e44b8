use Rattle.std.proofs.Common.{◌≡◌, ℕ, ◌<◌, get_or}
use Rattle.network.proofs.turns.renumber.list_by_turn.Given as goal

abbrev pub invariant-loop-signal : goal.invariant-loop-signal
invariant-loop-signal l = (s : ℕ) → s < l.signal → get_or l.order (get_or l.turn_of s 0) 0 ≡ s
