use Rattle.std.proofs.Common.{◌≡◌, vec_items, vec_len, vec_capacity}
use Rattle.std.specs.List.{range_with_len}
use Rattle.network.proofs.turns.start.count_up.Given as goal

abbrev pub invariant-loop-number : goal.invariant-loop-number
invariant-loop-number l = (vec_items l.numbers ≡ range_with_len 0 l.number) × (vec_len l.numbers ≡ l.number) × (vec_capacity l.numbers ≡ vec_capacity l.initial.numbers)
