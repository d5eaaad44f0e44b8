use Rattle.std.proofs.Common.{ℕ, ◌<◌, slice_index_or}
use Rattle.opening.proofs.fill.fill_table.Given as goal

abbrev pub invariant-loop-i : goal.invariant-loop-i
invariant-loop-i g l = (k : ℕ) (d : g.row.V.Denot) → k < l.i → goal.F-post g l.value k (slice_index_or l.cells k d)
