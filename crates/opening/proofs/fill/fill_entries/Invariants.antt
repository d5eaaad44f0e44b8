use Rattle.std.proofs.Common.{◌≡◌}
use Rattle.fields.specs.Lists.{rest, fields}
use Rattle.fields.specs.Says.{entry_of}
use Rattle.opening.specs.Fills.{starts_with, weights_with, after_all}
use Rattle.opening.proofs.fill.fill_entries.Given as goal

abbrev pub invariant-loop-field : goal.invariant-loop-field
invariant-loop-field g l =
    let starting = starts_with g.G.Semiring.ops g.G.Gauge.delays l.network in
    let weighting = weights_with g.G.Semiring.ops g.G.Gauge.delays l.network in
    (after_all starting l.starts (rest entry_of l.field-iterator) ≡ after_all starting l.initial.starts (fields entry_of l.file))
    × (after_all weighting l.weights (rest entry_of l.field-iterator) ≡ after_all weighting l.initial.weights (fields entry_of l.file))
