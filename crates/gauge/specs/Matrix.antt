-- Edge matrices: a value for each edge before and edge after, over any semiring.
use Rattle.std.specs.Prelude.{◌&&◌}
use Rattle.gauge.specs.declared.edge.Edge.{Edge}
use Rattle.gauge.specs.declared.edge.Edge.TheVariants.{Rise, Fall}
use Rattle.gauge.specs.declared.matrix.EdgeMatrix.{EdgeMatrix}
use Rattle.gauge.specs.Semirings.{Ops}

-- the entry for an edge before and an edge after
abbrev pub at : {S : Type 0} → EdgeMatrix S → Edge → Edge → S
at x Rise Rise = x.rise_rise
at x Rise Fall = x.rise_fall
at x Fall Rise = x.fall_rise
at x Fall Fall = x.fall_fall

-- the matrix with these entries
abbrev pub matrix : {S : Type 0} → (Edge → Edge → S) → EdgeMatrix S
matrix f = record { rise_rise = f Rise Rise; rise_fall = f Rise Fall; fall_rise = f Fall Rise; fall_fall = f Fall Fall }

-- the arrival at an edge: the sum of the two entries that end in it
abbrev pub into : {S : Type 0} → Ops S → EdgeMatrix S → Edge → S
into r x b = r.plus (at x Rise b) (at x Fall b)

-- one value where the edges are equal, another elsewhere
abbrev pub diagonal : {S : Type 0} → S → S → Edge → Edge → S
diagonal on off Rise Rise = on
diagonal on off Rise Fall = off
diagonal on off Fall Rise = off
diagonal on off Fall Fall = on

abbrev pub edge_ops : {S : Type 0} → Ops S → Ops (EdgeMatrix S)
edge_ops r = record {
  zero = matrix (λ a b. r.zero);
  one = matrix (diagonal r.one r.zero);
  plus = λ x y. matrix (λ a b. r.plus (at x a b) (at y a b));
  times = λ x y. matrix (λ a b. r.plus (r.times (at x a Rise) (at y Rise b)) (r.times (at x a Fall) (at y Fall b)));
  same = λ x y. r.same (at x Rise Rise) (at y Rise Rise) && (r.same (at x Rise Fall) (at y Rise Fall)
      && (r.same (at x Fall Rise) (at y Fall Rise) && r.same (at x Fall Fall) (at y Fall Fall)));
}
