-- What a pin's delays and a source's start times come to in a gauge.
use Rattle.std.specs.Prelude.{Bool, cond, ℕ}
use Rattle.gauge.specs.declared.edge.Edge.{Edge}
use Rattle.gauge.specs.declared.edge.Edge.TheVariants.{Rise, Fall}
use Rattle.gauge.specs.declared.matrix.EdgeMatrix.{EdgeMatrix}
use Rattle.gauge.specs.Matrix.{matrix, diagonal}
use Rattle.gauge.specs.Semirings.{Ops}
use Rattle.weights.specs.declared.times.Times.{Times}

-- the gauge's value of the times at an edge
abbrev pub value_at : {G : Type 0} → (ℕ → ℕ → G) → Times → Edge → G
value_at delays t Rise = delays t.late_rise t.early_rise
value_at delays t Fall = delays t.late_fall t.early_fall

-- from the edge at the pin to the edge at the gate's output: a pin that raises keeps the edge, one that lowers turns it
abbrev pub weight_of : {G : Type 0} → Ops G → (ℕ → ℕ → G) → (raises lowers : Bool) → Times → EdgeMatrix G
weight_of r delays raises lowers t = matrix (λ a b. cond (diagonal raises lowers a b) (value_at delays t b) r.zero)

-- a source starts with its start times on the diagonal
abbrev pub start_of : {G : Type 0} → Ops G → (ℕ → ℕ → G) → Times → EdgeMatrix G
start_of r delays t = matrix (λ a b. diagonal (value_at delays t b) r.zero a b)
