-- A shape with tables of starts, weights and values.
use Rattle.std.specs.Prelude.{ℕ, ◌<◌, ◌≤◌, List, map, length, slice_index_or}
use Rattle.std.specs.List.{AllByRecursion}
use Rattle.gauge.specs.Semirings.{Ops}
use Rattle.paths.specs.Web.{Web, Incoming, Rankable}
use Rattle.settling.specs.declared.tap.Tap.{Tap}
use Rattle.settling.specs.Shapes.{Shape, Sound}

-- a table as a function: zero past its end
abbrev pub cells : {V : Type 0} → Ops V → List V → ℕ → V
cells r table s = slice_index_or table s r.zero

-- the tap as a wire with the weight of its cell
abbrev pub wire_of : {V : Type 0} → Ops V → (weights : List V) → Tap → Incoming V
wire_of r weights x = record { from = x.from; weight = cells r weights x.cell }

-- the signals and wires of a shape, with the starts and the weights of the tables
abbrev pub web_on : {V : Type 0} → Ops V → Shape → (starts weights : List V) → Web V
web_on r shape starts weights = record {
  size = shape.size;
  start = cells r starts;
  into = λ s. map (wire_of r weights) (shape.taps s);
}

-- the starts and the weights are long enough for the shape
pub record WebFits {V : Type 0} (shape : Shape) (starts weights : List V) : Type 0 where
  pub starts_long : shape.size ≤ length starts
  pub weights_long : (s : ℕ) → s < shape.size → AllByRecursion (λ x. x.cell < length weights) (shape.taps s)

-- the web of a sound shape has ranks, whatever the tables hold
abbrev pub Ranks : Type 0 → Type 0
Ranks V = (r : Ops V) (shape : Shape) → Sound shape → (starts weights : List V) → Rankable (web_on r shape starts weights)
