-- What stands in the cells of an opened board's starts and weights.
use Rattle.std.specs.Prelude.{ℕ, ◌*◌, ◌/◌, ◌%◌, cond, List, ◌++◌, map, drop, nat_lt}
use Rattle.std.specs.List.{range_with_len}
use Rattle.gauge.specs.Matrix.{edge_ops}
use Rattle.gauge.specs.Semirings.{Ops}
use Rattle.gauge.specs.declared.matrix.EdgeMatrix.{EdgeMatrix}
use Rattle.weights.specs.Weights.{weight_of, start_of}
use Rattle.weights.specs.declared.times.Times.{Times}
use Rattle.network.specs.Net.{signals, size, is_source_of}
use Rattle.network.specs.Senses.{raises, lowers}
use Rattle.network.specs.Wiring.{driver}
use Rattle.network.specs.declared.network.Network.{Network}
use Rattle.network.specs.declared.signal.Driver.{Driver}
use Rattle.network.specs.declared.signal.Driver.TheVariants.{Undriven, Input, Latched, Gated}
use Rattle.delays.specs.Tables.{pin_times, source_times}

-- a table whose first n cells are by f, and whose other cells are as they were
abbrev pub table : {V : Type 0} → (ℕ → V) → (n : ℕ) → List V → List V
table f n old = map f (range_with_len 0 n) ++ drop n old

module _ {G : Type 0} (r : Ops G) (delays : ℕ → ℕ → G) where
  -- the weight of a driver's pin with these times: zero where it has no such pin
  abbrev pub driver_weight : Driver → ℕ → Times → EdgeMatrix G
  driver_weight Undriven k t = (edge_ops r).zero
  driver_weight Input k t = (edge_ops r).zero
  driver_weight (Latched l) k t = (edge_ops r).zero
  driver_weight (Gated g) k t = cond (nat_lt k g.pin_count) (weight_of r delays (raises g k) (lowers g k) t) (edge_ops r).zero

  module _ (net : Network) where
    abbrev pub weight_at : (s k : ℕ) → Times → EdgeMatrix G
    weight_at s k t = driver_weight (driver (signals net) s) k t

    -- cell 4 s + k is that of pin k of the signal s
    abbrev pub weight_in : ℕ → Times → EdgeMatrix G
    weight_in i t = weight_at (i / 4) (i % 4) t

    -- the start of a signal with these times: zero where it is no source
    abbrev pub start_at : ℕ → Times → EdgeMatrix G
    start_at s t = cond (is_source_of net s) (start_of r delays t) (edge_ops r).zero

    -- the tables by a delay table
    abbrev pub starts_by : (file : List ℕ) → List (EdgeMatrix G) → List (EdgeMatrix G)
    starts_by file old = table (λ s. start_at s (source_times file s)) (size net) old

    abbrev pub weights_by : (file : List ℕ) → List (EdgeMatrix G) → List (EdgeMatrix G)
    weights_by file old = table (λ i. weight_in i (pin_times file (i / 4) (i % 4))) (4 * size net) old
