-- What opening answers, and what it leaves on the board.
use Rattle.std.specs.Prelude.{ℕ, List, map, None, Ok, Err, Result}
use Rattle.std.specs.List.{range_with_len}
use Rattle.std.specs.Result.{result_and, result_map_both}
use Rattle.gauge.specs.Matrix.{edge_ops}
use Rattle.gauge.specs.Semirings.{Ops}
use Rattle.gauge.specs.declared.matrix.EdgeMatrix.{EdgeMatrix}
use Rattle.paths.specs.Sums.{path_sum}
use Rattle.paths.specs.Web.{Web}
use Rattle.network.specs.Net.{size, fanin, from}
use Rattle.network.specs.declared.network.Network.{Network}
use Rattle.fields.specs.declared.entry.Clock.{Clock}
use Rattle.delays.specs.Faults.{no_room}
use Rattle.delays.specs.Outlines.{outline_of}
use Rattle.delays.specs.Tables.{table_of, pin_times, source_times}
use Rattle.delays.specs.declared.faults.DelayFault.{DelayFault}
use Rattle.opening.specs.Boards.{View, room_in}
use Rattle.opening.specs.Cells.{table, start_at, weight_at, starts_by, weights_by}
use Rattle.opening.specs.declared.open.Opened.{Opened}

-- a clock, with the number of signals
abbrev pub counted : ℕ → Result Clock DelayFault → Result Opened DelayFault
counted n (Ok c) = Ok (record { clock = c; count = n })
counted n (Err d) = Err d

-- a short table is judged first, then a low limit
abbrev pub room_of : {V : Type 0} → View V → (limit : ℕ) → Result (Unit {0}) DelayFault
room_of view limit = result_map_both (λ done. done) no_room (room_in view None limit)

-- and then the delay table
abbrev pub answer_of : {V : Type 0} → View V → (limit : ℕ) (file : List ℕ) → Result Opened DelayFault
answer_of view limit file = result_and (room_of view limit) (counted (size view.network) (table_of (outline_of view.network) file))

module _ {G : Type 0} (r : Ops G) (delays : ℕ → ℕ → G) where
  -- the network's signals and wires, with the starts and the weights that the delay table gives
  abbrev pub file_web : Network → (file : List ℕ) → Web (EdgeMatrix G)
  file_web net file = record {
    size = size net;
    start = λ s. start_at r delays net s (source_times file s);
    into = λ s. map (λ k. record { from = from net s k; weight = weight_at r delays net s k (pin_times file s k) }) (range_with_len 0 (fanin net s));
  }

  -- the opened board: starts and weights by the delay table, each value its path sum, and the cells past the end as they were
  abbrev pub opened_view : (file : List ℕ) → View (EdgeMatrix G) → View (EdgeMatrix G)
  opened_view file view = record {
    network = view.network;
    starts = starts_by r delays view.network file view.starts;
    weights = weights_by r delays view.network file view.weights;
    values = table (path_sum (edge_ops r) (file_web view.network file)) (size view.network) view.values;
  }
