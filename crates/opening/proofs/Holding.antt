-- An opened board cell by cell, and the ranks of its web.
use Rattle.std.proofs.Common.{ℕ, ◌≤◌, List, length, refl}
use Rattle.gauge.specs.Matrix.{edge_ops}
use Rattle.network.specs.Net.{fanin}
use Rattle.opening.specs.Cells.{table}
use Rattle.opening.specs.Forwards.{forwards_sound, all_counted}
use Rattle.opening.specs.Laws.{SamePast, OpenedHolds, FileWebsRank}
use Rattle.opening.proofs.Agreeing.{weight_cell}
use Rattle.opening.proofs.Answering.{long}
use Rattle.opening.proofs.Tabling.{table_cell, table_past, table_long}

kept : {V : Type 0} (f : ℕ → V) (n : ℕ) (old : List V) → n ≤ length old → SamePast n old (table f n old)
kept f n old enough = record { long = table_long f n old enough; past = table_past f n old }

pub opened_holds : (G : Type 0) → OpenedHolds G
opened_holds G r delays file view fits =
    let l = long view fits in
    record {
      network = refl;
      starts = λ s h. table_cell _ _ view.starts s (edge_ops r).zero h;
      weights = weight_cell r delays view.network file view.starts view.weights;
      values = λ s h. table_cell _ _ view.values s (edge_ops r).zero h;
      starts_past = kept _ _ view.starts l.starts;
      weights_past = kept _ _ view.weights l.weights;
      values_past = kept _ _ view.values l.values;
    }

pub file_webs_rank : (G : Type 0) → FileWebsRank G
file_webs_rank G r delays net file =
    let sound = forwards_sound net in
    (_, record { below = sound.turn_below; climbs = λ s h. all_counted _ _ (fanin net s) (λ k there. (net.wired s k there, net.climbs s k there)) })
