-- What holds of every opened board.
use Rattle.std.specs.Prelude.{◌≡◌, ℕ, ◌+◌, ◌*◌, ◌<◌, false, List, length, drop}
use Rattle.gauge.specs.Matrix.{edge_ops}
use Rattle.gauge.specs.Semirings.{Ops}
use Rattle.gauge.specs.declared.matrix.EdgeMatrix.{EdgeMatrix}
use Rattle.paths.specs.Sums.{AreSums}
use Rattle.paths.specs.Web.{Rankable}
use Rattle.network.specs.Net.{size}
use Rattle.network.specs.declared.network.Network.{Network}
use Rattle.settling.specs.Tables.{cells}
use Rattle.delays.specs.Tables.{pin_times, source_times}
use Rattle.opening.specs.Boards.{View, is_short}
use Rattle.opening.specs.Cells.{start_at, weight_at}
use Rattle.opening.specs.Opens.{file_web, opened_view}

-- the table has the same length and the same cells from n on
pub record SamePast {V : Type 0} (n : ℕ) (before after : List V) : Type 0 where
  pub long : length after ≡ length before
  pub past : drop n after ≡ drop n before

module _ {G : Type 0} (r : Ops G) (delays : ℕ → ℕ → G) (file : List ℕ) where
  pub record Holds (before after : View (EdgeMatrix G)) : Type 0 where
    pub network : after.network ≡ before.network
    -- a source has the start of its times, and any other signal zero
    pub starts : (s : ℕ) → s < size before.network
        → cells (edge_ops r) after.starts s ≡ start_at r delays before.network s (source_times file s)
    -- a pin has the weight of its sense and its times, and an absent pin zero
    pub weights : (s k : ℕ) → s < size before.network → k < 4
        → cells (edge_ops r) after.weights (4 * s + k) ≡ weight_at r delays before.network s k (pin_times file s k)
    pub values : AreSums (edge_ops r) (file_web r delays before.network file) (cells (edge_ops r) after.values)
    pub starts_past : SamePast (size before.network) before.starts after.starts
    pub weights_past : SamePast (4 * size before.network) before.weights after.weights
    pub values_past : SamePast (size before.network) before.values after.values

-- so it is with every board whose tables are long enough
abbrev pub OpenedHolds : Type 0 → Type 0
OpenedHolds G = (r : Ops G) (delays : ℕ → ℕ → G) (file : List ℕ) (view : View (EdgeMatrix G)) → is_short view ≡ false
    → Holds r delays file view (opened_view r delays file view)

abbrev pub FileWebsRank : Type 0 → Type 0
FileWebsRank G = (r : Ops G) (delays : ℕ → ℕ → G) (net : Network) (file : List ℕ) → Rankable (file_web r delays net file)
