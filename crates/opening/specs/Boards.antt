-- A board as plain data.
use Rattle.std.specs.Prelude.{ℕ, ◌*◌, Bool, false, cond, ◌||◌, List, length, Some, None, Option, Ok, Err, Result, nat_lt}
use Rattle.std.specs.Borrow.{MutBor}
use Rattle.fault.specs.declared.room_fault.RoomFault.{RoomFault}
use Rattle.fault.specs.declared.room_fault.RoomFault.TheVariants.{TooShort, LowLimit}
use Rattle.network.specs.Net.{size}
use Rattle.network.specs.declared.network.Network.{Network}
use Rattle.opening.specs.declared.board.Board.{Board}

-- the network, and what the tables hold
pub record View (V : Type 0) : Type 0 where
  pub network : Network
  pub starts : List V
  pub weights : List V
  pub values : List V

abbrev pub view_of : {V : Type 0} → Board V → View V
view_of board = record { network = board.network.now; starts = board.starts.now; weights = board.weights.now; values = board.values.now }

-- the same, of a board that was handed in, at the return
abbrev pub view_at : {V : Type 0} → MutBor Network × (MutBor (List V) × (MutBor (List V) × (MutBor (List V) × Unit {0}))) → View V
view_at (network, (starts, (weights, (values, end)))) = record { network = network.now; starts = starts.now; weights = weights.now; values = values.now }

-- a table has too few cells
abbrev pub is_short : {V : Type 0} → View V → Bool
is_short view =
    nat_lt (length view.starts) (size view.network)
    || (nat_lt (length view.weights) (4 * size view.network) || nat_lt (length view.values) (size view.network))

-- a mark strip has too few cells for n signals, where one is used
abbrev pub short_strip : Option ℕ → (n : ℕ) → Bool
short_strip None n = false
short_strip (Some cells) n = nat_lt cells n

-- what is too short is judged first, then a low limit
abbrev pub room_in : {V : Type 0} → View V → (strip : Option ℕ) (limit : ℕ) → Result (Unit {0}) RoomFault
room_in view strip limit =
    cond (short_strip strip (size view.network) || is_short view) (Err TooShort)
    (cond (nat_lt limit (size view.network)) (Err LowLimit) (Ok tt))
