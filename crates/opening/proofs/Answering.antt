-- Boards that have room, and what opening them answers.
use Rattle.std.proofs.Common.{◌≡◌, ℕ, ◌*◌, ◌≤◌, Bool, false, cond, ◌||◌, ltb, List, length, None, Ok, Err, Result, ap, ◌∙◌, arith}
use Rattle.std.specs.Result.{result_and, result_map_both}
use Rattle.std.proofs.lemmas.Bool.{ltb-false, or_parts}
use Rattle.fault.specs.declared.room_fault.RoomFault.{RoomFault}
use Rattle.fault.specs.declared.room_fault.RoomFault.TheVariants.{TooShort, LowLimit}
use Rattle.network.specs.Net.{size}
use Rattle.fields.specs.declared.entry.Clock.{Clock}
use Rattle.delays.specs.Faults.{no_room}
use Rattle.delays.specs.Outlines.{outline_of}
use Rattle.delays.specs.Tables.{table_of}
use Rattle.opening.specs.Boards.{View, is_short, room_in}
use Rattle.opening.specs.Opens.{counted, answer_of}

-- the tables of a board that is not short
pub record Long {V : Type 0} (view : View V) : Type 0 where
  pub starts : size view.network ≤ length view.starts
  pub weights : 4 * size view.network ≤ length view.weights
  pub values : size view.network ≤ length view.values

pub long : {V : Type 0} (view : View V) → is_short view ≡ false → Long view
long view h =
    let n = size view.network in
    let first = or_parts (ltb (length view.starts) n) (ltb (length view.weights) (4 * n) || ltb (length view.values) n) h in
    let others = or_parts (ltb (length view.weights) (4 * n)) (ltb (length view.values) n) first.1 in
    record {
      starts = ltb-false (length view.starts) n first.0;
      weights = ltb-false (length view.weights) (4 * n) others.0;
      values = ltb-false (length view.values) n others.1;
    }

abbrev room : (short low : Bool) → Result (Unit {0}) RoomFault
room short low = cond short (Err TooShort) (cond low (Err LowLimit) (Ok tt))

room_ok : (short low : Bool) → Ok tt ≡ room short low → short ≡ false
room_ok short low h = grind arith

-- a board that has room is not short
pub roomy : {V : Type 0} (view : View V) (limit : ℕ) → Ok tt ≡ room_in view None limit → Long view
roomy view limit h = long view (room_ok (is_short view) (ltb limit (size view.network)) h)

-- the answer of a board that has room
pub answered : {V : Type 0} (view : View V) (limit : ℕ) (file : List ℕ) → Ok tt ≡ room_in view None limit
    → (clock : Clock) → Ok clock ≡ table_of (outline_of view.network) file → (count : ℕ) → count ≡ size view.network
    → Ok (record { clock = clock; count = count }) ≡ answer_of view limit file
answered view limit file has_room clock said count is =
    let n = size view.network in
    ap (λ (m : ℕ). Ok (record { clock = clock; count = m })) is ∙ (ap (counted n) said
    ∙ ap (λ (o : Result (Unit {0}) RoomFault). result_and (result_map_both (λ done. done) no_room o) (counted n (table_of (outline_of view.network) file))) has_room)
