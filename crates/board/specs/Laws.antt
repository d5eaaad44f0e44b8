-- What holds of every board under calls.
use Rattle.std.specs.Prelude.{◌≡◌, ℕ, ◌+◌, ◌*◌, ◌<◌, ◌≤◌, Bool, false, List, map, take, None, Ok, Err, Option}
use Rattle.gauge.specs.Matrix.{edge_ops}
use Rattle.gauge.specs.Semirings.{Ops}
use Rattle.gauge.specs.declared.matrix.EdgeMatrix.{EdgeMatrix}
use Rattle.network.specs.Net.{signals, size, name_of, is_output_of, is_captured_of, fanin}
use Rattle.network.specs.Wiring.{driver}
use Rattle.network.specs.declared.signal.Driver.{Driver}
use Rattle.network.specs.declared.signal.Driver.TheVariants.{Undriven, Input, Latched, Gated}
use Rattle.network.specs.declared.signal.Latch.{Latch}
use Rattle.settling.specs.Tables.{cells}
use Rattle.opening.specs.Boards.{View, is_short}
use Rattle.opening.specs.Laws.{SamePast}
use Rattle.opening.specs.Opens.{opened_view}
use Rattle.book.specs.declared.script_fault.ScriptFault.{ScriptFault}
use Rattle.book.specs.Faults.{script_refusal}
use Rattle.book.specs.Answers.{judge_script, answers, last}
use Rattle.book.specs.Filed.{filed}
use Rattle.board.specs.Books.{book_of, Sums, lent_of}
use Rattle.board.specs.Runs.{Scripted, Made, Chained, lendings, ChainFollows}

-- a driver but for the signals at its pins: a latch whole; of a gate its number of pins and its rows
pub data Frame : Type 0 where
  undriven : Frame
  input : Frame
  latched : Latch → Frame
  gated : (pins matched : ℕ) (word : Option Bool) → Frame

abbrev pub frame_of : Driver → Frame
frame_of Undriven = undriven
frame_of Input = input
frame_of (Latched l) = latched l
frame_of (Gated g) = gated g.pin_count g.matched g.last_word

-- what no call touches of a board
pub record Kept {V : Type 0} (r : Ops V) (x y : View V) : Type 0 where
  pub many : size y.network ≡ size x.network
  pub pins : (s : ℕ) → fanin y.network s ≡ fanin x.network s
  pub frames : (s : ℕ) → frame_of (driver (signals y.network) s) ≡ frame_of (driver (signals x.network) s)
  pub names : (s : ℕ) → name_of y.network s ≡ name_of x.network s
  pub outputs : (s : ℕ) → is_output_of y.network s ≡ is_output_of x.network s
  pub captures : (s : ℕ) → is_captured_of y.network s ≡ is_captured_of x.network s
  -- the lengths of the tables, and their cells past the signals
  pub starts : SamePast (size x.network) x.starts y.starts
  pub weights : SamePast (4 * size x.network) x.weights y.weights
  pub values : SamePast (size x.network) x.values y.values
  -- the weights of absent pins
  pub absent : (s k : ℕ) → s < size x.network → fanin x.network s ≤ k → k < 4
      → cells r y.weights (4 * s + k) ≡ cells r x.weights (4 * s + k)

module _ {G : Type 0} (r : Ops G) (delays : ℕ → ℕ → G) where
  -- every chain of calls follows the book
  abbrev pub ChainsFollow : Type 0
  ChainsFollow = (ms : List Made) (x y : View (EdgeMatrix G)) → Chained r delays ms x y → ChainFollows r delays ms x y

  -- what a run leaves and answers on a board that was opened with a delay table: wires, weights and starts are those of the book
  -- that begins as the two files say; every signal carries the sum over all paths that end there; every answer is the book's;
  -- and nothing else has moved since opening
  pub record RunFollows (file : List ℕ) (ms : List Made) (x y : View (EdgeMatrix G)) : Type 0 where
    pub book : book_of (edge_ops r) y ≡ last r delays (filed r delays (signals x.network) file) (lendings r delays x ms)
    pub sums : Sums (edge_ops r) y
    pub told : map (λ m. m.said) ms ≡ answers r delays (filed r delays (signals x.network) file) (lendings r delays x ms)
    pub kept : Kept (edge_ops r) (opened_view r delays file x) y

  -- so it is with every chain of calls on an opened board
  abbrev pub RunsFollow : Type 0
  RunsFollow = (file : List ℕ) (ms : List Made) (x y : View (EdgeMatrix G)) → is_short x ≡ false
      → Chained r delays ms (opened_view r delays file x) y → RunFollows file ms x y

  -- a script that stops at a field leaves a board that the script of the bytes before that field leaves, whatever the values
  abbrev pub StoppedScripts : Type 0
  StoppedScripts = (strip limit : ℕ) (file : List ℕ) (x y : View (EdgeMatrix G)) (d : ScriptFault)
      → judge_script r delays (lent_of x strip limit) (book_of (edge_ops r) x) file ≡ None → Scripted r delays strip limit file x y (Err d)
      → (n : ℕ) × Scripted r delays strip limit (take (script_refusal d).place file) x y (Ok n)
