-- The edit book: what is known of each signal without a board, and the web that it draws.
use Rattle.std.specs.Prelude.{ℕ, Bool, false, List, [], map, length, slice_index_or}
use Rattle.std.specs.List.{range_with_len}
use Rattle.gauge.specs.Semirings.{Ops}
use Rattle.paths.specs.Web.{Web, Incoming}
use Rattle.network.specs.Senses.{raises_in, lowers_in}
use Rattle.network.specs.Wiring.{driver, is_source, wires, feeder}
use Rattle.network.specs.declared.signal.Signal.{Signal}

-- a pin: the signal that it reads, whether it raises and whether it lowers its gate, and its weight
pub record Pin (V : Type 0) : Type 0 where
  pub from : ℕ
  pub raises : Bool
  pub lowers : Bool
  pub weight : V

-- a signal: whether it is a source, its start, and its gate's pins in order
pub record Entry (V : Type 0) : Type 0 where
  pub source : Bool
  pub start : V
  pub pins : List (Pin V)

-- the signals by their numbers
abbrev pub Book : Type 0 → Type 0
Book V = List (Entry V)

module _ {V : Type 0} where
  -- what stands past the last signal: no source, and no pins
  abbrev pub none : Ops V → Entry V
  none r = record { source = false; start = r.zero; pins = [] }

  abbrev pub entry : Ops V → Book V → ℕ → Entry V
  entry r book s = slice_index_or book s (none r)

  -- the wire of a pin
  abbrev pub wire_of : Pin V → Incoming V
  wire_of p = record { from = p.from; weight = p.weight }

  -- the signals, starts and wires of the book: its paths and path sums are those of this web
  abbrev pub web : Ops V → Book V → Web V
  web r book = record {
    size = length book;
    start = λ s. (entry r book s).start;
    into = λ s. map wire_of (entry r book s).pins;
  }

  -- the book of a netlist's signals with these starts, and with these weights of pins
  module _ (xs : List Signal) (start : ℕ → V) (weight : ℕ → ℕ → V) where
    abbrev pub pin_by : (s k : ℕ) → Pin V
    pin_by s k = record { from = feeder xs s k; raises = raises_in (driver xs s) k; lowers = lowers_in (driver xs s) k; weight = weight s k }

    abbrev pub entry_by : ℕ → Entry V
    entry_by s = record { source = is_source (driver xs s); start = start s; pins = map (pin_by s) (range_with_len 0 (wires xs s)) }

    abbrev pub book_by : Book V
    book_by = map entry_by (range_with_len 0 (length xs))
