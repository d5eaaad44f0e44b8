-- When the book refuses an edit, and for what.
use Rattle.std.specs.Prelude.{ℕ, ◌*◌, Bool, true, false, cond, not, ◌&&◌, ◌||◌, length, Some, None, Option, nat_lt}
use Rattle.gauge.specs.Semirings.{Ops}
use Rattle.paths.specs.Reach.{reached}
use Rattle.fields.specs.declared.edit.Edit.{Edit}
use Rattle.fields.specs.declared.edit.Edit.TheVariants.{SetDelay, SetStart, Rewire, Cut}
use Rattle.delays.specs.Tables.{too_early}
use Rattle.book.specs.declared.edit_fault.EditFault.{EditFault}
use Rattle.book.specs.declared.edit_fault.EditFault.TheVariants.{TooShort, LowLimit, NoSuchPart, EarlyAboveLate, ClosesCycle}
use Rattle.book.specs.Books.{Book, entry, web}

-- what a call is lent: the lengths of the tables and of the mark strip, and the waiting list's limit
pub record Lent : Type 0 where
  pub starts : ℕ
  pub weights : ℕ
  pub values : ℕ
  pub strip : ℕ
  pub limit : ℕ

-- a table has too few cells for n signals, or the strip where it is used
abbrev pub too_short : (strip : Bool) → Lent → (n : ℕ) → Bool
too_short strip l n = (strip && nat_lt l.strip n) || (nat_lt l.starts n || (nat_lt l.weights (4 * n) || nat_lt l.values n))

-- too short is judged first, then a low limit
abbrev pub room_fault : (strip : Bool) → Lent → (n : ℕ) → Option EditFault
room_fault strip l n = cond (too_short strip l n) (Some TooShort) (cond (nat_lt l.limit n) (Some LowLimit) None)

-- only a rewiring marks what a signal reaches
abbrev pub marks : Edit → Bool
marks (SetDelay g k t) = false
marks (SetStart s t) = false
marks (Rewire g k u) = true
marks (Cut g k) = false

-- the times of an edit cross at an edge
abbrev pub crosses : Edit → Bool
crosses (SetDelay g k t) = too_early t
crosses (SetStart s t) = too_early t
crosses (Rewire g k u) = false
crosses (Cut g k) = false

module _ {V : Type 0} (r : Ops V) (book : Book V) where
  abbrev pub has_pin : (g k : ℕ) → Bool
  has_pin g k = nat_lt k (length (entry r book g).pins)

  -- the signals and the pin are there, and a start is for a source
  abbrev pub known : Edit → Bool
  known (SetDelay g k t) = has_pin g k
  known (SetStart s t) = (entry r book s).source
  known (Rewire g k u) = has_pin g k && nat_lt u (length book)
  known (Cut g k) = has_pin g k

  -- the new feeding signal is the gate's own, or is reached from it by wires
  abbrev pub closes : Edit → Bool
  closes (SetDelay g k t) = false
  closes (SetStart s t) = false
  closes (Rewire g k u) = reached (web r book) g u
  closes (Cut g k) = false

  -- what is wrong with an edit whose tag stands at a place: an unknown part first, then crossing times, then a cycle
  abbrev pub part_fault : (at : ℕ) → Edit → Option EditFault
  part_fault at e =
      cond (not (known e)) (Some (NoSuchPart at)) (cond (crosses e) (Some (EarlyAboveLate at)) (cond (closes e) (Some (ClosesCycle at)) None))

  -- why an edit is refused, if it is
  unfoldable pub judge : Lent → (at : ℕ) → Edit → Option EditFault
  judge l at e =
      cond (too_short (marks e) l (length book)) (Some TooShort) (cond (nat_lt l.limit (length book)) (Some LowLimit) (part_fault at e))
