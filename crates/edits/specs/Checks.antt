-- What is judged of an edit before any mark is made.
use Rattle.std.specs.Prelude.{ℕ, Bool, cond, not, ◌&&◌, Some, None, Option, nat_lt}
use Rattle.network.specs.Net.{size}
use Rattle.network.specs.declared.network.Network.{Network}
use Rattle.fields.specs.declared.edit.Edit.{Edit}
use Rattle.fields.specs.declared.edit.Edit.TheVariants.{SetDelay, SetStart, Rewire, Cut}
use Rattle.delays.specs.Outlines.{Pin, Source, outline_of, has}
use Rattle.opening.specs.Boards.{View}
use Rattle.book.specs.declared.edit_fault.EditFault.{EditFault}
use Rattle.book.specs.declared.edit_fault.EditFault.TheVariants.{TooShort, LowLimit, NoSuchPart, EarlyAboveLate}
use Rattle.book.specs.Judging.{too_short, marks, crosses}
use Rattle.board.specs.Books.{lent_of}

-- the network has what an edit names
abbrev pub has_parts : Network → Edit → Bool
has_parts net (SetDelay g k t) = has (outline_of net) (Pin g k)
has_parts net (SetStart s t) = has (outline_of net) (Source s)
has_parts net (Rewire g k u) = has (outline_of net) (Pin g k) && nat_lt u (size net)
has_parts net (Cut g k) = has (outline_of net) (Pin g k)

-- all that is judged but a cycle
abbrev pub checked : {V : Type 0} → View V → (strip limit at : ℕ) → Edit → Option EditFault
checked x strip limit at e =
    cond (too_short (marks e) (lent_of x strip limit) (size x.network)) (Some TooShort)
    (cond (nat_lt limit (size x.network)) (Some LowLimit)
    (cond (not (has_parts x.network e)) (Some (NoSuchPart at)) (cond (crosses e) (Some (EarlyAboveLate at)) None)))
