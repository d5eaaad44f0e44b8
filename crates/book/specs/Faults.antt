-- How the faults of edits and scripts are refused.
use Rattle.std.specs.Prelude.{ℕ}
use Rattle.fault.specs.declared.cause.Cause.{Cause}
use Rattle.fault.specs.declared.cause.Cause.TheVariants as cause
use Rattle.fault.specs.declared.refusal.Refusal.{Refusal}
use Rattle.fault.specs.declared.room_fault.RoomFault.{RoomFault}
use Rattle.fault.specs.declared.room_fault.RoomFault.TheVariants as room
use Rattle.fields.specs.Faults as field
use Rattle.fault.specs.Limit.{max_bytes}
use Rattle.book.specs.declared.edit_fault.EditFault.{EditFault}
use Rattle.book.specs.declared.edit_fault.EditFault.TheVariants.{TooShort, LowLimit, NoSuchPart, EarlyAboveLate, ClosesCycle}
use Rattle.book.specs.declared.script_fault.ScriptFault.{ScriptFault}
use Rattle.book.specs.declared.script_fault.ScriptFault.TheVariants.{FileTooLong, Field, Edit}

-- how a board without room is refused
abbrev pub no_room : RoomFault → EditFault
no_room room.TooShort = TooShort
no_room room.LowLimit = LowLimit

-- a cause at a place
abbrev pub refusal : Cause → ℕ → Refusal
refusal why at = record { cause = why; place = at }

-- what is no matter of a field is refused at 0
abbrev pub edit_refusal : EditFault → Refusal
edit_refusal TooShort = refusal cause.TooShort 0
edit_refusal LowLimit = refusal cause.LowLimit 0
edit_refusal (NoSuchPart at) = refusal cause.NoSuchPart at
edit_refusal (EarlyAboveLate at) = refusal cause.EarlyAboveLate at
edit_refusal (ClosesCycle at) = refusal cause.Cycle at

-- a file that is too long is refused at the first byte too many
abbrev pub script_refusal : ScriptFault → Refusal
script_refusal FileTooLong = refusal cause.FileTooLong max_bytes
script_refusal (Field d) = field.refusal_of d
script_refusal (Edit d) = edit_refusal d
