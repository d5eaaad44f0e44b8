-- How a delay table's fault is refused.
use Rattle.std.specs.Prelude.{ℕ}
use Rattle.fault.specs.declared.cause.Cause.{Cause}
use Rattle.fault.specs.declared.cause.Cause.TheVariants as cause
use Rattle.fault.specs.declared.refusal.Refusal.{Refusal}
use Rattle.fault.specs.declared.room_fault.RoomFault.{RoomFault}
use Rattle.fault.specs.declared.room_fault.RoomFault.TheVariants as room
use Rattle.fields.specs.Faults as field
use Rattle.fault.specs.Limit.{max_bytes}
use Rattle.delays.specs.declared.faults.DelayFault.{DelayFault}
use Rattle.delays.specs.declared.faults.DelayFault.TheVariants.{TooShort, LowLimit, FileTooLong, Empty, Field, NoSuchPart, EarlyAboveLate, NamedTwice}

-- how a board without room is refused
abbrev pub no_room : RoomFault → DelayFault
no_room room.TooShort = TooShort
no_room room.LowLimit = LowLimit

-- a cause at a place of the table
abbrev pub refusal : Cause → ℕ → Refusal
refusal why at = record { cause = why; place = at }

-- a file that is too long is refused at the first byte too many, and what is no matter of the file at 0
abbrev pub refusal_of : DelayFault → Refusal
refusal_of TooShort = refusal cause.TooShort 0
refusal_of LowLimit = refusal cause.LowLimit 0
refusal_of FileTooLong = refusal cause.FileTooLong max_bytes
refusal_of Empty = refusal cause.BadField 0
refusal_of (Field d) = field.refusal_of d
refusal_of (NoSuchPart at) = refusal cause.NoSuchPart at
refusal_of (EarlyAboveLate at) = refusal cause.EarlyAboveLate at
refusal_of (NamedTwice at) = refusal cause.NamedTwice at
