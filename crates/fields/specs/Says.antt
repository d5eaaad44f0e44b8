-- What a field says in a delay table or in a script.
use Rattle.std.specs.Prelude.{ℕ, cond, List, length, drop, Ok, Err, Result, ◌==◌, slice_index}
use Rattle.weights.specs.declared.times.Times.{Times}
use Rattle.fields.specs.declared.edit.Edit.{Edit}
use Rattle.fields.specs.declared.edit.Edit.TheVariants as edit
use Rattle.fields.specs.declared.entry.Clock.{Clock}
use Rattle.fields.specs.declared.entry.Entry.{Entry}
use Rattle.fields.specs.declared.entry.Entry.TheVariants as entry
use Rattle.fields.specs.declared.faults.FieldFault.{FieldFault}
use Rattle.fields.specs.declared.faults.FieldFault.TheVariants.{WrongLength}
use Rattle.fields.specs.Fields.{Content, number_at, stray_fault}

-- four times, four bytes each
abbrev pub times_of : List ℕ → Times
times_of bytes =
    record {
      late_rise = number_at 4 0 bytes;
      late_fall = number_at 4 4 bytes;
      early_rise = number_at 4 8 bytes;
      early_fall = number_at 4 12 bytes;
    }

abbrev pub clock_of : List ℕ → Clock
clock_of bytes = record { period = number_at 4 0 bytes; setup = number_at 4 4 bytes; hold = number_at 4 8 bytes }

-- a signal's or a pin's number, in one byte of the value
abbrev pub byte : ℕ → Content → ℕ
byte place f = slice_index f.value place

-- what the field says, if its value has the length that its tag asks for
abbrev pub sized : {A : Type 0} → ℕ → Content → A → Result A FieldFault
sized size f x = cond (length f.value == size) (Ok x) (Err (WrongLength f.at))

-- what a field says in a delay table
abbrev pub entry_of : Content → Result Entry FieldFault
entry_of f =
    cond (f.tag == 0x01) (sized 12 f (entry.Clock (clock_of f.value)))
    (cond (f.tag == 0x02) (sized 18 f (entry.Delay (byte 0 f) (byte 1 f) (times_of (drop 2 f.value))))
    (cond (f.tag == 0x03) (sized 17 f (entry.Start (byte 0 f) (times_of (drop 1 f.value))))
    (Err (stray_fault f.tag f.at))))

-- what a field says in a script
abbrev pub edit_of : Content → Result Edit FieldFault
edit_of f =
    cond (f.tag == 0x11) (sized 18 f (edit.SetDelay (byte 0 f) (byte 1 f) (times_of (drop 2 f.value))))
    (cond (f.tag == 0x12) (sized 17 f (edit.SetStart (byte 0 f) (times_of (drop 1 f.value))))
    (cond (f.tag == 0x13) (sized 3 f (edit.Rewire (byte 0 f) (byte 1 f) (byte 2 f)))
    (cond (f.tag == 0x14) (sized 2 f (edit.Cut (byte 0 f) (byte 1 f)))
    (Err (stray_fault f.tag f.at)))))
