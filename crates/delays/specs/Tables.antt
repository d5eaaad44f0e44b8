-- What a delay table says, and when it is refused.
use Rattle.std.specs.Prelude.{ℕ, Bool, false, cond, not, ◌||◌, List, [], ◌∷◌, length, Some, None, Ok, Err, filter, Option, Result, nat_lt}
use Rattle.std.specs.Option.{option_or}
use Rattle.weights.specs.declared.times.Times.{Times}
use Rattle.fields.specs.declared.entry.Clock.{Clock}
use Rattle.fields.specs.declared.entry.Entry.{Entry}
use Rattle.fields.specs.declared.entry.Entry.TheVariants as entry
use Rattle.fields.specs.declared.faults.FieldFault.{FieldFault}
use Rattle.fields.specs.declared.faults.FieldFault.TheVariants.{Misplaced}
use Rattle.fault.specs.Limit.{max_bytes}
use Rattle.fields.specs.Lists.{fields}
use Rattle.fields.specs.declared.read.Placed.{Placed}
use Rattle.fields.specs.Says.{entry_of}
use Rattle.delays.specs.declared.faults.DelayFault.{DelayFault}
use Rattle.delays.specs.declared.faults.DelayFault.TheVariants.{FileTooLong, Empty, Field, NoSuchPart, EarlyAboveLate, NamedTwice}
use Rattle.delays.specs.Outlines.{Outline, Part, Pin, Source, has, same_part}

-- an early time is above the late one at its edge
abbrev pub too_early : Times → Bool
too_early t = nat_lt t.late_rise t.early_rise || nat_lt t.late_fall t.early_fall

-- the entry names the part
abbrev pub names_in : Result Entry FieldFault → Part → Bool
names_in (Ok (entry.Clock c)) part = false
names_in (Ok (entry.Delay g p t)) part = same_part part (Pin g p)
names_in (Ok (entry.Start s t)) part = same_part part (Source s)
names_in (Err d) part = false

abbrev pub names : Placed Entry → Part → Bool
names f part = names_in f.said part

-- some field names the part
abbrev pub named : List (Placed Entry) → Part → Bool
named [] part = false
named (f ∷ fs) part = names f part || named fs part

-- what is wrong with a part that is named: it is not there, its times cross, or it is named again
abbrev pub part_fault : (there early again : Bool) → ℕ → Option DelayFault
part_fault there early again at =
    cond (not there) (Some (NoSuchPart at)) (cond early (Some (EarlyAboveLate at)) (cond again (Some (NamedTwice at)) None))

-- what is wrong with an entry behind the clock; `again` tells the parts that are named before it
abbrev pub entry_fault : Outline → (again : Part → Bool) → ℕ → Entry → Option DelayFault
entry_fault outline again at (entry.Clock c) = Some (Field (Misplaced at))
entry_fault outline again at (entry.Delay g p t) = part_fault (has outline (Pin g p)) (too_early t) (again (Pin g p)) at
entry_fault outline again at (entry.Start s t) = part_fault (has outline (Source s)) (too_early t) (again (Source s)) at

-- what is wrong with a field behind the clock, after the fields before it
abbrev pub said_fault : Outline → (before : List (Placed Entry)) → ℕ → Result Entry FieldFault → Option DelayFault
said_fault outline before at (Ok e) = entry_fault outline (named before) at e
said_fault outline before at (Err d) = Some (Field d)

-- the first fault of the fields behind the clock
abbrev pub first_fault : Outline → (before fs : List (Placed Entry)) → Option DelayFault
first_fault outline before [] = None
first_fault outline before (f ∷ fs) = option_or (said_fault outline before f.at f.said) (first_fault outline (f ∷ before) fs)

-- the answer x, unless there is a fault
abbrev pub unless : {A : Type 0} → Option DelayFault → A → Result A DelayFault
unless None x = Ok x
unless (Some d) x = Err d

-- the first field is the clock, and the others have this first fault
abbrev pub clock_then : ℕ → Result Entry FieldFault → Option DelayFault → Result Clock DelayFault
clock_then at (Ok (entry.Clock c)) fault = unless fault c
clock_then at (Ok (entry.Delay g p t)) fault = Err (Field (Misplaced at))
clock_then at (Ok (entry.Start s t)) fault = Err (Field (Misplaced at))
clock_then at (Err d) fault = Err (Field d)

-- the clock, or the first fault from the front
abbrev pub judged : Outline → List (Placed Entry) → Result Clock DelayFault
judged outline [] = Err Empty
judged outline (f ∷ fs) = clock_then f.at f.said (first_fault outline [] fs)

-- what a file says as a delay table: its clock, or why it is refused
abbrev pub table_of : Outline → List ℕ → Result Clock DelayFault
table_of outline file = cond (nat_lt max_bytes (length file)) (Err FileTooLong) (judged outline (fields entry_of file))

-- the fields that name a part
abbrev pub naming : List (Placed Entry) → Part → List (Placed Entry)
naming fs part = filter (λ f. names f part) fs

abbrev pub no_times : Times
no_times = record { late_rise = 0; late_fall = 0; early_rise = 0; early_fall = 0 }

abbrev pub times_in : Result Entry FieldFault → Times
times_in (Ok (entry.Clock c)) = no_times
times_in (Ok (entry.Delay g p t)) = t
times_in (Ok (entry.Start s t)) = t
times_in (Err d) = no_times

abbrev pub first_times : List (Placed Entry) → Times
first_times [] = no_times
first_times (f ∷ fs) = times_in f.said

-- the times of the field that names a part, and four zeros where none does
abbrev pub part_times : List ℕ → Part → Times
part_times file part = first_times (naming (fields entry_of file) part)

abbrev pub pin_times : List ℕ → (g p : ℕ) → Times
pin_times file g p = part_times file (Pin g p)

abbrev pub source_times : List ℕ → ℕ → Times
source_times file s = part_times file (Source s)
