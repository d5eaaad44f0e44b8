-- What holds of every accepted table.
use Rattle.std.specs.Prelude.{◌≡◌, ℕ, ◌≤◌, true, List, length, is_ok, Ok, Err, Result}
use Rattle.std.specs.List.{AllByRecursion}
use Rattle.fields.specs.declared.entry.Entry.{Entry}
use Rattle.fields.specs.declared.entry.Entry.TheVariants as entry
use Rattle.fields.specs.declared.faults.FieldFault.{FieldFault}
use Rattle.fields.specs.Lists.{fields}
use Rattle.fields.specs.declared.read.Placed.{Placed}
use Rattle.fields.specs.Says.{entry_of}
use Rattle.delays.specs.Outlines.{Outline, Part, Pin, Source, has}
use Rattle.delays.specs.Tables.{naming, table_of}

-- the field says the clock, or names a part that is there
abbrev pub Fits : Outline → Result Entry FieldFault → Type 0
Fits outline (Ok (entry.Clock c)) = Unit {0}
Fits outline (Ok (entry.Delay g p t)) = has outline (Pin g p) ≡ true
Fits outline (Ok (entry.Start s t)) = has outline (Source s) ≡ true
Fits outline (Err d) = ⊥

-- every field fits, and no part is named twice
pub record WellNamed (outline : Outline) (fs : List (Placed Entry)) : Type 0 where
  pub fit : AllByRecursion (λ f. Fits outline f.said) fs
  pub once : (part : Part) → length (naming fs part) ≤ 1

abbrev pub AcceptedWellNamed : Type 0
AcceptedWellNamed = (outline : Outline) (file : List ℕ) → is_ok (table_of outline file) ≡ true → WellNamed outline (fields entry_of file)
