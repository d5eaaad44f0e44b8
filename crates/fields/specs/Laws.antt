-- What holds of the fields of every file.
use Rattle.std.specs.Prelude.{◌≡◌, ℕ, ◌+◌, ◌<◌, ◌≤◌, List, ◌∷◌, ◌++◌, All, map, length, take, drop, IfErr, Ok, Result}
use Rattle.std.specs.List.{flat_map}
use Rattle.fields.specs.declared.faults.FieldFault.{FieldFault}
use Rattle.fields.specs.Faults.{bad_field, refusal_of}
use Rattle.fields.specs.Fields.{Content, next_place}
use Rattle.fields.specs.Lists.{said_at, fields_from, fields}
use Rattle.fields.specs.declared.read.Placed.{Placed}

-- the fields before one are the fields of the bytes before its tag
abbrev pub CutBetween : {A : Type 0} → (Content → Result A FieldFault) → Type 0
CutBetween {A} says = (file : List ℕ) (before after : List (Placed A)) (f : Placed A)
    → fields says file ≡ before ++ (f ∷ after) → fields says (take f.at file) ≡ before

-- the fields of a file that is written value by value say these values, in order
abbrev pub ReadBack : {A : Type 0} → (Content → Result A FieldFault) → (A → List ℕ) → Type 0
ReadBack {A} says written = (xs : List A) → map (λ f. f.said) (fields says (flat_map written xs)) ≡ map Ok xs

-- the fields from any place of a file on: where each stands, what it says or lacks, and where the next begins
pub record ReadInPlace {A : Type 0} (says : Content → Result A FieldFault) (written : A → List ℕ) : Type 0 where
  -- before the file's end, the first is what the field at the place says or lacks, and the others are those from the next place on
  pub goes : (file : List ℕ) (at : ℕ) → at < length file
      → fields_from says at file ≡ record { at = at; said = said_at says (drop at file) at } ∷ fields_from says (next_place file at) file
  -- where it says something, the next place is behind the tag and the length, and in the file or at its end
  pub onward : (file : List ℕ) (at : ℕ) (x : A) → said_at says (drop at file) at ≡ Ok x
      → (at + 3 ≤ next_place file at) × (next_place file at ≤ length file)
  -- a written value is read where it stands, whatever bytes stand before and behind it, and the next field begins behind it
  pub back : (x : A) (file more : List ℕ) (at : ℕ) → drop at file ≡ written x ++ more
      → fields_from says at file ≡ record { at = at; said = Ok x } ∷ fields_from says (at + length (written x)) file
  -- each field that can't be read is refused as a bad field at its tag
  pub refused : (file : List ℕ) (at : ℕ) → All (λ f. IfErr f.said (λ d. refusal_of d ≡ bad_field f.at)) (fields_from says at file)
