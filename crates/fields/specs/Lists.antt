-- The fields of a file, one after another. `says` is what a field says in such a file.
use Rattle.std.specs.Prelude.{ℕ, zero, suc, ◌+◌, List, [], ◌∷◌, drop, Ok, Err, Result}
use Rattle.fields.specs.declared.faults.FieldFault.{FieldFault}
use Rattle.fields.specs.declared.read.Fields.{Fields}
use Rattle.fields.specs.declared.read.Placed.{Placed}
use Rattle.fields.specs.Fields.{Content, size_of, field_at}

-- what an opened field says, or what it lacks
abbrev pub told : {A : Type 0} → (Content → Result A FieldFault) → Result Content FieldFault → Result A FieldFault
told says (Ok f) = says f
told says (Err d) = Err d

-- what the field at the front of the bytes says, whose place is `at`
abbrev pub said_at : {A : Type 0} → (Content → Result A FieldFault) → List ℕ → ℕ → Result A FieldFault
said_at says bytes at = told says (field_at bytes at)

-- the fields in the bytes from the place `at` on, of which the first `skip` belong to the field before
abbrev pub placed : {A : Type 0} → (Content → Result A FieldFault) → (skip at : ℕ) → List ℕ → List (Placed A)
placed says skip at [] = []
placed says zero at (x ∷ xs) =
    record { at = at; said = said_at says (x ∷ xs) at } ∷ placed says (2 + size_of (x ∷ xs)) (at + 1) xs
placed says (suc skip) at (x ∷ xs) = placed says skip (at + 1) xs

-- the fields of a file from a place on; one that is cut off is the last
abbrev pub fields_from : {A : Type 0} → (Content → Result A FieldFault) → ℕ → List ℕ → List (Placed A)
fields_from says at file = placed says 0 at (drop at file)

-- all fields of a file
abbrev pub fields : {A : Type 0} → (Content → Result A FieldFault) → List ℕ → List (Placed A)
fields says file = fields_from says 0 file

-- the fields that are still to come
abbrev pub rest : {A : Type 0} → (Content → Result A FieldFault) → Fields A → List (Placed A)
rest says s = fields_from says s.at s.file.now
