-- What reading the field at a place of a file answers.
use Rattle.std.specs.Prelude.{◌≡◌, ℕ, ◌+◌, ◌<◌, ◌≤◌, List, ◌∷◌, ◌++◌, length, drop, IfOk, Ok, Err, Result}
use Rattle.fields.specs.declared.faults.FieldFault.{FieldFault}
use Rattle.fields.specs.Faults.{bad_field, refusal_of}
use Rattle.fields.specs.Fields.{Content, next_place, with_next}
use Rattle.fields.specs.Lists.{said_at, fields_from}
use Rattle.fields.specs.declared.read.Placed.{Placed}

-- what the field at the place says, and the place after it
abbrev pub read_at : {A : Type 0} → (Content → Result A FieldFault) → List ℕ → ℕ → Result (A × ℕ) FieldFault
read_at says file at = with_next (next_place file at) (said_at says (drop at file) at)

pub record Reads {A : Type 0} (says : Content → Result A FieldFault) (written : A → List ℕ) (file : List ℕ) (at : ℕ) (r : Result (A × ℕ) FieldFault) : Type 0 where
  pub answers : r ≡ read_at says file at
  -- the next place is behind the tag and the length, and in the file or at its end
  pub onward : IfOk r (λ p. (at + 3 ≤ p.1) × (p.1 ≤ length file))
  -- the fields from the place on are this one and those from the next place on
  pub goes : (x : A) (next : ℕ) → r ≡ Ok (x, next)
      → fields_from says at file ≡ record { at = at; said = Ok x } ∷ fields_from says next file
  -- before the file's end, a fault is what the first field from the place on lacks
  pub stops : (d : FieldFault) → r ≡ Err d → at < length file
      → (after : List (Placed A)) × (fields_from says at file ≡ record { at = at; said = Err d } ∷ after)
  -- and it is refused at the place
  pub refused : (d : FieldFault) → r ≡ Err d → refusal_of d ≡ bad_field at
  -- what is written at the place is read back
  pub back : (x : A) (more : List ℕ) → drop at file ≡ written x ++ more → r ≡ Ok (x, at + length (written x))
