-- What a field lacks is refused at its tag.
use Rattle.std.proofs.Common.{◌≡◌, ℕ, zero, suc, ◌+◌, List, [], ◌∷◌, drop, All, IfErr, Ok, Err, Result, refl, subst, arith}
use Rattle.std.specs.List.{AllByRecursion}
use Rattle.std.proofs.lemmas.List.Elements.{All-from_recursion}
use Rattle.fields.specs.declared.faults.FieldFault.{FieldFault}
use Rattle.fields.specs.Faults.{bad_field, refusal_of}
use Rattle.fields.specs.Fields.{Content, size_of, field_at}
use Rattle.fields.specs.Forms.{Form}
use Rattle.fields.specs.Lists.{told, said_at, placed, fields_from}
use Rattle.fields.specs.declared.read.Placed.{Placed}
use Rattle.fields.proofs.Opening.{whole}

-- a fault in the answer is refused at the place
abbrev pub Refused : {A : Type 0} → (at : ℕ) → Result A FieldFault → Type 0
Refused at r = IfErr r (λ d. refusal_of d ≡ bad_field at)

module _ {A : Type 0} {says : Content → Result A FieldFault} {written : A → List ℕ} (form : Form says written) (at : ℕ) where
  told_refused : (r : Result Content FieldFault) → Refused at r → ((f : Content) → Ok f ≡ r → f.at ≡ at) → Refused at (told says r)
  told_refused (Ok f) p place = let P : ℕ → Type 0 = λ n. Refused n (says f) in subst P (place f refl) (form.refused f)
  told_refused (Err d) p place = p

  shut_refused : (bytes : List ℕ) → Refused at (field_at bytes at)
  shut_refused bytes = grind arith

  pub said_refused : (bytes : List ℕ) → Refused at (said_at says bytes at)
  said_refused bytes = told_refused (field_at bytes at) (shut_refused bytes) (λ f e. (whole bytes at f e).place)

-- and so is what each field from a place of a file on lacks
module _ {A : Type 0} {says : Content → Result A FieldFault} {written : A → List ℕ} (form : Form says written) where
  abbrev RefusedThere : Placed A → Type 0
  RefusedThere f = Refused f.at f.said

  pub placed_refused : (skip at : ℕ) (bytes : List ℕ) → AllByRecursion RefusedThere (placed says skip at bytes)
  placed_refused zero at [] = tt
  placed_refused (suc skip) at [] = tt
  placed_refused zero at (x ∷ xs) = (said_refused form at (x ∷ xs), placed_refused (2 + size_of (x ∷ xs)) (at + 1) xs)
  placed_refused (suc skip) at (x ∷ xs) = placed_refused skip (at + 1) xs

  pub fields_refused : (file : List ℕ) (at : ℕ) → All RefusedThere (fields_from says at file)
  fields_refused file at = All-from_recursion RefusedThere (fields_from says at file) (placed_refused 0 at (drop at file))
