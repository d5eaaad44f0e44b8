-- A file that is cut before a field, and how many fields a file can have.
use Rattle.std.proofs.Common.{ℕ, zero, suc, ◌+◌, ◌≤◌, List, [], ◌∷◌, length, Result, arith}
use Rattle.fields.specs.declared.faults.FieldFault.{FieldFault}
use Rattle.fields.specs.Fields.{Content, size_of}
use Rattle.fields.specs.Laws.{CutBetween}
use Rattle.fields.specs.Lists.{placed, fields}
use Rattle.fields.proofs.Order.{fields_before}

pub cut_between : {A : Type 0} (says : Content → Result A FieldFault) → CutBetween says
cut_between = fields_before

-- each field has a byte of its own, its tag
few_placed : {A : Type 0} (says : Content → Result A FieldFault) (skip at : ℕ) (bytes : List ℕ)
    → length (placed says skip at bytes) ≤ length bytes
few_placed says zero at [] = omega arith
few_placed says (suc skip) at [] = omega arith
few_placed says zero at (x ∷ xs) = let h = few_placed says (2 + size_of (x ∷ xs)) (at + 1) xs in omega arith
few_placed says (suc skip) at (x ∷ xs) = let h = few_placed says skip (at + 1) xs in omega arith

pub few_fields : {A : Type 0} (says : Content → Result A FieldFault) (file : List ℕ) → length (fields says file) ≤ length file
few_fields says file = few_placed says 0 0 file
