-- Fields that are opened at a place.
use Rattle.std.proofs.Common.{◌≡◌, ℕ, ◌+◌, ◌≤◌, leb, List, length, get_or, take, drop, Ok, Err, Result, ap, ◌∙◌, ⊎_elim, arith, leb-true}
use Rattle.std.proofs.lemmas.List.{length-take-le, length-drop}
use Rattle.std.proofs.lemmas.Bool.{cond-true, cond-false, cases_Bool}
use Rattle.fields.specs.declared.faults.FieldFault.{FieldFault}
use Rattle.fields.specs.declared.faults.FieldFault.TheVariants.{CutOff}
use Rattle.fields.specs.Fields.{Content, size_of, field_at, with_next}

-- a field that opens has its place and is as long as it says, and the bytes hold it
pub record Whole (bytes : List ℕ) (at : ℕ) (f : Content) : Type 0 where
  pub place : f.at ≡ at
  pub size : length f.value ≡ size_of bytes
  pub fits : 3 + size_of bytes ≤ length bytes

pub whole : (bytes : List ℕ) (at : ℕ) (f : Content) → Ok f ≡ field_at bytes at → Whole bytes at f
whole bytes at f e =
    ⊎_elim
    (λ t.
    let le : 3 + size_of bytes ≤ length bytes = leb-true _ _ t in
    let fits : size_of bytes ≤ length (drop 3 bytes) = simp length-drop (omega arith) in
    let front : Content = record { at = at; tag = get_or bytes 0 0; value = take (size_of bytes) (drop 3 bytes) } in
    let opened : field_at bytes at ≡ Ok front = cond-true _ _ _ t in
    let is : f ≡ front = cc in
    record {
      place = ap (λ (g : Content). g.at) is;
      size = ap (λ (g : Content). length g.value) is ∙ length-take-le _ _ fits;
      fits = le;
    })
    (λ n.
    let shut : field_at bytes at ≡ Err (CutOff at) = cond-false _ _ _ n in
    grind arith)
    (cases_Bool (leb (3 + size_of bytes) (length bytes)))

-- a field that does not open is longer than the bytes
pub cut : (bytes : List ℕ) (at : ℕ) (d : FieldFault) → field_at bytes at ≡ Err d → length bytes ≤ 3 + size_of bytes
cut bytes at d e = grind arith

-- an answer with a next place, taken apart
pub ok_next : {A : Type 0} (r : Result A FieldFault) (n next : ℕ) (x : A) → Ok (x, next) ≡ with_next n r
    → (r ≡ Ok x) × (next ≡ n)
ok_next r n next x h = grind arith

pub err_next : {A : Type 0} (r : Result A FieldFault) (n : ℕ) (d : FieldFault) → Err d ≡ with_next n r → r ≡ Err d
err_next r n d h = grind arith
