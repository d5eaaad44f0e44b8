-- What is written is read back.
use Rattle.std.proofs.Common.{◌≡◌, ℕ, ◌+◌, ◌<◌, ◌≤◌, List, [], ◌∷◌, ◌++◌, map, length, drop, Ok, Result, sym, refl, ap, ◌∙◌, subst, ap₂, arith, le-leb}
use Rattle.std.specs.List.{flat_map}
use Rattle.std.proofs.lemmas.List.{take_at, drop_at, length-append}
use Rattle.std.proofs.lemmas.Bool.{cond-true}
use Rattle.fields.specs.declared.faults.FieldFault.{FieldFault}
use Rattle.fields.specs.Fields.{Content, size_of, field_at}
use Rattle.fields.specs.Laws.{ReadBack}
use Rattle.fields.specs.Lists.{told, said_at, placed}
use Rattle.fields.proofs.Order.{front}
use Rattle.fields.specs.Forms.{Form}
use Rattle.fields.specs.Written.{field_of}

-- the bytes of a field that says x, before other bytes, and its length
pub record Back {A : Type 0} (says : Content → Result A FieldFault) (bytes more : List ℕ) (x : A) : Type 0 where
  pub said : (at : ℕ) → said_at says (bytes ++ more) at ≡ Ok x
  pub size : 3 + size_of (bytes ++ more) ≡ length bytes

size_back : (tag : ℕ) (value more : List ℕ) → size_of (field_of tag value ++ more) ≡ length value
size_back tag value more = omega arith

opens : (tag : ℕ) (value more : List ℕ) (at : ℕ)
    → field_at (field_of tag value ++ more) at ≡ Ok (record { at = at; tag = tag; value = value })
opens tag value more at =
    let size = size_back tag value more in
    let long : 3 + size_of (field_of tag value ++ more) ≤ length (field_of tag value ++ more) = omega (arith, size, length-append value more) in
    cond-true _ _ _ (le-leb _ _ long)
    ∙ ap (λ (v : List ℕ). Ok (record { at = at; tag = tag; value = v })) (take_at value more _ (sym size))

field_back : {A : Type 0} (says : Content → Result A FieldFault) (tag : ℕ) (value more : List ℕ) (x : A)
    → ((at : ℕ) → says (record { at = at; tag = tag; value = value }) ≡ Ok x) → Back says (field_of tag value) more x
field_back says tag value more x e =
    record {
      said = λ at. ap (told says) (opens tag value more at) ∙ e at;
      size = omega (arith, size_back tag value more);
    }

pub back : {A : Type 0} {says : Content → Result A FieldFault} {written : A → List ℕ} → Form says written → (x : A) (more : List ℕ)
    → Back says (written x) more x
back {says = says} form x more =
    let b = form.back x in
    let P : List ℕ → Type 0 = λ bytes. Back says bytes more x in
    subst P (sym b.is) (field_back says b.tag b.value more x b.says_it)

-- and so is a whole file
written_back : {A : Type 0} {says : Content → Result A FieldFault} {written : A → List ℕ} → Form says written → (at : ℕ) (xs : List A)
    → map (λ f. f.said) (placed says 0 at (flat_map written xs)) ≡ map Ok xs
written_back form at [] = refl
written_back {says = says} {written = written} form at (x ∷ xs) =
    let more = flat_map written xs in
    let bytes = written x ++ more in
    let b = back form x more in
    let some : 0 < length bytes = omega (arith, b.size, length-append (written x) more) in
    let behind : drop (3 + size_of bytes) bytes ≡ more = ap (λ (n : ℕ). drop n bytes) b.size ∙ drop_at (written x) more _ refl in
    ap (map (λ f. f.said)) (front says bytes at some)
    ∙ ap₂ ◌∷◌ (b.said at)
    (ap (λ (rest : List ℕ). map (λ f. f.said) (placed says 0 (at + (3 + size_of bytes)) rest)) behind ∙ written_back form (at + (3 + size_of bytes)) xs)

pub read_back : {A : Type 0} {says : Content → Result A FieldFault} {written : A → List ℕ} → Form says written → ReadBack says written
read_back form xs = written_back form 0 xs
