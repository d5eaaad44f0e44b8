-- The fields from a place of a file on.
use Rattle.std.proofs.Common.{◌≡◌, ℕ, ◌+◌, ◌<◌, List, ◌∷◌, ◌++◌, length, drop, Ok, Result, ap, ◌∙◌, arith}
use Rattle.std.proofs.lemmas.List.{length-append, length-drop}
use Rattle.fields.specs.declared.faults.FieldFault.{FieldFault}
use Rattle.fields.specs.Fields.{Content, size_of, next_place}
use Rattle.fields.specs.Forms.{Form}
use Rattle.fields.specs.Laws.{ReadInPlace}
use Rattle.fields.specs.Lists.{said_at, fields_from}
use Rattle.fields.proofs.Back.{back}
use Rattle.fields.proofs.Order.{fields_more}
use Rattle.fields.proofs.Reading.{ends}
use Rattle.fields.proofs.Refused.{fields_refused}

module _ {A : Type 0} {says : Content → Result A FieldFault} {written : A → List ℕ} (form : Form says written) where
  read_there : (x : A) (file more : List ℕ) (at : ℕ) → drop at file ≡ written x ++ more
      → fields_from says at file ≡ record { at = at; said = Ok x } ∷ fields_from says (at + length (written x)) file
  read_there x file more at h =
      let b = back form x more in
      let inside : at < length file = omega (arith, b.size, length-append (written x) more, length-drop at file, ap length h) in
      let said : said_at says (drop at file) at ≡ Ok x = ap (λ (bytes : List ℕ). said_at says bytes at) h ∙ b.said at in
      let next : next_place file at ≡ at + length (written x) = ap (λ (bytes : List ℕ). at + (3 + size_of bytes)) h ∙ ap (λ (n : ℕ). at + n) b.size in
      fields_more says file at inside
      ∙ (ap (λ (r : Result A FieldFault). record { at = at; said = r } ∷ fields_from says (next_place file at) file) said
      ∙ ap (λ (n : ℕ). record { at = at; said = Ok x } ∷ fields_from says n file) next)

  pub read_in_place : ReadInPlace says written
  read_in_place = record {
    goes = fields_more says;
    onward = λ file at x h. (omega arith, ends says file at x h);
    back = read_there;
    refused = fields_refused form;
  }
