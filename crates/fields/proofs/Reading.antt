-- What follows from the answer of a reading.
use Rattle.std.proofs.Common.{◌≡◌, ℕ, ◌+◌, ◌<◌, ◌≤◌, List, ◌∷◌, ◌++◌, length, drop, IfOk, Ok, Err, Result, sym, refl, ap, ◌∙◌, subst, arith}
use Rattle.std.proofs.lemmas.List.{length-drop}
use Rattle.fields.specs.declared.faults.FieldFault.{FieldFault}
use Rattle.fields.specs.Fields.{Content, size_of, field_at, next_place, with_next, field_from}
use Rattle.fields.specs.Forms.{Form}
use Rattle.fields.specs.Lists.{told, said_at, fields_from}
use Rattle.fields.specs.declared.read.Placed.{Placed}
use Rattle.fields.specs.Reading.{read_at, Reads}
use Rattle.fields.proofs.Back.{back}
use Rattle.fields.proofs.Opening.{whole, cut, ok_next, err_next}
use Rattle.fields.proofs.Order.{fields_more, fields_none}
use Rattle.fields.proofs.Refused.{Refused, said_refused}

told_ok : {A : Type 0} (says : Content → Result A FieldFault) (r : Result Content FieldFault) (x : A)
    → told says r ≡ Ok x → (f : Content) × (Ok f ≡ r)
told_ok says (Ok f) x h = (f, refl)
told_ok says (Err d) x h = grind arith

module _ {A : Type 0} (says : Content → Result A FieldFault) (file : List ℕ) (at : ℕ) where
  -- a field that says something ends in the file
  pub ends : (x : A) → said_at says (drop at file) at ≡ Ok x → next_place file at ≤ length file
  ends x h =
      let o = told_ok says (field_at (drop at file) at) x h in
      let w = whole (drop at file) at o.0 o.1 in
      omega (arith, w.fits, length-drop at file)

  onward : (r : Result (A × ℕ) FieldFault) → r ≡ read_at says file at → IfOk r (λ p. (at + 3 ≤ p.1) × (p.1 ≤ length file))
  onward (Ok p) e =
      let q = ok_next (said_at says (drop at file) at) _ p.1 p.0 e in
      (omega (arith, q.1), omega (arith, q.1, ends p.0 q.0))
  onward (Err d) e = tt

  goes : (x : A) (next : ℕ) → Ok (x, next) ≡ read_at says file at
      → fields_from says at file ≡ record { at = at; said = Ok x } ∷ fields_from says next file
  goes x next e =
      let q = ok_next (said_at says (drop at file) at) _ next x e in
      let inside : at < length file = omega (arith, ends x q.0) in
      fields_more says file at inside
      ∙ (ap (λ (r : Result A FieldFault). record { at = at; said = r } ∷ fields_from says (next_place file at) file) q.0
      ∙ ap (λ (n : ℕ). record { at = at; said = Ok x } ∷ fields_from says n file) (sym q.1))

  stops : (d : FieldFault) → Err d ≡ read_at says file at → at < length file
      → (after : List (Placed A)) × (fields_from says at file ≡ record { at = at; said = Err d } ∷ after)
  stops d e inside =
      let q = err_next (said_at says (drop at file) at) _ d e in (
        fields_from says (next_place file at) file,
        fields_more says file at inside
            ∙ ap (λ (r : Result A FieldFault). record { at = at; said = r } ∷ fields_from says (next_place file at) file) q,
      )

  read_back : {written : A → List ℕ} → Form says written
      → (x : A) (more : List ℕ) → drop at file ≡ written x ++ more → read_at says file at ≡ Ok (x, at + length (written x))
  read_back {written} form x more h =
      let b = back form x more in
      ap (λ (rest : List ℕ). with_next (at + (3 + size_of rest)) (said_at says rest at)) h
      ∙ (ap (with_next (at + (3 + size_of (written x ++ more)))) (b.said at) ∙ ap (λ (n : ℕ). Ok (x, at + n)) b.size)

  -- the answer at a field that opens is what it says
  opened : (next : ℕ) (f : Content) → Ok (f, next) ≡ field_from file at
      → (said : Result A FieldFault) → said ≡ says f → with_next next said ≡ read_at says file at
  opened next f e said h =
      let p = ok_next (field_at (drop at file) at) _ next f e in
      ap (λ (n : ℕ). with_next n said) p.1
      ∙ (ap (with_next (next_place file at)) h
      ∙ ap (λ (r : Result Content FieldFault). with_next (next_place file at) (told says r)) (sym p.0))

  shut : (d : FieldFault) → Err d ≡ field_from file at → Err d ≡ read_at says file at
  shut d e =
      let q = err_next (field_at (drop at file) at) _ d e in
      sym (ap (λ (r : Result Content FieldFault). with_next (next_place file at) (told says r)) q)

-- one field more of a file
module _ {A : Type 0} (says : Content → Result A FieldFault) (file : List ℕ) (at : ℕ) (inside : at < length file) where
  pub step_open : (next : ℕ) (f : Content) → Ok (f, next) ≡ field_from file at → (said : Result A FieldFault) → said ≡ says f
      → fields_from says at file ≡ record { at = at; said = said } ∷ fields_from says next file
  step_open next f e said h =
      let p = ok_next (field_at (drop at file) at) _ next f e in
      fields_more says file at inside
      ∙ (ap (λ (r : Result Content FieldFault). record { at = at; said = told says r } ∷ fields_from says (next_place file at) file) p.0
      ∙ (ap (λ (r : Result A FieldFault). record { at = at; said = r } ∷ fields_from says (next_place file at) file) (sym h)
      ∙ ap (λ (n : ℕ). record { at = at; said = said } ∷ fields_from says n file) (sym p.1)))

  pub step_shut : (d : FieldFault) → Err d ≡ field_from file at
      → fields_from says at file ≡ record { at = at; said = Err d } ∷ fields_from says (length file) file
  step_shut d e =
      let q = err_next (field_at (drop at file) at) _ d e in
      let past : length file ≤ next_place file at = omega (arith, cut (drop at file) at d q, length-drop at file) in
      fields_more says file at inside
      ∙ (ap (λ (r : Result Content FieldFault). record { at = at; said = told says r } ∷ fields_from says (next_place file at) file) q
      ∙ ap (λ (fs : List (Placed A)). record { at = at; said = Err d } ∷ fs)
      (fields_none says file (next_place file at) past ∙ sym (fields_none says file (length file) (omega arith))))

module _ {A : Type 0} {says : Content → Result A FieldFault} {written : A → List ℕ} (form : Form says written) (file : List ℕ) (at : ℕ) where
  -- all that is promised, from the answer
  reads : (r : Result (A × ℕ) FieldFault) → r ≡ read_at says file at → Reads says written file at r
  reads r e =
      record {
        answers = e;
        onward = onward says file at r e;
        goes = λ x next h. goes says file at x next (sym h ∙ e);
        stops = λ d h inside. stops says file at d (sym h ∙ e) inside;
        refused = λ d h.
            let P : Result A FieldFault → Type 0 = λ said. Refused at said in
            subst P (err_next (said_at says (drop at file) at) _ d (sym h ∙ e)) (said_refused form at (drop at file));
        back = λ x more h. e ∙ read_back says file at form x more h;
      }

  pub reads_open : (next : ℕ) (f : Content) → Ok (f, next) ≡ field_from file at
      → (said : Result A FieldFault) → said ≡ says f → Reads says written file at (with_next next said)
  reads_open next f e said h = reads _ (opened says file at next f e said h)

  pub reads_shut : (d : FieldFault) → Err d ≡ field_from file at → Reads says written file at (Err d)
  reads_shut d e = reads _ (shut says file at d e)
