-- What it takes for an edit to be refused or accepted.
use Rattle.std.proofs.Common.{◌≡◌, ℕ, ◌*◌, ◌≤◌, Bool, true, false, cond, not, ◌&&◌, ltb, length, Some, None, Ok, Err, Option, sym, refl, ap, ◌∙◌, arith}
use Rattle.std.proofs.lemmas.Bool.{ltb-false, not-false, or_parts, cond-false}
use Rattle.std.proofs.lemmas.Option.{none-some}
use Rattle.gauge.specs.Semirings.{Ops}
use Rattle.fields.specs.declared.edit.Edit.{Edit}
use Rattle.book.specs.declared.edit_fault.EditFault.{EditFault}
use Rattle.book.specs.declared.edit_fault.EditFault.TheVariants.{TooShort, LowLimit, NoSuchPart, EarlyAboveLate, ClosesCycle}
use Rattle.book.specs.Answers.{unless}
use Rattle.book.specs.Books.{Book}
use Rattle.book.specs.Faults.{edit_refusal}
use Rattle.book.specs.Judging.{Lent, too_short, room_fault, marks, crosses, known, closes, part_fault, judge}

pub ok-err : {A F : Type 0} {x : A} {d : F} → Ok x ≡ Err d → ⊥
ok-err h = let z : ◌≡◌ {A = ℕ} 0 1 = cc in omega arith

-- what an answer says of the fault
pub no_fault : {A F : Type 0} (o : Option F) (x y : A) → Ok x ≡ unless o y → o ≡ None
no_fault None x y h = refl
no_fault (Some d) x y h = absurd (ok-err h)

pub a_fault : {A F : Type 0} (o : Option F) (d : F) (y : A) → Err d ≡ unless o y → o ≡ Some d
a_fault None d y h = absurd (ok-err (sym h))
a_fault (Some f) d y h = cc

-- no fault, where one test may find one and then the others
pub none_parts : {F : Type 0} (b : Bool) (d : F) (o : Option F) → cond b (Some d) o ≡ None → (b ≡ false) × (o ≡ None)
none_parts true d o h = absurd (none-some d (sym h))
none_parts false d o h = (refl, h)

-- with enough room, neither test finds a fault
room_none : (strip : Bool) (l : Lent) (n : ℕ) → room_fault strip l n ≡ None → (too_short strip l n ≡ false) × (ltb l.limit n ≡ false)
room_none strip l n h =
    let short = none_parts (too_short strip l n) TooShort _ h in
    let low = none_parts (ltb l.limit n) LowLimit None short.1 in
    (short.0, low.0)

-- room enough with the strip is room enough
room_without_strip : (l : Lent) (n : ℕ) → room_fault true l n ≡ None → (b : Bool) → room_fault b l n ≡ None
room_without_strip l n h true = h
room_without_strip l n h false =
    let both = room_none true l n h in
    let tables = or_parts (ltb l.strip n) _ both.0 in
    cond-false _ _ _ tables.1 ∙ cond-false _ _ _ both.1

-- what is wrong with the parts is refused at the edit's place
parts_place : (there cross close : Bool) (at : ℕ) (d : EditFault)
    → cond (not there) (Some (NoSuchPart at)) (cond cross (Some (EarlyAboveLate at)) (cond close (Some (ClosesCycle at)) None)) ≡ Some d
    → (edit_refusal d).place ≡ at
parts_place false cross close at d h = let same : d ≡ NoSuchPart at = cc in ap (λ (x : EditFault). (edit_refusal x).place) same
parts_place true true close at d h = let same : d ≡ EarlyAboveLate at = cc in ap (λ (x : EditFault). (edit_refusal x).place) same
parts_place true false true at d h = let same : d ≡ ClosesCycle at = cc in ap (λ (x : EditFault). (edit_refusal x).place) same
parts_place true false false at d h = absurd (none-some d h)

-- what is lent has room for n signals
pub record Roomy (strip : Bool) (l : Lent) (n : ℕ) : Type 0 where
  pub strip_long : (strip && ltb l.strip n) ≡ false
  pub starts_long : n ≤ l.starts
  pub weights_long : 4 * n ≤ l.weights
  pub values_long : n ≤ l.values
  pub limit_high : n ≤ l.limit

-- what holds of an edit that the book does not refuse
pub record Admitted {V : Type 0} (r : Ops V) (book : Book V) (l : Lent) (e : Edit) : Type 0 where
  pub room : Roomy (marks e) l (length book)
  pub is_known : known r book e ≡ true
  pub uncrossed : crosses e ≡ false
  pub acyclic : closes r book e ≡ false

module _ {V : Type 0} (r : Ops V) (book : Book V) (l : Lent) (at : ℕ) (e : Edit) where
  pub admitted : judge r book l at e ≡ None → Admitted r book l e
  unfolding judge
  admitted h =
      let n = length book in
      let short = none_parts _ _ _ h in
      let low = none_parts _ _ _ short.1 in
      let unknown = none_parts _ _ _ low.1 in
      let cross = none_parts _ _ _ unknown.1 in
      let cycle = none_parts _ _ _ cross.1 in
      let strip = or_parts (marks e && ltb l.strip n) _ short.0 in
      let starts = or_parts (ltb l.starts n) _ strip.1 in
      let weights = or_parts (ltb l.weights (4 * n)) (ltb l.values n) starts.1 in
      record {
        room = record {
          strip_long = strip.0;
          starts_long = ltb-false l.starts n starts.0;
          weights_long = ltb-false l.weights (4 * n) weights.0;
          values_long = ltb-false l.values n weights.1;
          limit_high = ltb-false l.limit n low.0;
        };
        is_known = not-false (known r book e) unknown.0;
        uncrossed = cross.0;
        acyclic = cycle.0;
      }

  judge_parts : room_fault (marks e) l (length book) ≡ None → judge r book l at e ≡ part_fault r book at e
  unfolding judge
  judge_parts h =
      let both = room_none (marks e) l (length book) h in
      cond-false _ _ _ both.0 ∙ cond-false _ _ _ both.1

  -- with enough room, an edit is refused at its place
  pub judge_place : (d : EditFault) → room_fault true l (length book) ≡ None → judge r book l at e ≡ Some d → (edit_refusal d).place ≡ at
  judge_place d room h =
      let parts : part_fault r book at e ≡ Some d = sym (judge_parts (room_without_strip l (length book) room (marks e))) ∙ h in
      parts_place (known r book e) (crosses e) (closes r book e) at d parts
