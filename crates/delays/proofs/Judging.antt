-- The fields behind the clock, judged one after another.
use Rattle.std.proofs.Common.{◌≡◌, List, [], ◌∷◌, Some, None, Ok, Err, Option, Result, sym, refl, ap, ◌∙◌, subst, arith}
use Rattle.std.specs.Option.{option_or}
use Rattle.fields.specs.declared.entry.Entry.{Entry}
use Rattle.fields.specs.declared.faults.FieldFault.{FieldFault}
use Rattle.fields.specs.declared.read.Placed.{Placed}
use Rattle.delays.specs.declared.faults.DelayFault.{DelayFault}
use Rattle.delays.specs.declared.marks.Named.{Named}
use Rattle.delays.specs.Outlines.{Outline}
use Rattle.delays.specs.Tables.{entry_fault, said_fault, first_fault, unless}
use Rattle.delays.specs.Marks.{unmarked, marks, marked_with}
use Rattle.delays.proofs.Marking.{Small, Notes, noted_none, noted, same_fault}

-- the answer of code that only judges
abbrev pub verdict : Option DelayFault → Result (Unit {0}) DelayFault
verdict o = unless o tt

pub verdict_ok : (o : Option DelayFault) → Ok tt ≡ verdict o → o ≡ None
verdict_ok o h = grind arith

pub verdict_err : (o : Option DelayFault) (d : DelayFault) → Err d ≡ verdict o → o ≡ Some d
verdict_err o d h = grind arith

-- the marks are those of some fields, and all fields have the first fault that is still to come
abbrev pub Going : Outline → (all rest : List (Placed Entry)) → Named → Type 0
Going outline all rest marked =
    (before : List (Placed Entry)) × Notes outline marked before × (first_fault outline [] all ≡ first_fault outline before rest)

pub begins : {outline : Outline} → Small outline → (all : List (Placed Entry)) → Going outline all all unmarked
begins small all = ([], noted_none small, refl)

-- the next field says an entry
module _ {outline : Outline} (small : Small outline) {marked : Named} (all left : List (Placed Entry)) (going : Going outline all left marked)
    (f : Placed Entry) (rest : List (Placed Entry)) (is : left ≡ f ∷ rest) (e : Entry) (said : f.said ≡ Ok e) where
  -- the entry decides, or else what follows it
  ahead : first_fault outline [] all ≡ option_or (entry_fault outline (marks marked) f.at e) (first_fault outline (f ∷ going.0) rest)
  ahead =
      let after = first_fault outline (f ∷ going.0) rest in
      going.2 ∙ ap (first_fault outline going.0) is
      ∙ ap (λ (s : Result Entry FieldFault). option_or (said_fault outline going.0 f.at s) after) said
      ∙ ap (λ (o : Option DelayFault). option_or o after) (sym (same_fault small going.1 f.at e))

  pub goes_on : Ok tt ≡ verdict (entry_fault outline (marks marked) f.at e) → (marked' : Named) → marked' ≡ marked_with marked e
      → Going outline all rest marked'
  goes_on good marked' by =
      let none = verdict_ok (entry_fault outline (marks marked) f.at e) good in
      let P : Result Entry FieldFault → Type 0 = λ s. Notes outline (marked_with marked e) (record { at = f.at; said = s } ∷ going.0) in
      let Q : Named → Type 0 = λ m. Going outline all rest m in
      subst Q (sym by)
      (f ∷ going.0, subst P (sym said) (noted small going.1 f.at e none), ahead ∙ ap (λ (o : Option DelayFault). option_or o (first_fault outline (f ∷ going.0) rest)) none)

  -- the entry has a fault
  pub stops : (d : DelayFault) → Err d ≡ verdict (entry_fault outline (marks marked) f.at e) → Err d ≡ verdict (first_fault outline [] all)
  stops d bad =
      sym (ap verdict (ahead ∙ ap (λ (o : Option DelayFault). option_or o (first_fault outline (f ∷ going.0) rest)) (verdict_err (entry_fault outline (marks marked) f.at e) d bad)))
