-- A table without fault names only what is there, and each part at most once.
use Rattle.std.proofs.Common.{◌≡◌, ℕ, ◌≤◌, Bool, true, false, cond, eqb, ltb, List, [], ◌∷◌, length, is_ok, Some, None, Ok, Err, Option, Result, refl, ap, ◌∙◌, ⊎_elim, arith}
use Rattle.std.specs.Option.{option_or}
use Rattle.std.specs.List.{AllByRecursion}
use Rattle.std.proofs.lemmas.Bool.{eqb-true, and_parts, cases_Bool, cond-true, cond-false, or_left, or_right}
use Rattle.fields.specs.declared.entry.Entry.{Entry}
use Rattle.fields.specs.declared.entry.Entry.TheVariants as entry
use Rattle.fields.specs.declared.faults.FieldFault.{FieldFault}
use Rattle.fault.specs.Limit.{max_bytes}
use Rattle.fields.specs.Lists.{fields}
use Rattle.fields.specs.declared.read.Placed.{Placed}
use Rattle.fields.specs.Says.{entry_of}
use Rattle.delays.specs.declared.faults.DelayFault.{DelayFault}
use Rattle.delays.specs.Outlines.{Outline, Part, Pin, Source, has, same_part}
use Rattle.delays.specs.Tables.{too_early, names_in, names, named, part_fault, said_fault, first_fault, clock_then, judged, naming}
use Rattle.delays.specs.Laws.{Fits, WellNamed, AcceptedWellNamed}

same_part_lem : (a b : Part) → same_part a b ≡ true → a ≡ b
same_part_lem (Pin g p) (Pin h q) is =
    let both = and_parts (eqb g h) (eqb p q) is in
    ap (λ (x : ℕ). Pin x p) (eqb-true g h both.0) ∙ ap (Pin h) (eqb-true p q both.1)
same_part_lem (Pin g p) (Source s) is = grind arith
same_part_lem (Source s) (Pin g p) is = grind arith
same_part_lem (Source s) (Source u) is = ap Source (eqb-true s u is)

both_none : (o r : Option DelayFault) → option_or o r ≡ None → (o ≡ None) × (r ≡ None)
both_none o r h = grind arith

part_good : (there early again : Bool) (at : ℕ) → part_fault there early again at ≡ None → (there ≡ true) × (again ≡ false)
part_good there early again at h = grind arith

module _ (outline : Outline) where
  -- a field without fault fits, and names no part that is named before
  pub record Good (before : List (Placed Entry)) (said : Result Entry FieldFault) : Type 0 where
    pub fits : Fits outline said
    pub fresh : (part : Part) → names_in said part ≡ true → named before part ≡ false

  said_good : (before : List (Placed Entry)) (at : ℕ) (said : Result Entry FieldFault) → said_fault outline before at said ≡ None → Good before said
  said_good before at (Ok (entry.Clock c)) h = grind arith
  said_good before at (Ok (entry.Delay g p t)) h =
      let good = part_good (has outline (Pin g p)) (too_early t) (named before (Pin g p)) at h in
      record { fits = good.0; fresh = λ part is. ap (named before) (same_part_lem part (Pin g p) is) ∙ good.1 }
  said_good before at (Ok (entry.Start s t)) h =
      let good = part_good (has outline (Source s)) (too_early t) (named before (Source s)) at h in
      record { fits = good.0; fresh = λ part is. ap (named before) (same_part_lem part (Source s) is) ∙ good.1 }
  said_good before at (Err d) h = grind arith

  all_fit : (before fs : List (Placed Entry)) → first_fault outline before fs ≡ None → AllByRecursion (λ f. Fits outline f.said) fs
  all_fit before [] h = tt
  all_fit before (f ∷ fs) h =
      let both = both_none (said_fault outline before f.at f.said) (first_fault outline (f ∷ before) fs) h in
      ((said_good before f.at f.said both.0).fits, all_fit (f ∷ before) fs both.1)

  module _ (part : Part) where
    -- a part that is named before is not named again
    none_again : (before fs : List (Placed Entry)) → first_fault outline before fs ≡ None → named before part ≡ true → naming fs part ≡ []
    none_again before [] h is = refl
    none_again before (f ∷ fs) h is =
        let both = both_none (said_fault outline before f.at f.said) (first_fault outline (f ∷ before) fs) h in
        ⊎_elim
        (λ (here : names f part ≡ true).
        let not-before = (said_good before f.at f.said both.0).fresh part here in
        grind arith)
        (λ (other : names f part ≡ false).
        cond-false _ _ _ other ∙ none_again (f ∷ before) fs both.1 (or_right (names f part) (named before part) is))
        (cases_Bool (names f part))

    at_most_one : (before fs : List (Placed Entry)) → first_fault outline before fs ≡ None → length (naming fs part) ≤ 1
    at_most_one before [] h = omega arith
    at_most_one before (f ∷ fs) h =
        let both = both_none (said_fault outline before f.at f.said) (first_fault outline (f ∷ before) fs) h in
        ⊎_elim
        (λ (here : names f part ≡ true).
        let none = none_again (f ∷ before) fs both.1 (or_left (names f part) (named before part) here) in
        let one : length (naming (f ∷ fs) part) ≡ 1 = ap length (cond-true _ _ _ here ∙ ap (λ (gs : List (Placed Entry)). f ∷ gs) none) in
        omega arith)
        (λ (other : names f part ≡ false).
        let rest : length (naming (f ∷ fs) part) ≡ length (naming fs part) = ap length (cond-false _ _ _ other) in
        omega (arith, at_most_one (f ∷ before) fs both.1))
        (cases_Bool (names f part))

  -- the first field of an accepted table is the clock
  pub record Led (said : Result Entry FieldFault) (fault : Option DelayFault) : Type 0 where
    pub fits : Fits outline said
    pub nameless : (part : Part) → names_in said part ≡ false
    pub good : fault ≡ None

  led : (at : ℕ) (said : Result Entry FieldFault) (fault : Option DelayFault) → is_ok (clock_then at said fault) ≡ true → Led said fault
  led at (Ok (entry.Clock c)) None h = record { fits = tt; nameless = λ part. refl; good = refl }
  led at (Ok (entry.Clock c)) (Some d) h = grind arith
  led at (Ok (entry.Delay g p t)) fault h = grind arith
  led at (Ok (entry.Start s t)) fault h = grind arith
  led at (Err d) fault h = grind arith

  sound : (fs : List (Placed Entry)) → is_ok (judged outline fs) ≡ true → WellNamed outline fs
  sound [] h = grind arith
  sound (f ∷ fs) h =
      let l = led f.at f.said (first_fault outline [] fs) h in
      record {
        fit = (l.fits, all_fit [] fs l.good);
        once = λ part.
            let rest : length (naming (f ∷ fs) part) ≡ length (naming fs part) = ap length (cond-false _ _ _ (l.nameless part)) in
            omega (arith, at_most_one part [] fs l.good);
      }

cond_ok : {A : Type 0} (b : Bool) (r : Result A DelayFault) (d : DelayFault) → is_ok (cond b (Err d) r) ≡ true → is_ok r ≡ true
cond_ok b r d h = grind arith

pub accepted_well_named : AcceptedWellNamed
accepted_well_named outline file h = sound outline (fields entry_of file) (cond_ok (ltb max_bytes (length file)) _ _ h)
