-- What holds of what the fields of a file say.
use Rattle.std.proofs.Common.{◌∷◌, [], refl, ap, arith}
use Rattle.std.specs.Int.Digits.{number_from_digits}
use Rattle.std.specs.Prelude.{◌≡◌, ℕ, List, IfErr, Ok, Result}
use Rattle.weights.specs.declared.times.Times.{Times}
use Rattle.fields.specs.declared.entry.Clock.{Clock}
use Rattle.fields.specs.declared.entry.Entry.{Entry}
use Rattle.fields.specs.declared.entry.Entry.TheVariants as entry
use Rattle.fields.specs.declared.edit.Edit.{Edit}
use Rattle.fields.specs.declared.edit.Edit.TheVariants as edit
use Rattle.fields.specs.declared.faults.FieldFault.{FieldFault}
use Rattle.fields.specs.Faults.{bad_field, refusal_of}
use Rattle.fields.specs.Fields.{Content}
use Rattle.fields.specs.Says.{times_of, clock_of, entry_of, edit_of}
use Rattle.fields.specs.Written.{bytes_of, field_of, four_times, three_times, written_entry, written_edit}

-- what is written is a field that says it
pub record Said {A : Type 0} (says : Content → Result A FieldFault) (written : A → List ℕ) (x : A) : Type 0 where
  pub tag : ℕ
  pub value : List ℕ
  pub is : written x ≡ field_of tag value
  pub says_it : (at : ℕ) → says (record { at = at; tag = tag; value = value }) ≡ Ok x

pub record Form {A : Type 0} (says : Content → Result A FieldFault) (written : A → List ℕ) : Type 0 where
  -- what a field lacks is refused at its tag
  pub refused : (f : Content) → IfErr (says f) (λ d. refusal_of d ≡ bad_field f.at)
  -- what is written is read back
  pub back : (x : A) → Said says written x

word_back : (n : ℕ) → number_from_digits 256 (bytes_of 4 n) ≡ n
word_back n = omega arith

times_back : (t : Times) → times_of (four_times t) ≡ t
times_back t = simp word_back

clock_back : (c : Clock) → clock_of (three_times c) ≡ c
clock_back c = simp word_back

entry_back : (x : Entry) → Said entry_of written_entry x
entry_back (entry.Clock c) = record { tag = 0x01; value = three_times c; is = refl; says_it = λ at. ap (λ (v : Clock). Ok (entry.Clock v)) (clock_back c) }
entry_back (entry.Delay g p t) = record { tag = 0x02; value = g ∷ p ∷ four_times t; is = refl; says_it = λ at. ap (λ (v : Times). Ok (entry.Delay g p v)) (times_back t) }
entry_back (entry.Start s t) = record { tag = 0x03; value = s ∷ four_times t; is = refl; says_it = λ at. ap (λ (v : Times). Ok (entry.Start s v)) (times_back t) }

edit_back : (x : Edit) → Said edit_of written_edit x
edit_back (edit.SetDelay g p t) = record { tag = 0x11; value = g ∷ p ∷ four_times t; is = refl; says_it = λ at. ap (λ (v : Times). Ok (edit.SetDelay g p v)) (times_back t) }
edit_back (edit.SetStart s t) = record { tag = 0x12; value = s ∷ four_times t; is = refl; says_it = λ at. ap (λ (v : Times). Ok (edit.SetStart s v)) (times_back t) }
edit_back (edit.Rewire g p f) = record { tag = 0x13; value = g ∷ p ∷ f ∷ []; is = refl; says_it = λ at. refl }
edit_back (edit.Cut g p) = record { tag = 0x14; value = g ∷ p ∷ []; is = refl; says_it = λ at. refl }

pub entry_form : Form entry_of written_entry
entry_form = record { refused = λ f. grind arith; back = entry_back }

pub edit_form : Form edit_of written_edit
edit_form = record { refused = λ f. grind arith; back = edit_back }
