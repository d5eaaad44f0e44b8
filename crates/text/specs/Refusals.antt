-- What the faults of words stand for.
use Rattle.std.specs.Prelude.{ℕ, List, [], ◌∷◌, Ok, Err, Result}
use Rattle.fault.specs.declared.cause.Cause.TheVariants as cause
use Rattle.fault.specs.declared.refusal.Refusal.{Refusal}
use Rattle.text.specs.declared.word_fault.WordFault.{WordFault}
use Rattle.text.specs.declared.word_fault.WordFault.TheVariants.{BadByte, LongName}

abbrev pub refusal_of : WordFault → Refusal
refusal_of (BadByte p) = record { cause = cause.BadByte; place = p }
refusal_of (LongName p) = record { cause = cause.LongName; place = p }

-- a fault at the first of these places, or none where there are no places
abbrev pub refusing : {F : Type 0} → (ℕ → F) → List ℕ → Result (Unit {0}) F
refusing f [] = Ok tt
refusing f (p ∷ ps) = Err (f p)
