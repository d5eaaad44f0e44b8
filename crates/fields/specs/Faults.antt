-- How a field's fault is refused.
use Rattle.std.specs.Prelude.{ℕ}
use Rattle.fault.specs.declared.cause.Cause.TheVariants.{BadField}
use Rattle.fault.specs.declared.refusal.Refusal.{Refusal}
use Rattle.fields.specs.declared.faults.FieldFault.{FieldFault}
use Rattle.fields.specs.declared.faults.FieldFault.TheVariants.{UnknownTag, CutOff, WrongLength, Misplaced}

-- a bad field, whose tag stands at the place
abbrev pub bad_field : ℕ → Refusal
bad_field at = record { cause = BadField; place = at }

abbrev pub refusal_of : FieldFault → Refusal
refusal_of (UnknownTag at) = bad_field at
refusal_of (CutOff at) = bad_field at
refusal_of (WrongLength at) = bad_field at
refusal_of (Misplaced at) = bad_field at
