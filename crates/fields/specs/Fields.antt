-- A field: a one-byte tag, a two-byte length, and that many bytes.
use Rattle.std.specs.Prelude.{ℕ, ◌+◌, Bool, cond, ◌&&◌, ◌||◌, List, length, take, drop, Ok, Err, Result, nat_le, slice_index}
use Rattle.std.specs.Int.Digits.{number_from_digits}
use Rattle.fields.specs.declared.faults.FieldFault.{FieldFault}
use Rattle.fields.specs.declared.faults.FieldFault.TheVariants.{UnknownTag, CutOff, Misplaced}
use Rattle.fields.specs.declared.field.Field.{Field}

-- a field as bytes, with the place of its tag
pub record Content : Type 0 where
  pub at : ℕ
  pub tag : ℕ
  pub value : List ℕ

abbrev pub content_of : Field → Content
content_of f = record { at = f.at; tag = f.tag; value = f.value.now }

-- the number in so many bytes from a place on, high byte first
abbrev pub number_at : (width place : ℕ) → List ℕ → ℕ
number_at width place bytes = number_from_digits 256 (take width (drop place bytes))

-- the length that stands after the tag
abbrev pub size_of : List ℕ → ℕ
size_of bytes = number_at 2 1 bytes

-- the field at the front of the bytes, whose place is `at`, if it is whole
abbrev pub field_at : List ℕ → ℕ → Result Content FieldFault
field_at bytes at =
    cond (nat_le (3 + size_of bytes) (length bytes))
    (Ok (record { at = at; tag = slice_index bytes 0; value = take (size_of bytes) (drop 3 bytes) }))
    (Err (CutOff at))

-- the place after the field at a place
abbrev pub next_place : List ℕ → ℕ → ℕ
next_place file at = at + (3 + size_of (drop at file))

-- an answer together with a next place
abbrev pub with_next : {A : Type 0} → ℕ → Result A FieldFault → Result (A × ℕ) FieldFault
with_next next (Ok x) = Ok (x, next)
with_next next (Err d) = Err d

-- the field at a place of a file, and the place after it
abbrev pub field_from : List ℕ → ℕ → Result (Content × ℕ) FieldFault
field_from file at = with_next (next_place file at) (field_at (drop at file) at)

-- answers of the code, with their fields as bytes
abbrev pub seen : Result Field FieldFault → Result Content FieldFault
seen (Ok f) = Ok (content_of f)
seen (Err d) = Err d

abbrev pub seen_next : Result (Field × ℕ) FieldFault → Result (Content × ℕ) FieldFault
seen_next (Ok p) = Ok (content_of p.0, p.1)
seen_next (Err d) = Err d

-- the tags of the delay table and of the script
abbrev pub is_tag : ℕ → Bool
is_tag tag = (nat_le 0x01 tag && nat_le tag 0x03) || (nat_le 0x11 tag && nat_le tag 0x14)

-- a tag that its file does not have: one of the other file is misplaced
abbrev pub stray_fault : (tag at : ℕ) → FieldFault
stray_fault tag at = cond (is_tag tag) (Misplaced at) (UnknownTag at)
