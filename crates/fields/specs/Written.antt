-- How a file writes what a field says.
use Rattle.std.specs.Prelude.{ℕ, zero, suc, ◌/◌, ◌%◌, ◌^◌, List, [], ◌∷◌, ◌++◌, length}
use Rattle.weights.specs.declared.times.Times.{Times}
use Rattle.fields.specs.declared.edit.Edit.{Edit}
use Rattle.fields.specs.declared.edit.Edit.TheVariants as edit
use Rattle.fields.specs.declared.entry.Clock.{Clock}
use Rattle.fields.specs.declared.entry.Entry.{Entry}
use Rattle.fields.specs.declared.entry.Entry.TheVariants as entry

-- a number in so many bytes, high byte first
abbrev pub bytes_of : (width : ℕ) → ℕ → List ℕ
bytes_of zero n = []
bytes_of (suc lower) n = (n / 256 ^ lower) ∷ bytes_of lower (n % 256 ^ lower)

-- tag, length and value
abbrev pub field_of : ℕ → List ℕ → List ℕ
field_of tag value = tag ∷ (bytes_of 2 (length value) ++ value)

abbrev pub four_times : Times → List ℕ
four_times t =
    bytes_of 4 t.late_rise ++ bytes_of 4 t.late_fall ++ bytes_of 4 t.early_rise ++ bytes_of 4 t.early_fall

abbrev pub three_times : Clock → List ℕ
three_times c = bytes_of 4 c.period ++ bytes_of 4 c.setup ++ bytes_of 4 c.hold

-- the field that says an entry
abbrev pub written_entry : Entry → List ℕ
written_entry (entry.Clock c) = field_of 0x01 (three_times c)
written_entry (entry.Delay g p t) = field_of 0x02 (g ∷ p ∷ four_times t)
written_entry (entry.Start s t) = field_of 0x03 (s ∷ four_times t)

-- the field that says an edit
abbrev pub written_edit : Edit → List ℕ
written_edit (edit.SetDelay g p t) = field_of 0x11 (g ∷ p ∷ four_times t)
written_edit (edit.SetStart s t) = field_of 0x12 (s ∷ four_times t)
written_edit (edit.Rewire g p f) = field_of 0x13 (g ∷ p ∷ f ∷ [])
written_edit (edit.Cut g p) = field_of 0x14 (g ∷ p ∷ [])
