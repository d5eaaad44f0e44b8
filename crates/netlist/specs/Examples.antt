-- Small texts and what they read as.
use Rattle.std.specs.Prelude.{◌≡◌, ℕ, ◌%◌, Bool, true, false, [], ◌∷◌, map, Some, codes, nat_eq}
use Prim.Native.String.{String}
use Rattle.fault.specs.declared.cause.Cause.TheVariants.{BadByte, BadLine, LongName, TooManyPins, BadRow, SecondDriver, NoDriver}
use Rattle.text.specs.Text.{piece}
use Rattle.rows.specs.Rows.{Cover, settings}
use Rattle.netlist.specs.Faults.{fault}
use Rattle.netlist.specs.Reading.{Verdict, read, refuses, netlist}
use Rattle.netlist.specs.Signals.{input, gates}

-- rows that end in 1 and match these settings
abbrev pub one_in : (ℕ → Bool) → Cover
one_in p = record { value = Some true; matched = map p settings }

-- an and gate into an inverter: a, b, y and n are 0, 1, 2 and 3; n is 1 where both pins are, y where its pin is 0
abbrev pub BoardK : Type 0
BoardK =
    read (codes ".model k\n.inputs a b\n.outputs y\n.names a b n\n11 1\n.names n y\n0 1\n.end\n")
    ≡ netlist
    (record { name = piece 17 (codes "a"); driver = input; output = false; captured = false }
    ∷ record { name = piece 19 (codes "b"); driver = input; output = false; captured = false }
    ∷ record { name = piece 30 (codes "y"); driver = gates (3 ∷ []) (one_in (λ s. nat_eq (s % 2) 0)); output = true; captured = false }
    ∷ record { name = piece 43 (codes "n"); driver = gates (0 ∷ 1 ∷ []) (one_in (λ s. nat_eq (s % 4) 3)); output = false; captured = false }
    ∷ [])

abbrev read_text : String → Verdict
read_text s = read (codes s)

-- one text for each cause but the largest two; of two faults in a line the smaller number is named, and then the leftmost place
abbrev pub Refusals : Type 0
Refusals =
    (read_text ".model m\n.inputs a\\\n.end" ≡ refuses (fault BadByte 18))
    × (read_text ".model m\n" ≡ refuses (fault BadLine 9))
    × (read_text ".model m\n.inputs abcdefghijklmnopqrstuvwxyz0123456\n.end" ≡ refuses (fault LongName 17))
    × (read_text ".model m\n.names a b c d e abcdefghijklmnopqrstuvwxyz0123456\n" ≡ refuses (fault LongName 26))
    × (read_text ".model m\n.names a b c d e f\n" ≡ refuses (fault TooManyPins 9))
    × (read_text "1 1\n.model m" ≡ refuses (fault BadRow 0))
    × (read_text ".model m\n.inputs a b b a\n.end" ≡ refuses (fault SecondDriver 21))
    × (read_text ".model m\n.outputs z\n.end" ≡ refuses (fault NoDriver 18))
