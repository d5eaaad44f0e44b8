-- The value of a gate in a setting of its pins.
use Rattle.std.specs.Prelude.{ℕ, ◌/◌, ◌%◌, ◌^◌, Bool, false, cond, not, Some, None, Option, ◌==◌}
use Rattle.network.specs.declared.gate.Gate.{Gate}

-- bit i of a number is 1
abbrev pub bit : ℕ → ℕ → Bool
bit n i = n / 2 ^ i % 2 == 1

-- the rows' last word where a row matches, and the other value elsewhere; 0 without rows
abbrev pub value_by : Option Bool → Bool → Bool
value_by (Some word) matched = cond matched word (not word)
value_by None matched = false

-- the gate's value in a setting, in whose number pin j weighs 2 ^ j
abbrev pub truth : Gate → ℕ → Bool
truth gate setting = value_by gate.last_word (bit gate.matched setting)
