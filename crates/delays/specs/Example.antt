-- The delay table of a small board, and tables that it refuses: inputs 0 and 1, a gate 3 of both, and a gate 2 of gate 3.
use Rattle.std.specs.Prelude.{◌≡◌, ℕ, cond, List, [], ◌∷◌, ◌++◌, map, take, Ok, Err, Result, ◌==◌, nat_lt}
use Rattle.std.specs.List.{flat_map}
use Rattle.fault.specs.Causes.{number_of}
use Rattle.weights.specs.declared.times.Times.{Times}
use Rattle.fields.specs.declared.entry.Clock.{Clock}
use Rattle.fields.specs.declared.entry.Entry.{Entry}
use Rattle.fields.specs.declared.entry.Entry.TheVariants as entry
use Rattle.fields.specs.Written.{written_entry}
use Rattle.delays.specs.declared.faults.DelayFault.{DelayFault}
use Rattle.delays.specs.Faults.{refusal_of}
use Rattle.delays.specs.Outlines.{Outline}
use Rattle.delays.specs.Tables.{table_of, pin_times, source_times, no_times}

abbrev board : Outline
board = record { signals = 4; pins = λ s. cond (s == 2) 1 (cond (s == 3) 2 0); source = λ s. nat_lt s 2 }

abbrev times : ℕ → ℕ → ℕ → ℕ → Times
times a b c d = record { late_rise = a; late_fall = b; early_rise = c; early_fall = d }

abbrev clock : Entry
clock = entry.Clock (record { period = 1000; setup = 50; hold = 20 })

-- a delay and a start of no time, and ones whose early fall is above the late fall
abbrev delay : ℕ → ℕ → Entry
delay g p = entry.Delay g p no_times

abbrev start : ℕ → Entry
start s = entry.Start s no_times

abbrev crossed : ℕ → ℕ → Entry
crossed g p = entry.Delay g p (times 9 9 9 10)

abbrev file : List Entry → List ℕ
file es = flat_map written_entry es

abbrev table : List ℕ
table = file (clock ∷ entry.Delay 3 0 (times 120 100 80 70) ∷ entry.Delay 3 1 (times 150 140 90 85) ∷ entry.Delay 2 0 (times 60 40 30 25) ∷ [])

-- the number and the place of a refusal
abbrev refused : Result Clock DelayFault → ℕ × ℕ
refused (Ok c) = (0, 0)
refused (Err d) = (number_of (refusal_of d).cause, (refusal_of d).place)

-- no field; cut off; no clock; two clocks; a script's tag; a wrong length; no such pin, source or signal; 13; 13 before 14; 14, twice
abbrev wrong : List (List ℕ)
wrong =
    [] ∷ take 77 table ∷ file (delay 3 0 ∷ []) ∷ file (clock ∷ clock ∷ []) ∷ (file (clock ∷ []) ++ (0x11 ∷ 0 ∷ 0 ∷ []))
    ∷ (file (clock ∷ []) ++ (0x02 ∷ 0 ∷ 1 ∷ 9 ∷ [])) ∷ file (clock ∷ crossed 2 1 ∷ []) ∷ file (clock ∷ start 3 ∷ []) ∷ file (clock ∷ delay 4 0 ∷ [])
    ∷ file (clock ∷ crossed 3 0 ∷ []) ∷ file (clock ∷ delay 3 0 ∷ crossed 3 0 ∷ [])
    ∷ file (clock ∷ delay 3 0 ∷ delay 3 1 ∷ delay 3 0 ∷ []) ∷ file (clock ∷ start 1 ∷ start 0 ∷ start 1 ∷ []) ∷ []

pub record JudgedSo : Type 0 where
  pub accepted : table_of board table ≡ Ok (record { period = 1000; setup = 50; hold = 20 })
  pub named : pin_times table 3 1 ≡ times 150 140 90 85
  pub unnamed : source_times table 0 ≡ no_times
  pub refusals : map (λ f. refused (table_of board f)) wrong
      ≡ (11, 0) ∷ (11, 57) ∷ (11, 0) ∷ (11, 15) ∷ (11, 15) ∷ (11, 15) ∷ (12, 15) ∷ (12, 15) ∷ (12, 15) ∷ (13, 15) ∷ (13, 36) ∷ (14, 57) ∷ (14, 55) ∷ []
