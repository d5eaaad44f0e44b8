-- What a netlist's text means: a refusal, or the signals that it describes.
use Rattle.std.specs.Prelude.{ℕ, cond, List, [], ◌∷◌, map, length, Some, None, fold, filter, Option, nat_lt}
use Rattle.fault.specs.declared.cause.Cause.TheVariants.{FileTooLong, BadLine, NoDriver}
use Rattle.fault.specs.declared.refusal.Refusal.{Refusal}
use Rattle.text.specs.Text.{Piece, words, lines}
use Rattle.netlist.specs.declared.stage.Stage.{Stage}
use Rattle.netlist.specs.declared.stage.Stage.TheVariants.{Before, Body, Rows, After}
use Rattle.fault.specs.Limit.{max_bytes}
use Rattle.netlist.specs.Signals.{Signal, is_undriven}
use Rattle.netlist.specs.Faults.{State, fault, faults_of, least_of}
use Rattle.netlist.specs.Effects.{state, words_effect}

pub data Reading : Type 0 where
  refused : Refusal → Reading
  ongoing : State → Reading

abbrev pub judged : Option Refusal → State → Reading
judged None s = ongoing s
judged (Some f) s = refused f

-- a line is refused by the least of its faults, or does what it says
abbrev pub step : State → Piece → Reading
step s line = judged (least_of (faults_of s line)) (words_effect s (words line.place line.bytes))

abbrev pub step_on : Reading → Piece → Reading
step_on (refused f) line = refused f
step_on (ongoing s) line = step s line

abbrev pub read_lines : List Piece → Reading
read_lines ls = fold step_on (ongoing (state Before [])) ls

-- signals without a driver, each at its first mention
abbrev pub undriven_at : List Signal → List ℕ
undriven_at ss = map (λ (s : Signal). s.name.place) (filter (λ (s : Signal). is_undriven s.driver) ss)

pub data Verdict : Type 0 where
  refuses : Refusal → Verdict
  netlist : List Signal → Verdict

abbrev pub all_driven : List ℕ → List Signal → Verdict
all_driven [] ss = netlist ss
all_driven (p ∷ ps) ss = refuses (fault NoDriver p)

-- the end of a text of n bytes: .end was there, and each signal has a driver
abbrev pub closing : ℕ → Stage → List Signal → Verdict
closing n Before ss = refuses (fault BadLine n)
closing n Body ss = refuses (fault BadLine n)
closing n (Rows g) ss = refuses (fault BadLine n)
closing n After ss = all_driven (undriven_at ss) ss

abbrev pub finished : ℕ → Reading → Verdict
finished n (refused f) = refuses f
finished n (ongoing s) = closing n s.stage s.signals

abbrev pub read : List ℕ → Verdict
read text = cond (nat_lt max_bytes (length text)) (refuses (fault FileTooLong max_bytes)) (finished (length text) (read_lines (lines 0 text)))
