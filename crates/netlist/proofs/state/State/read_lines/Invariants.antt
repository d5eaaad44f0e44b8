use Rattle.std.proofs.Common.{◌≡◌, ◌+◌, ◌-◌, length, fold}
use Rattle.text.specs.Text.{lines}
use Rattle.text.proofs.Linewise.{lines_from}
use Rattle.netlist.specs.Outcomes.{state_on}
use Rattle.netlist.specs.Reading.{step_on, ongoing}
use Rattle.netlist.proofs.state.State.read_lines.Given as goal

abbrev pub invariant-loop-from : goal.invariant-loop-from
invariant-loop-from l = fold step_on (ongoing (state_on l.text l.self)) (lines_from l.from l.text) ≡ fold step_on (ongoing (state_on l.text l.initial.self)) (lines 0 l.text)

abbrev pub decreases-loop-from : goal.decreases-loop-from
decreases-loop-from l = length l.text + 1 - l.from
