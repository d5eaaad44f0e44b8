use Rattle.std.proofs.Common.{◌∙◌, arith}
use Rattle.text.proofs.Linewise.{end_within, line_next}
use Rattle.netlist.specs.Outcomes.{refusal_of, state_on}
use Rattle.netlist.proofs.Bodies.{carried}
use Rattle.netlist.proofs.Stepwise.{lines_refused, lines_on}
use Rattle.netlist.proofs.state.State.read_lines.Goals as goal

pub overflow_add-from : goal.overflow_add-from
overflow_add-from c = omega (arith, c.requires, end_within c.args.text.now c.loop-from.from c.line_end-end.result c.loop-from-test.true c.line_end-end.ensures)

pub loop-from-preserved : goal.loop-from-preserved
loop-from-preserved c = lines_on (state_on c.args.text.now c.loop-from.self) _ _ _ _ (line_next c.args.text.now c.loop-from.from c.line_end-end.result c.loop-from-test.true c.line_end-end.ensures) c.loop-from.invariant _ c.in_ok-read_line.ensures

pub returns-in_err-read_line : goal.returns-in_err-read_line
returns-in_err-read_line c =
    carried c.args.text.now c.read_line.new.self c.from_residual.result c.in_err-read_line.field-0.0 c.from_residual.ensures.0 c.from_residual.ensures.1
    ∙ lines_refused (state_on c.args.text.now c.loop-from.self) _ _ _ _ (line_next c.args.text.now c.loop-from.from c.line_end-end.result c.loop-from-test.true c.line_end-end.ensures) c.loop-from.invariant (refusal_of c.in_err-read_line.field-0.0) c.in_err-read_line.ensures
