use Rattle.std.proofs.Common.{arith}
use Rattle.netlist.proofs.Numbering.{none_many}
use Rattle.netlist.proofs.state.State.read_row.Goals as goal

pub returns-in_default : goal.returns-in_default
returns-in_default c = let few = none_many c.args.text.now c.args.self.now.signals in grind arith

pub returns-then-not-row_stands : goal.returns-then-not-row_stands
returns-then-not-row_stands c = let few = none_many c.args.text.now c.args.self.now.signals in let s = c.if-not-row_stands.ensures c.args.text.now in grind arith

pub returns : goal.returns
returns c = let few = none_many c.args.text.now c.args.self.now.signals in let s = c.if-not-row_stands.ensures c.args.text.now in let r = c.apply_row.ensures c.args.text.now in grind arith
