use Rattle.std.proofs.Common.{arith, ltb-false, ltb-true}
use Rattle.netlist.proofs.Shapes.{end_is}
use Rattle.netlist.proofs.Numbering.{none_many}
use Rattle.netlist.proofs.state.State.read_end.Goals as goal

pub returns : goal.returns
returns c =
    let t = c.args.text.now in
    let few = none_many t c.args.self.now.signals in
    let none = end_is t c.args.rest.now (omega (arith, ltb-true, ltb-false)) in
    grind arith
