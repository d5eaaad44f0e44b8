use Rattle.std.proofs.Common.{vec_items, ap, ◌∙◌}
use Rattle.netlist.specs.Views.{signal_on, change_on}
use Rattle.netlist.proofs.Mentions.{change_here}
use Rattle.netlist.proofs.signals.Signals.change_named.Goals as goal

pub returns-in-Some : goal.returns-in-Some
returns-in-Some c =
    let t = c.args.text.now in
    change_here t (vec_items c.args.self.now.items) c.args.name (change_on t c.args.change) c.in-Some.number c.changed.result c.index.result.now c.in-Some.ensures
    (c.changed.ensures t ∙ ap (λ s. change_on t c.args.change (signal_on t s)) c.index.ensures)
