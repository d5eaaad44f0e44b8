use Rattle.std.proofs.Common.{vec_items, refl, sym, ap, ◌∙◌, arith}
use Rattle.rows.specs.Views.{row_on}
use Rattle.netlist.specs.Effects.{add_row, row_at}
use Rattle.netlist.specs.Views.{signal_on, signals_in}
use Rattle.netlist.proofs.Mentions.{changed_at}
use Rattle.netlist.proofs.signals.Signals.apply_row.Goals as goal

pub returns-in-Some : goal.returns-in-Some
returns-in-Some c t =
    changed_at t (vec_items c.args.self.now.items) c.in-Rows.g (add_row (row_on c.args.row)) c.add_row.result c.in-Some.signal.now (omega (arith, c.in-Some.ensures.variant.0 refl, c.args.self.now.items.ok.0))
    (c.add_row.ensures t ∙ ap (λ s. add_row (row_on c.args.row) (signal_on t s)) c.in-Some.ensures.value)
    ∙ ap (λ s. row_at s (signals_in t c.args.self.now) (row_on c.args.row)) (sym c.in-Rows.is)
