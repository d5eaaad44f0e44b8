use Rattle.std.proofs.Common.{◌*◌, arith, rules}
use Rattle.gauge.specs.Matrix.{edge_ops}
use Rattle.network.specs.Net.{size}
use Rattle.fields.specs.Lists.{fields}
use Rattle.fields.specs.Says.{entry_of}
use Rattle.delays.specs.Outlines.{outline_of}
use Rattle.delays.specs.Tables.{no_times}
use Rattle.delays.proofs.Accepting.{accepted_well_named}
use Rattle.opening.specs.Cells.{start_at, weight_in}
use Rattle.opening.proofs.Filling.{starts_filled, weights_filled}
use Rattle.opening.proofs.Tabling.{table_by}
use Rattle.opening.proofs.fill.fill.Goals as goal

pub returns : goal.returns
returns g c =
    let r = g.G.Semiring.ops in
    let delays = g.G.Gauge.delays in
    let net = c.args.network.now in
    let none = (edge_ops r).zero in
    let well = accepted_well_named (outline_of net) c.args.file.now c.requires.accepted in
    let starts = table_by (λ s. start_at r delays net s no_times) (size net) c.size-signals.result c.args.starts.now c.fill_table.new.cells none c.size-signals.ensures.is c.requires.starts_long c.fill_table.ensures.long
    (λ i h. let e = c.fill_table.ensures.each i none h in search rules) in
    let weights = table_by (λ i. weight_in r delays net i no_times) (4 * size net) (4 * c.size-signals.result) c.args.weights.now c.fill_table-2.new.cells none (omega (arith, c.size-signals.ensures.is)) c.requires.weights_long c.fill_table-2.ensures.long
    (λ i h. let e = c.fill_table-2.ensures.each i none h in search rules) in
    record {
      starts = starts_filled r delays net none (fields entry_of c.args.file.now) well c.args.starts.now _ c.fill_entries.new.starts c.requires.starts_long starts c.fill_entries.ensures.starts;
      weights = weights_filled r delays net none (fields entry_of c.args.file.now) well c.args.weights.now _ c.fill_entries.new.weights c.requires.weights_long weights c.fill_entries.ensures.weights;
    }
