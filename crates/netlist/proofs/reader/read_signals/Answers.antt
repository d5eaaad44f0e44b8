use Rattle.std.proofs.Common.{◌≡◌, vec_items, rules}
use Rattle.netlist.specs.Reading.{netlist, read}
use Rattle.netlist.specs.Views.{signals_on}
use Rattle.netlist.proofs.Accepting.{accepted_driven, accepted_wired, accepted_latched}
use Rattle.netlist.proofs.reader.read_signals.Goals as goal

pub returns : goal.returns
returns c =
    let xs = vec_items c.into_inner.result in
    let e : netlist (signals_on c.args.text.now xs) ≡ read c.args.text.now = search rules in
    record {
      is = e;
      driven = accepted_driven c.args.text.now xs e;
      wired = accepted_wired c.args.text.now xs e;
      latched = accepted_latched c.args.text.now xs e;
    }
