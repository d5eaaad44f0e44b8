use Rattle.netlist.specs.Views.{signals_in}
use Rattle.netlist.proofs.Passes.{no_span}
use Rattle.netlist.proofs.Admitted.{known_at}
use Rattle.netlist.proofs.signals.Signals.pin_numbers.Goals as goal

pub number_of-requires : goal.number_of-requires
number_of-requires c = known_at (signals_in c.args.text.now c.args.self.now) c.args.text.now c.args.pins.now c.loop-i.i no_span c.loop-i-test.true c.requires.known
