use Rattle.book.proofs.Stopping.{stops}
use Rattle.book.proofs.laws.stopped_scripts_end_there.Goals as goal

pub returns : goal.returns
returns g c = stops g.G.Semiring.ops g.G.Gauge.delays
