use Rattle.board.proofs.Stopped.{stopped_scripts}
use Rattle.board.proofs.laws.stopped_scripts_end_there.Goals as goal

pub returns : goal.returns
returns g c = stopped_scripts g.G.Semiring.ops g.G.Gauge.delays
