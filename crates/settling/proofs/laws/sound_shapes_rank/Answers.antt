use Rattle.settling.proofs.Shapes.{ranks}
use Rattle.settling.proofs.laws.sound_shapes_rank.Goals as goal

pub returns : goal.returns
returns g c = ranks _
