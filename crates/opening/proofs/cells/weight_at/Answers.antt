use Rattle.std.proofs.Common.{rules}
use Rattle.network.specs.Net.{signals}
use Rattle.opening.proofs.Driving.{driver_is}
use Rattle.opening.proofs.cells.weight_at.Goals as goal

pub returns : goal.returns
returns g c = let is = driver_is (signals c.args.network.now) c.args.signal in search rules
