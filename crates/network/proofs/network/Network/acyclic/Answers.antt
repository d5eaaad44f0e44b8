use Rattle.network.specs.Net.{signals}
use Rattle.network.specs.Turns.{turns_of}
use Rattle.network.proofs.Cycles.{climbing_acyclic}
use Rattle.network.proofs.network.Network.acyclic.Goals as goal

pub returns : goal.returns
returns c = let net = c.args.self.now in climbing_acyclic (signals net) (turns_of net.turns) net.climbs
