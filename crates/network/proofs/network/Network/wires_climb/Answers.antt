use Rattle.network.specs.Net.{signals}
use Rattle.network.specs.Turns.{turns_of}
use Rattle.network.proofs.Cycles.{wire_climbs}
use Rattle.network.proofs.network.Network.wires_climb.Goals as goal

pub returns : goal.returns
returns c = let net = c.args.self.now in wire_climbs (signals net) (turns_of net.turns) net.climbs
