use Rattle.std.proofs.Common.{refl, rules}
use Rattle.network.specs.Net.{signals}
use Rattle.network.specs.declared.signal.Signal.{Signal}
use Rattle.network.proofs.Getting.{tested}
use Rattle.network.proofs.network.Network.is_output.Goals as goal

pub returns : goal.returns
returns c = tested (λ (x : Signal). x.output) _ _ refl (λ x p. search rules) (signals c.args.self.now) c.args.signal _ c.get.ensures c.is_some_and.ensures
