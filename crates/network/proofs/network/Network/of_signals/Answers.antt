use Rattle.std.proofs.Common.{refl, rules}
use Rattle.network.proofs.Cycles.{climbing_acyclic}
use Rattle.network.proofs.network.Network.of_signals.Goals as goal

pub returns : goal.returns
returns c = (search (rules, climbing_acyclic), refl)
