use Rattle.std.proofs.Common.{sym, ◌∙◌}
use Rattle.network.specs.Net.{signals}
use Rattle.network.proofs.Getting.{no_source}
use Rattle.network.proofs.network.Network.is_source.Goals as goal

pub returns-in_default-2 : goal.returns-in_default-2
returns-in_default-2 c = no_source (signals c.args.self.now) c.args.signal (sym c.driver.ensures ∙ c.in_default.is)
