-- What becomes of signals that are to make a network.
use Rattle.std.specs.Prelude.{◌≡◌, List, Ok, Err, Result, slice_index_or}
use Rattle.network.specs.Net.{signals}
use Rattle.network.specs.Reach.{Acyclic, LowestOnCycle}
use Rattle.network.specs.Wiring.{absent}
use Rattle.network.specs.declared.cyclic.Cyclic.{Cyclic}
use Rattle.network.specs.declared.network.Network.{Network}
use Rattle.network.specs.declared.signal.Signal.{Signal}

-- without a cycle their network; else the lowest signal on one, and where its name is
abbrev pub Built : List Signal → Result Network Cyclic → Type 0
Built xs (Ok net) = Acyclic xs × (signals net ≡ xs)
Built xs (Err cyclic) = LowestOnCycle xs cyclic.lowest × (cyclic.name ≡ (slice_index_or xs cyclic.lowest absent).name)
