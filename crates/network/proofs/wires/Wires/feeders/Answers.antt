use Rattle.std.proofs.Common.{ℕ, ◌<◌, List, length, get_or, ap, ◌∙◌, arith}
use Rattle.std.proofs.lemmas.List.Elements.{All-from_get_or}
use Rattle.network.specs.Wiring.{wires}
use Rattle.network.proofs.Pins.{length-feeders, feeder_at}
use Rattle.network.proofs.wires.Wires.feeders.Goals as goal

pub returns-clause-within : goal.returns-clause-within
returns-clause-within c =
    let xs = c.args.self.signals.now in
    let s = c.args.signal in
    All-from_get_or (λ f. f < length xs) c.feeders.result.now 0
    (λ k l.
    let there : k < wires xs s = omega (arith, l, ap length c.feeders.ensures, length-feeders xs s) in
    let at = ap (λ (vs : List ℕ). get_or vs k 0) c.feeders.ensures ∙ feeder_at xs s k there in
    omega (arith, at, c.args.self.wired s k there))
