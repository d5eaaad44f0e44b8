use Rattle.std.proofs.Common.{◌≡◌, ℕ, true, get_or, refl, subst}
use Rattle.std.proofs.lemmas.Bool.{ne_eqb, not_from_false}
use Rattle.network.specs.Marks.{marked}
use Rattle.network.specs.Net.{signals}
use Rattle.network.specs.Turns.{turns_of}
use Rattle.network.proofs.Closing.{closes}
use Rattle.network.proofs.Cycles.{climbing_acyclic}
use Rattle.network.proofs.network.Network.rewire.Goals as goal

pub returns-then-strip-from-ne0 : goal.returns-then-strip-from-ne0
returns-then-strip-from-ne0 c =
    let net = c.args.self.now in
    let marks = c.mark_reached.new.strip in
    let yes' : marked marks c.args.feeder ≡ true = subst (λ (u : ℕ). marked marks u ≡ true) c.from.ensures (not_from_false _ (ne_eqb (get_or marks c.from.result 0) 0 c.if-strip-from-ne0.true)) in
    let reached = (c.mark_reached.ensures.only c.args.feeder yes').1 in
    let acyclic = climbing_acyclic (signals net) (turns_of net.turns) net.climbs in
    record { reached = reached; same = refl; cyclic = closes (signals net) c.args.gate c.args.pin c.args.feeder acyclic c.requires.there reached }
