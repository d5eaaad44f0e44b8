use Rattle.std.proofs.Common.{◌≡◌, true, false, rules, tests}
use Rattle.std.proofs.lemmas.Iterator.{first_from_Range}
use Rattle.settling.specs.Shapes.{feeds}
use Rattle.settling.proofs.wiring.Wiring.next_fed.Goals as goal

pub returns : goal.returns
returns g c =
    let fed = feeds (g.Self.Wiring.shape c.args.self.now) c.args.source in
    rw c.signal_count.ensures at (first_from_Range _ _ _ c.find.result (λ s. fed s ≡ true) (λ s. fed s ≡ false) c.find.ensures.ran (λ x q k. search (rules, tests)) (λ x q k. search (rules, tests)))
