use Rattle.std.proofs.Common.{eqb, rules, tests, refl, arith, ◌∙◌}
use Rattle.std.proofs.lemmas.Iterator.{YieldsList-from_range}
use Rattle.std.proofs.lemmas.Iterator.Search.{any_from_yields_List}
use Rattle.settling.specs.Shapes.{tap_at}
use Rattle.settling.proofs.Folds.{any_at}
use Rattle.settling.proofs.wiring.Wiring.is_fed_by.Goals as goal

pub returns : goal.returns
returns g c =
    let shape = g.Self.Wiring.shape c.args.self.now in
    let source = c.args.source in
    any_from_yields_List (λ k. eqb (tap_at shape c.args.signal k).from source) _ _ _ c.any.ensures.ran (YieldsList-from_range 0 c.tap_count.result c.tap_count.result refl (omega arith)) (λ x b q k. search (rules, tests))
    ∙ any_at (λ x. eqb x.from source) (shape.taps c.args.signal) c.tap_count.result _ c.tap_count.ensures
