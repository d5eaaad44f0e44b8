use Rattle.std.proofs.Common.{◌≡◌, ℕ, ◌<◌, length, get_or, rules, fold, refl, ap, ◌∙◌, arith}
use Rattle.std.specs.List.{range_with_len}
use Rattle.std.proofs.iter.Yields.{nat_range_steps}
use Rattle.std.proofs.lemmas.Fn.{fold_over}
use Rattle.std.proofs.lemmas.Iterator.{YieldsList-from_range}
use Rattle.std.proofs.lemmas.List.{get_or_default}
use Rattle.std.proofs.lemmas.List.Sums.{fold_push}
use Rattle.paths.specs.Sums.{brought, gathered}
use Rattle.paths.proofs.Sums.{gathers}
use Rattle.settling.specs.Shapes.{tap_at}
use Rattle.settling.specs.Tables.{cells, wire_of, web_on}
use Rattle.settling.proofs.Folds.{gathered_at}
use Rattle.settling.proofs.web.Web.work.Goals as goal

pub returns : goal.returns
returns g c =
    let r = g.V.Semiring.ops in
    let web = c.args.self.now in
    let s = c.args.signal in
    let n = c.tap_count.result in
    let v = cells r c.args.values.now in
    let shape = g.N.Wiring.shape web.wiring.now in
    let is = web_on r shape web.starts.now web.weights.now in
    let more : g.row.V.Denot → ℕ → g.row.V.Denot = λ y k. r.plus y (brought r v (wire_of r web.weights.now (tap_at shape s k))) in
    let start = get_or web.starts.now s c.index-self-signal.result in
    let room : s < length web.starts.now = omega (arith, web.fit.starts_long, c.requires.here) in
    fold_over nat_range_steps (λ k. k) _ (λ ks y. y ≡ fold more start ks) _ (λ ks y k z f' was ran. let push = fold_push more start ks k in search rules)
    (record { start = 0; end = n }) (range_with_len 0 n) start c.fold.result (YieldsList-from_range 0 n n refl (omega arith)).runs refl c.fold.ensures.ran
    ∙ gathered_at r v web.weights.now start (shape.taps s) n _ c.tap_count.ensures
    ∙ ap (λ y. gathered r v y (is.into s)) (get_or_default web.starts.now s _ r.zero room) ∙ gathers r g.met.V.Semiring.laws is v s
