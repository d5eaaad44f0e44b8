use Rattle.std.proofs.Common.{◌≡◌, ◌≤◌, length, set, sym, ap, ◌∙◌}
use native.Mathlib.Bridge.{le_prop}
use Rattle.network.specs.Rewiring.{rewired_driver}
use Rattle.network.specs.declared.signal.Driver.{Driver}
use Rattle.network.specs.declared.signal.Driver.TheVariants.{Gated}
use Rattle.network.specs.declared.signal.Signal.{Signal}
use Rattle.network.proofs.signal.Signal.with_feeder.Goals as goal

-- the two differ at most in their proofs of the gate's ghost fields
pub returns : goal.returns
returns c =
    let x = c.args.self in
    let g = c.in-Gated.wired in
    let k = c.args.pin in
    let u = c.args.feeder in
    let with : Driver → Signal = λ d. record { name = x.name; driver = d; output = x.output; captured = x.captured } in
    let gated : g.pin_count ≤ 4 → 4 ≤ length (set g.pins k u) → Driver = λ few wide.
    Gated (record { pins = set g.pins k u; pin_count = g.pin_count; matched = g.matched; last_word = g.last_word; few = few; wide = wide }) in
    let alike : (p p' : g.pin_count ≤ 4) (q q' : 4 ≤ length (set g.pins k u)) → gated p q ≡ gated p' q' = λ p p' q q'. ap (λ p. gated p q) (le_prop p p') ∙ ap (gated p') (le_prop q q') in
    ap with (alike _ _ _ _) ∙ sym (ap (λ d. with (rewired_driver d k u)) c.in-Gated.is)
