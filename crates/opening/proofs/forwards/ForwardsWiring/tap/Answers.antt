use Rattle.std.proofs.Common.{ℕ, ◌+◌, ◌*◌, ◌<◌, length, sym, ap, ◌∙◌, arith}
use Rattle.std.proofs.lemmas.List.FromFn.{length-map-range_with_len, get_or-map-range_with_len}
use Rattle.network.specs.Net.{fanin}
use Rattle.network.specs.declared.network.Network.{Network}
use Rattle.delays.proofs.Marking.{small}
use Rattle.opening.specs.Forwards.{tap_of, forwards}
use Rattle.opening.proofs.forwards.ForwardsWiring.tap.Goals as goal

there : (net : Network) (s k : ℕ) → k < length ((forwards net).taps s) → k < fanin net s
there net s k h = omega (arith, length-map-range_with_len (tap_of net s) 0 (fanin net s))

pub feeder-requires : goal.feeder-requires
feeder-requires c = there c.args.self.now.network.now c.args.signal c.args.place c.requires.place

pub overflow_add-result : goal.overflow_add-result
overflow_add-result c =
    let net = c.args.self.now.network.now in
    omega (arith, there net c.args.signal c.args.place c.requires.place, (small net).pins c.args.signal, net.few, c.requires.signal)

pub returns : goal.returns
returns c =
    let net = c.args.self.now.network.now in
    let s = c.args.signal in
    let k = c.args.place in
    ap (λ (u : ℕ). record { from = u; cell = 4 * s + k }) c.feeder.ensures.is
    ∙ sym (get_or-map-range_with_len (tap_of net s) 0 (fanin net s) k k (record { from = 0; cell = 0 }) (there net s k c.requires.place) (omega arith))
