use Rattle.std.proofs.Common.{sym, ◌∙◌}
use Rattle.std.proofs.lemmas.List.FromFn.{length-map-range_with_len}
use Rattle.network.specs.Net.{fanin}
use Rattle.opening.specs.Forwards.{tap_of}
use Rattle.opening.proofs.forwards.ForwardsWiring.tap_count.Goals as goal

pub returns : goal.returns
returns c =
    let net = c.args.self.now.network.now in
    c.pin_count.ensures.is ∙ sym (length-map-range_with_len (tap_of net c.args.signal) 0 (fanin net c.args.signal))
