use Rattle.std.proofs.Common.{arith, pow_mono}
use Rattle.std.proofs.lemmas.Nat.{one_shl}
use Rattle.network.proofs.gate.senses.weight.Goals as goal

pub returns : goal.returns
returns c =
    let pin = c.args.pin in
    let is = one_shl pin 64 (omega (arith, c.requires)) in
    record { is = is; few = omega (arith, is, pow_mono {i = pin} {j = 4} c.requires) }
