use Rattle.std.proofs.Common.{length, sym, ap, ◌∙◌, arith}
use Rattle.std.proofs.lemmas.List.FromFn.{length-range_with_len}
use Rattle.network.proofs.Placing.{counting}
use Rattle.network.proofs.turns.Turns.start.Goals as goal

pub invariant_of-self : goal.invariant_of-self
invariant_of-self c =
    let turns = c.count_up.ensures in
    let order = c.count_up-2.ensures in
    let n = c.args.count in
    record {
      few = omega (arith, ap length turns, length-range_with_len 0 n, c.requires.few);
      long = ap length (order ∙ sym turns);
      numbered = counting _ _ _ n turns order turns;
      listed = counting _ _ _ n order turns turns;
    }

pub returns : goal.returns
returns c = ap length c.count_up.ensures ∙ length-range_with_len 0 c.args.count
