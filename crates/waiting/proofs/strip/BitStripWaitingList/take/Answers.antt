use Rattle.std.proofs.Common.{◌^◌, ◌<◌, get_or, refl, arith, rules}
use Rattle.waiting.proofs.Words.{least_turn, take_removes}
use Rattle.waiting.proofs.strip.BitStripWaitingList.take.Goals as goal

pub returns : goal.returns
returns c =
    let found = c.in_ok-word.ensures in
    let within : c.in_ok-word.word < 8 = omega arith in
    let fits : get_or c.args.self.now.words c.in_ok-word.word 0 < 2 ^ 32 = search rules in
    record { limit = refl; least = search (rules, least_turn); removed = search (rules, take_removes) }
