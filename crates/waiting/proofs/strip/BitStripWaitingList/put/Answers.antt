use Rattle.std.proofs.Common.{◌<◌, arith, rules}
use Rattle.waiting.proofs.Words.{put_adds}
use Rattle.waiting.proofs.strip.BitStripWaitingList.put.Goals as goal

pub returns-clause-added : goal.returns-clause-added
returns-clause-added c = let small : c.args.turn < 256 = omega arith in search (rules, put_adds, c.from-word.ensures)
