use Rattle.std.proofs.Common.{length}
use Rattle.network.proofs.Marking.{none_marked}
use Rattle.network.proofs.network.mark.mark_reached.Goals as goal

pub loop-turn-init : goal.loop-turn-init
loop-turn-init c = none_marked c.args.net.now c.args.gate c.fill.new.self (length c.args.strip.now) (c.fill.ensures.after (λ y e. e))
