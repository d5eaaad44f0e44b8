use Rattle.network.proofs.Cycles.{stuck}
use Rattle.network.proofs.Placing.{placed}
use Rattle.network.proofs.wires.Wires.rank.Goals as goal

pub lowest_on_cycle-requires : goal.lowest_on_cycle-requires
lowest_on_cycle-requires c =
    stuck c.args.self.signals.now c.loop-placed.turns c.loop-placed.placed c.args.self.wired c.loop-placed.invariant c.loop-placed-test.true c.in_default.ensures

pub loop-placed-preserved : goal.loop-placed-preserved
loop-placed-preserved c =
    let ready = c.in-Some.ensures in
    placed c.args.self.signals.now c.args.self.wired c.loop-placed.turns c.swap.new.self c.loop-placed.placed c.in-Some.turn c.loop-placed.invariant ready.0 ready.1 ready.2 c.swap.ensures
