use Rattle.std.proofs.Common.{inl, arith}
use Rattle.network.specs.Net.{signals}
use Rattle.network.specs.Rewiring.{Downstream}
use Rattle.network.proofs.Marking.{reads_marked_reached, marks_it, leaves_it}
use Rattle.network.proofs.network.mark.mark_turn.Goals as goal
use Rattle.network.proofs.network.mark.mark_turn.Goals.{then-signal-gate-via-then-signal-gate, then-signal-gate-via-else-signal-gate+then-reads_marked}

pub returns-then-signal-gate : goal.returns-then-signal-gate
returns-then-signal-gate c =
    let net = c.args.net.now in
    let marks = c.args.strip.now in
    let gate = c.args.gate in
    let t = c.args.turn in
    let s = c.signal_at-signal.result in
    let at = c.signal_at-signal.ensures in
    let reached : Downstream (signals net) gate s =
    elim c.then-signal-gate.branch [
      | then-signal-gate-via-then-signal-gate w ↦ inl w.if-signal-gate.true
      | then-signal-gate-via-else-signal-gate+then-reads_marked w ↦ reads_marked_reached net gate t s marks c.requires.before at.within at.back w.reads_marked.result w.reads_marked.ensures w.if-reads_marked.true
    ] in
    marks_it net gate t s marks c.requires.before at.within at.back (omega arith) reached

pub returns-else-reads_marked : goal.returns-else-reads_marked
returns-else-reads_marked c =
    let at = c.signal_at-signal.ensures in
    leaves_it c.args.net.now c.args.gate c.args.turn c.signal_at-signal.result c.args.strip.now c.requires.before at.within at.back c.if-signal-gate.false c.reads_marked.result c.reads_marked.ensures c.if-reads_marked.false
