use Rattle.std.proofs.Common.{◌≡◌, ℕ, ◌+◌, ◌<◌, true, List, length, get_or, sym, ap, ◌∙◌, subst, arith}
use Rattle.network.specs.Search.{marked, Searched}
use Rattle.network.specs.Wiring.{wires, feeder}
use Rattle.network.proofs.Pins.{length-feeders, feeder_at}
use Rattle.network.proofs.Searching.{searched_seen, searched_more}
use Rattle.network.proofs.wires.Wires.+mark_back.Goals as goal
use Rattle.network.proofs.wires.Wires.+mark_back.Goals.{then-not-marks-source, else-not-marks-source}

pub loop-feeder-preserved : goal.loop-feeder-preserved
loop-feeder-preserved t c =
    let xs = c.args.self.signals.now in
    let s = c.args.signal in
    let pin = c.loop-feeder.feeder-index in
    let v = c.from-source.result in
    let before = c.args.marks.now in
    let marks = c.loop-feeder.marks in
    let list = c.feeders-feeder-items in
    let pins : pin < wires xs s = omega (arith, c.loop-feeder-test.true, ap length list.ensures.is, length-feeders xs s) in
    let at : v ≡ feeder xs s pin = c.from-source.ensures ∙ ap (λ (vs : List ℕ). get_or vs pin 0) list.ensures.is ∙ feeder_at xs s pin pins in
    let here : v < length marks = omega (arith, at, c.args.self.wired s pin pins, c.requires, c.loop-feeder.auto.marks) in
    elim c.if-not-marks-source.branch [
      | then-not-marks-source w ↦ subst (λ after. Searched xs s (pin + 1) before after) (sym w.marks-is) (searched_more xs s pin v before marks w.mark_back.new.marks c.loop-feeder.invariant (pin, pins, sym at) at here w.if-not-marks-source.true w.mark_back.ensures)
      | else-not-marks-source w ↦ subst (λ after. Searched xs s (pin + 1) before after) (sym w.marks-is) (searched_seen xs s pin before marks c.loop-feeder.invariant (subst (λ x. marked marks x ≡ true) at w.if-not-marks-source.false))
    ]
