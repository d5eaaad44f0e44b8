use Rattle.std.proofs.Common.{refl}
use Rattle.std.proofs.lemmas.Bool.{both_ways}
use Rattle.network.proofs.Searching.{leads, all_that_lead}
use Rattle.network.proofs.wires.Wires.is_on_cycle.Goals as goal

pub returns : goal.returns
returns c =
    let xs = c.args.self.signals.now in
    let s = c.args.signal in
    let marks = c.mark_back.new.marks in
    let searched = c.mark_back.ensures in
    record { is = λ y. leads xs s marks searched refl s y; not = λ z on. both_ways _ z (all_that_lead xs s marks searched refl s on) }
