use Rattle.network.specs.Renumbering.{Numbered, picks}
use Rattle.network.proofs.turns.renumber.number.Given as goal

abbrev pub invariant-loop-listed : goal.invariant-loop-listed
invariant-loop-listed l = Numbered (picks l.marks l.wanted) l.order l.first l.listed-index l.initial.turn_of l.turn_of l.next
