use Rattle.std.proofs.Common.{◌≡◌, ℕ, Bool, true, false, length, get_or, sym, ◌∙◌, subst, arith}
use Rattle.network.specs.Renumbering.{picks}
use Rattle.network.proofs.Numbering.{numbers_one, numbers_none, numbered_as}
use Rattle.network.proofs.Places.{many_strict}
use Rattle.network.proofs.turns.renumber.number.Goals as goal
use Rattle.network.proofs.turns.renumber.number.Goals.{then-is_picked, else-is_picked}

pub overflow_add-next : goal.overflow_add-next
overflow_add-next c =
    let order = c.args.order.now in
    let pick : ℕ → Bool = picks c.args.marks.now c.args.wanted in
    let t = c.loop-listed.listed-index in
    let here : pick (get_or order t 0) ≡ true = subst (λ x. pick x ≡ true) c.from-signal.ensures (sym c.is_picked.ensures ∙ c.if-is_picked.true) in
    omega (arith, many_strict (λ u. pick (get_or order u 0)) t (length order) here c.loop-listed-test.true, c.loop-listed.invariant.counted, c.requires.few)

pub loop-listed-preserved : goal.loop-listed-preserved
loop-listed-preserved c =
    let pick : ℕ → Bool = picks c.args.marks.now c.args.wanted in
    let order = c.args.order.now in
    let before = c.args.turn_of.now in
    let first = c.args.first in
    let turns = c.loop-listed.turn_of in
    let next = c.loop-listed.next in
    let t = c.loop-listed.listed-index in
    let s = c.from-signal.result in
    let at = c.from-signal.ensures in
    elim c.if-is_picked.branch [
      | then-is_picked w ↦
          let yes' : pick s ≡ true = sym c.is_picked.ensures ∙ w.if-is_picked.true in
          numbered_as w.turn_of-is w.next-is (numbers_one pick order before first turns next t s c.loop-listed.invariant at yes' (omega (arith, at, c.requires.distinct.within t c.loop-listed-test.true, c.loop-listed.auto.turn_of)) c.loop-listed-test.true (length before) c.requires.distinct)
      | else-is_picked w ↦
          let no' : pick s ≡ false = sym c.is_picked.ensures ∙ w.if-is_picked.false in
          numbered_as w.turn_of-is w.next-is (numbers_none pick order before first turns next t s c.loop-listed.invariant at no')
    ]
