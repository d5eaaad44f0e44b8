use Rattle.std.proofs.Common.{◌≡◌, ℕ, ◌<◌, List, length, get_or, sym, ap, ◌∙◌, subst, arith}
use Rattle.std.proofs.lemmas.List.{with_items_is}
use Rattle.network.specs.Renumbering.{Distinct, Renumbered}
use Rattle.network.specs.Turns.{count_of, turns_of, order_of}
use Rattle.network.specs.Wiring.{Inverse}
use Rattle.network.proofs.Renumbered.{still_distinct, still_numbered, still_listed}
use Rattle.network.proofs.turns.Turns.put_last.Goals as goal

pub list_by_turn-requires-clause-distinct : goal.list_by_turn-requires-clause-distinct
list_by_turn-requires-clause-distinct c =
    let t = c.args.self.now in
    let turns' = c.renumber.new.turn_of in
    let renumbered = subst (λ (order : List ℕ). Renumbered c.args.marks.now order turns') c.deref.ensures.value c.renumber.ensures in
    let kept : length turns' ≡ count_of t = c.renumber.auto.turn_of ∙ ap length c.deref_mut.ensures.value in
    let are : c.deref-2.result.now ≡ turns' = c.deref-2.ensures.value ∙ with_items_is t.turn_of turns' (c.renumber.auto.turn_of ∙ c.deref_mut.ensures.len) in
    let room : length c.deref_mut-2.result.now ≡ count_of t = ap length c.deref_mut-2.ensures.value ∙ t.long in
    let distinct = still_distinct (turns_of t) (order_of t) c.args.marks.now turns' (count_of t) t.long t.numbered t.listed renumbered kept in
    subst (λ (xs : List ℕ). Distinct xs (length c.deref_mut-2.result.now)) (sym are) (subst (Distinct turns') (sym room) distinct)

inverse_as : (n : ℕ) (xs ys zs : List ℕ) {xs' ys' : List ℕ} → xs' ≡ xs → ys' ≡ ys → length zs ≡ n → Inverse xs ys n → Inverse xs' ys' (length zs)
inverse_as n xs ys zs {xs'} {ys'} e f g h =
    subst (λ us. Inverse us ys' (length zs)) (sym e) (subst (λ us. Inverse xs us (length zs)) (sym f) (subst (Inverse xs ys) (sym g) h))

pub invariant_of-self : goal.invariant_of-self
invariant_of-self c =
    let t = c.args.self.now in
    let n = count_of t in
    let marks = c.args.marks.now in
    let turns' = c.renumber.new.turn_of in
    let order' = c.list_by_turn.new.order in
    let renumbered = subst (λ (order : List ℕ). Renumbered marks order turns') c.deref.ensures.value c.renumber.ensures in
    let turns-are = with_items_is t.turn_of turns' (c.renumber.auto.turn_of ∙ c.deref_mut.ensures.len) in
    let order-are = with_items_is t.order order' (c.list_by_turn.auto.order ∙ c.deref_mut-2.ensures.len) in
    let turns-long : length turns' ≡ n = c.renumber.auto.turn_of ∙ ap length c.deref_mut.ensures.value in
    let order-long : length order' ≡ n = c.list_by_turn.auto.order ∙ ap length c.deref_mut-2.ensures.value ∙ t.long in
    let are : c.deref-2.result.now ≡ turns' = c.deref-2.ensures.value ∙ turns-are in
    let back : (s : ℕ) → s < n → get_or order' (get_or turns' s 0) 0 ≡ s = λ s l.
    subst (λ (ts : List ℕ). get_or order' (get_or ts s 0) 0 ≡ s) are (c.list_by_turn.ensures s (omega (arith, l, ap length are, turns-long))) in
    record {
      few = omega (arith, ap length turns-are, turns-long, t.few);
      long = ap length order-are ∙ order-long ∙ sym (ap length turns-are ∙ turns-long);
      numbered = inverse_as n turns' order' _ turns-are order-are (ap length turns-are ∙ turns-long) (still_numbered (turns_of t) (order_of t) marks turns' n t.long t.numbered t.listed renumbered order' back);
      listed = inverse_as n order' turns' _ order-are turns-are (ap length turns-are ∙ turns-long) (still_listed (turns_of t) (order_of t) marks turns' n t.long t.numbered t.listed renumbered order' back);
    }
