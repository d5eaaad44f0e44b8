use Rattle.std.proofs.Common.{◌≡◌, ℕ, ◌+◌, List, [], ◌∷◌, ◌++◌, sym, ap, ◌∙◌, zero-add, arith}
use Rattle.std.specs.List.{range_with_len}
use Rattle.std.proofs.lemmas.List.FromFn.{map-range_with_len_more}
use Rattle.std.proofs.lemmas.List.{map-id}
use Rattle.network.proofs.turns.start.count_up.Goals as goal

counting_more : (n : ℕ) → range_with_len 0 n ++ n ∷ [] ≡ range_with_len 0 (n + 1)
counting_more n =
    ap (λ (xs : List ℕ). xs ++ n ∷ []) (sym (map-id (range_with_len 0 n))) ∙ sym (map-range_with_len_more (λ x. x) 0 n n (zero-add n)) ∙ map-id (range_with_len 0 (n + 1))

pub loop-number-preserved : goal.loop-number-preserved
loop-number-preserved c =
    let inv = c.loop-number.invariant in
    let pushed = c.push_reserved.ensures in
    let n = c.loop-number.number in
    (pushed.items ∙ ap (λ (xs : List ℕ). xs ++ n ∷ []) inv.0 ∙ counting_more n, omega (arith, inv.1, pushed.len), pushed.capacity ∙ inv.2)
