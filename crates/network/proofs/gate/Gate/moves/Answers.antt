use Rattle.std.proofs.Common.{◌≡◌, true, nat_lt, ap, ◌∙◌, arith, rules}
use Rattle.std.specs.List.{list_any, range_with_len}
use Rattle.std.proofs.lemmas.Bool.{lt-ltb}
use Rattle.std.proofs.lemmas.Iterator.{YieldsList-from_range}
use Rattle.std.proofs.lemmas.Iterator.Search.{any_from_yields_List}
use Rattle.network.specs.Senses.{moved_in}
use Rattle.network.proofs.gate.Gate.moves.Goals as goal

pub returns-then-pin-from : goal.returns-then-pin-from
returns-then-pin-from c =
    let gate = c.args.self.now in
    let n = c.settings.result in
    let test = moved_in gate c.args.pin c.args.to in
    let there : nat_lt c.args.pin gate.pin_count ≡ true = lt-ltb _ _ (omega arith) in
    let called = any_from_yields_List test _ _ c.any.result c.any.ensures.ran (YieldsList-from_range 0 n n (cc) (omega arith)) (λ x b q k. search rules) in
    rw there (called ∙ ap (λ m. list_any test (range_with_len 0 m)) c.settings.ensures.is)
