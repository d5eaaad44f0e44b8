use Rattle.std.proofs.Common.{Err, rules, ap, ◌∙◌}
use Rattle.std.proofs.lemmas.Result.{err_from_is_err_and}
use Rattle.board.proofs.Chaining.{calls_follow}
use Rattle.replay.proofs.make.make_call.Goals as goal

pub returns-in_err-lend-in-Edit-clause-follows : goal.returns-in_err-lend-in-Edit-clause-follows
returns-in_err-lend-in-Edit-clause-follows g c =
    let p = err_from_is_err_and c.from_residual.result c.from_residual.ensures.1 in
    calls_follow _ _ g.met.G.Semiring.laws _ _ _ _ _ _ (rw c.in-Edit.is (Err c.in_err-lend-in-Edit.field-0.0, c.in_err-lend-in-Edit.ensures.stepped, p.1 ∙ ap Err p.2))

pub returns-in_ok-lend-in-Edit-clause-follows : goal.returns-in_ok-lend-in-Edit-clause-follows
returns-in_ok-lend-in-Edit-clause-follows g c = calls_follow _ _ g.met.G.Semiring.laws _ _ _ _ _ _ (search rules)
