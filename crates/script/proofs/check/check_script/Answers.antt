use Rattle.std.proofs.Common.{true, false, Err, sym, ap, ◌∙◌}
use Rattle.std.proofs.lemmas.Result.{err_from_is_err_and}
use Rattle.opening.specs.Boards.{view_of}
use Rattle.script.proofs.Checking.{room_refused, length_judged}
use Rattle.script.proofs.check.check_script.Goals as goal

pub returns-in_err-check_room : goal.returns-in_err-check_room
returns-in_err-check_room g c =
    let p = err_from_is_err_and c.from_residual.result c.from_residual.ensures.1 in
    room_refused g.G.Semiring.ops g.G.Gauge.delays (view_of c.args.board.now) c.args.strip c.args.limit c.args.file.now c.in_err-check_room.field-0.0 c.from_residual.result
    c.in_err-check_room.ensures (p.1 ∙ ap Err p.2)

pub returns-then-too_long : goal.returns-then-too_long
returns-then-too_long g c =
    length_judged g.G.Semiring.ops g.G.Gauge.delays (view_of c.args.board.now) c.args.strip c.args.limit c.args.file.now
    c.in_ok-check_room.ensures true (sym c.if-too_long.true ∙ c.too_long.ensures)

pub returns : goal.returns
returns g c =
    length_judged g.G.Semiring.ops g.G.Gauge.delays (view_of c.args.board.now) c.args.strip c.args.limit c.args.file.now
    c.in_ok-check_room.ensures false (sym c.if-too_long.false ∙ c.too_long.ensures)
