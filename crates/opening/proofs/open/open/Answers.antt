use Rattle.std.proofs.Common.{◌≡◌, None, Ok, arith, rules}
use Rattle.opening.specs.Boards.{view_of, room_in}
use Rattle.opening.proofs.Agreeing.{fits, opened}
use Rattle.opening.proofs.Answering.{roomy, answered}
use Rattle.opening.proofs.open.open.Goals as goal

pub invariant_of-web : goal.invariant_of-web
invariant_of-web g c =
    let long = roomy (view_of c.args.board) _ c.in_ok-check_room.ensures in
    record { fit = fits c.args.board.network.now _ _ (omega (arith, long.starts)) (omega (arith, long.weights)) }

pub returns : goal.returns
returns g c =
    let board = c.args.board in
    let view = view_of board in
    let file = c.args.file.now in
    let worked = c.work_all-count.ensures in
    let room : Ok tt ≡ room_in view None (g.W.WaitingList.limit c.args.list.now) = search rules in
    let long = roomy view _ room in
    record {
      answers = answered view _ file room c.in_ok-clock.clock c.in_ok-clock.ensures c.work_all-count.result worked.count;
      board = opened g.G.Semiring.ops g.G.Gauge.delays board.network.now file board.starts.now board.weights.now g.met.G.Semiring.laws board.values.now c.fill.new.starts c.fill.new.weights c.work_all-count.new.values c.fill.ensures.starts c.fill.ensures.weights long.values c.work_all-count.auto.values worked.past worked.sums;
      empty = worked.empty;
      limit = search rules;
    }
