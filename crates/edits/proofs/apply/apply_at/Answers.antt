use Rattle.std.proofs.Common.{◌≡◌, ℕ, length, Err, sym, refl, ap, ◌∙◌, subst, arith}
use Rattle.std.proofs.lemmas.Result.{err_from_is_err_and}
use Rattle.gauge.specs.Matrix.{edge_ops}
use Rattle.paths.specs.Edits.{only, Settled, edit_count}
use Rattle.settling.specs.Tables.{cells, web_on}
use Rattle.book.specs.Answers.{unless}
use Rattle.opening.specs.Boards.{View, view_of}
use Rattle.opening.specs.Forwards.{forwards}
use Rattle.board.specs.Steps.{Stepped}
use Rattle.edits.specs.Checks.{checked}
use Rattle.edits.specs.Writes.{Left}
use Rattle.edits.proofs.Passing.{passed_told, refused_told, step_refused}
use Rattle.edits.proofs.Accepting.{step_left, as_many, still_fits, edited_still_there, step_wrote}
use Rattle.edits.proofs.apply.apply_at.Goals as goal

pub returns-in_err-check-clause-stepped : goal.returns-in_err-check-clause-stepped
returns-in_err-check-clause-stepped g c =
    let r = g.G.Semiring.ops in
    let x = view_of c.args.board in
    let n = length c.args.strip.now in
    let p = err_from_is_err_and c.from_residual.result c.from_residual.ensures.1 in
    let told : Err p.0 ≡ unless (checked x n c.limit.result c.args.at c.args.edit) (tt {0}) = let q = p.2 in let w = c.in_err-check.ensures in cc in
    step_refused r g.G.Gauge.delays x n _ c.args.at c.args.edit c.from_residual.result p.0 p.1
    (refused_told (edge_ops r) x n _ c.args.at c.args.edit c.limit.result (c.limit.ensures.value ∙ c.clear.ensures.limit) p.0 told)

pub returns-in_err-write-clause-stepped : goal.returns-in_err-write-clause-stepped
returns-in_err-write-clause-stepped g c =
    let r = g.G.Semiring.ops in
    let x = view_of c.args.board in
    let n = length c.args.strip.now in
    let y : View _ = record { network = c.write.new.network; starts = c.write.new.starts; weights = c.write.new.weights; values = c.args.board.values.now } in
    let ok = passed_told (edge_ops r) x n _ c.args.at c.args.edit c.limit.result (c.limit.ensures.value ∙ c.clear.ensures.limit) c.in_ok-check.ensures in
    let p = err_from_is_err_and c.from_residual-in_err-write.result c.from_residual-in_err-write.ensures.1 in
    let left = subst (Left r g.G.Gauge.delays c.args.edit c.args.at x.network y.network x.starts y.starts x.weights y.weights) (sym p.2) c.in_err-write.ensures in
    subst (Stepped r g.G.Gauge.delays n _ c.args.at c.args.edit x y) (sym p.1) (step_left r g.G.Gauge.delays x y n _ c.args.at c.args.edit ok p.0 left refl)

pub invariant_of-web : goal.invariant_of-web
invariant_of-web g c =
    let r = g.G.Semiring.ops in
    let x = view_of c.args.board in
    let y : View _ = record { network = c.write.new.network; starts = c.write.new.starts; weights = c.write.new.weights; values = c.args.board.values.now } in
    let ok = passed_told (edge_ops r) x (length c.args.strip.now) c.limit.result c.args.at c.args.edit c.limit.result refl c.in_ok-check.ensures in
    record { fit = still_fits r g.G.Gauge.delays x y _ _ c.args.at c.args.edit ok c.in_ok-write.ensures }

pub settle-requires : goal.settle-requires
settle-requires g c =
    let r = g.G.Semiring.ops in
    let x = view_of c.args.board in
    let y : View _ = record { network = c.write.new.network; starts = c.write.new.starts; weights = c.write.new.weights; values = c.args.board.values.now } in
    let ok = passed_told (edge_ops r) x (length c.args.strip.now) c.limit.result c.args.at c.args.edit c.limit.result refl c.in_ok-check.ensures in
    let wrote = c.in_ok-write.ensures in
    record {
      room = omega (arith, as_many r g.G.Gauge.delays x y _ _ c.args.at c.args.edit ok wrote, ok.values);
      limited = omega (arith, as_many r g.G.Gauge.delays x y _ _ c.args.at c.args.edit ok wrote, ok.turns_fit, c.limit.ensures.value);
      here = omega (arith, edited_still_there r g.G.Gauge.delays x y _ _ c.args.at c.args.edit ok wrote, c.edited_signal-edited.ensures);
    }

pub returns-clause-stepped : goal.returns-clause-stepped
returns-clause-stepped g c =
    let r = g.G.Semiring.ops in
    let x = view_of c.args.board in
    let n = length c.args.strip.now in
    let y : View _ = record { network = c.write.new.network; starts = c.write.new.starts; weights = c.write.new.weights; values = c.settle.new.values } in
    let ok = passed_told (edge_ops r) x n _ c.args.at c.args.edit c.limit.result (c.limit.ensures.value ∙ c.clear.ensures.limit) c.in_ok-check.ensures in
    let is = c.edited_signal-edited.ensures in
    let web = web_on (edge_ops r) (forwards y.network) y.starts y.weights in
    step_wrote r g.G.Gauge.delays x y n _ c.args.at c.args.edit ok c.in_ok-write.ensures c.settle.result c.settle.auto.values c.settle.ensures.past
    (subst (λ (e : ℕ). Settled (edge_ops r) (only e) web (cells (edge_ops r) x.values) (cells (edge_ops r) y.values)) is c.settle.ensures.settled)
    (c.settle.ensures.count ∙ ap (λ (e : ℕ). edit_count (edge_ops r) e web (cells (edge_ops r) x.values) (cells (edge_ops r) y.values)) is)
