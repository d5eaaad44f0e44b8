use Rattle.std.proofs.Common.{rules, ◌≡◌, List, length, refl, ap, ◌∙◌, subst, arith}
use Rattle.fields.specs.Lists.{rest, fields}
use Rattle.fields.specs.declared.edit.Edit.{Edit}
use Rattle.fields.specs.declared.read.Placed.{Placed}
use Rattle.fields.specs.Says.{edit_of}
use Rattle.fields.proofs.Cutting.{few_fields}
use Rattle.opening.specs.Boards.{View, view_of}
use Rattle.board.specs.Runs.{Taken}
use Rattle.script.proofs.Taking.{count_few, stops, refuses, goes}
use Rattle.script.proofs.take.take_fields.Goals as goal

pub loop-field-init : goal.loop-field-init
loop-field-init g c =
    let r = g.G.Semiring.ops in
    let delays = g.G.Gauge.delays in
    let strip = length c.args.strip.now in
    let lim = g.W.WaitingList.limit c.args.list.now in
    let x = view_of c.args.board in
    let all = fields edit_of c.args.file.now in
    let begin : rest edit_of c.into_iter-field-iterator.result ≡ all = ap (rest edit_of) c.into_iter-field-iterator.ensures.into_iter_gives ∙ c.new-field-items.ensures in (
      refl,
      c.requires.empty,
      omega (arith, few_fields edit_of c.args.file.now, ap length begin),
      (λ y a t. subst (λ (fs : List (Placed Edit)). Taken r delays strip lim fs 0 x y a) begin t),
    )

pub returns-in_err-edit-clause-taken : goal.returns-in_err-edit-clause-taken
returns-in_err-edit-clause-taken g c =
    let z : View _ = record { network = c.loop-field.network; starts = c.loop-field.starts; weights = c.loop-field.weights; values = c.loop-field.values } in
    let stop = stops g.G.Semiring.ops g.G.Gauge.delays (length c.args.strip.now) (g.W.WaitingList.limit c.args.list.now) (fields edit_of c.args.file.now) (view_of c.args.board) z (rest edit_of c.loop-field.field-iterator) c.loop-field.total c.loop-field.invariant.3 c.in-Some.field (rest edit_of c.next.new.self) c.in-Some.ensures.steps c.in_err-edit.field-0.0 c.in_err-edit.was in
    search rules

pub returns-in_err-total-clause-taken : goal.returns-in_err-total-clause-taken
returns-in_err-total-clause-taken g c =
    let z : View _ = record { network = c.loop-field.network; starts = c.loop-field.starts; weights = c.loop-field.weights; values = c.loop-field.values } in
    let b = c.apply_at.new.board in
    let w : View _ = record { network = b.0; starts = b.1.0; weights = b.1.1.0; values = b.1.1.1.0 } in
    let stop = refuses g.G.Semiring.ops g.G.Gauge.delays (length c.args.strip.now) (g.W.WaitingList.limit c.args.list.now) (fields edit_of c.args.file.now) (view_of c.args.board) z (rest edit_of c.loop-field.field-iterator) c.loop-field.total c.loop-field.invariant.3 c.in-Some.field (rest edit_of c.next.new.self) c.in-Some.ensures.steps c.in_ok-edit.edit c.in_ok-edit.was (length c.loop-field.strip) (g.W.WaitingList.limit c.loop-field.list) c.loop-field.auto.strip c.loop-field.invariant.0 w c.in_err-total.field-0.0 c.in_err-total.ensures.stepped in
    search rules

pub overflow_add-total : goal.overflow_add-total
overflow_add-total g c =
    let b = c.apply_at.new.board in
    let z : View _ = record { network = c.loop-field.network; starts = c.loop-field.starts; weights = c.loop-field.weights; values = c.loop-field.values } in
    let w : View _ = record { network = b.0; starts = b.1.0; weights = b.1.1.0; values = b.1.1.1.0 } in
    omega (arith, c.loop-field.invariant.2, c.requires.short, count_few g.G.Semiring.ops g.G.Gauge.delays _ _ c.in-Some.field.at c.in_ok-edit.edit z w c.in_ok-total.field-0 c.in_ok-total.ensures.stepped)

pub loop-field-preserved : goal.loop-field-preserved
loop-field-preserved g c =
    let r = g.G.Semiring.ops in
    let delays = g.G.Gauge.delays in
    let z : View _ = record { network = c.loop-field.network; starts = c.loop-field.starts; weights = c.loop-field.weights; values = c.loop-field.values } in
    let b = c.apply_at.new.board in
    let w : View _ = record { network = b.0; starts = b.1.0; weights = b.1.1.0; values = b.1.1.1.0 } in
    let inv = c.loop-field.invariant in
    let f = c.in-Some.field in
    let e = c.in_ok-edit.edit in
    let n = c.in_ok-total.field-0 in (
      c.apply_at.ensures.limit ∙ inv.0,
      c.apply_at.ensures.empty,
      omega (arith, inv.2, ap length c.in-Some.ensures.steps, count_few r delays _ _ f.at e z w n c.in_ok-total.ensures.stepped),
      goes r delays (length c.args.strip.now) (g.W.WaitingList.limit c.args.list.now) (fields edit_of c.args.file.now) (view_of c.args.board) z (rest edit_of c.loop-field.field-iterator) c.loop-field.total inv.3 f (rest edit_of c.next.new.self) c.in-Some.ensures.steps e c.in_ok-edit.was (length c.loop-field.strip) (g.W.WaitingList.limit c.loop-field.list) c.loop-field.auto.strip inv.0 w n c.in_ok-total.ensures.stepped,
    )
