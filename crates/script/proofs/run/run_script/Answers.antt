use Rattle.std.proofs.Common.{◌≡◌, ℕ, length, replicate, Some, None, Err, sym, ap, ◌∙◌, subst}
use Rattle.std.proofs.lemmas.Result.{err_from_is_err_and}
use Rattle.gauge.specs.Matrix.{edge_ops}
use Rattle.fields.specs.Lists.{fields}
use Rattle.fields.specs.Says.{edit_of}
use Rattle.opening.specs.Boards.{View, view_of}
use Rattle.book.specs.Answers.{unless, script, judge_script}
use Rattle.book.proofs.Judged.{no_fault, a_fault}
use Rattle.board.specs.Books.{book_of, lent_of}
use Rattle.board.specs.Runs.{Taken, Scripted}
use Rattle.board.proofs.Chaining.{calls_follow}
use Rattle.script.proofs.Ending.{script_refused, script_taken, ends_before}
use Rattle.script.proofs.run.run_script.Goals as goal

pub returns-in_err-check_script : goal.returns-in_err-check_script
returns-in_err-check_script g c =
    let r = g.G.Semiring.ops in
    let delays = g.G.Gauge.delays in
    let strip = length c.args.strip.now in
    let lim = g.W.WaitingList.limit c.args.list.now in
    let file = c.args.file.now in
    let x = view_of c.args.board in
    let a = c.from_residual.result in
    let p = err_from_is_err_and a c.from_residual.ensures.1 in
    let told : Err p.0 ≡ unless (judge_script r delays (lent_of x strip c.limit.result) (book_of (edge_ops r) x) file) (tt {0}) = let q = p.2 in let w = c.in_err-check_script.ensures in cc in
    let judged : judge_script r delays (lent_of x strip lim) (book_of (edge_ops r) x) file ≡ Some p.0 =
    sym (ap (λ (n : ℕ). judge_script r delays (lent_of x strip n) (book_of (edge_ops r) x) file) (c.limit.ensures.value ∙ c.clear.ensures.limit)) ∙ a_fault _ p.0 (tt {0}) told in
    let done : Scripted r delays strip lim file x x a = script_refused r delays strip lim file x x p.0 a judged p.1 in
    record {
      scripted = done;
      follows = calls_follow r delays g.met.G.Semiring.laws strip lim (script file) x x a done;
      stopped = ends_before r delays strip lim file x x a done;
      blank = c.drop-marks.ensures;
      empty = c.clear.ensures.empty;
      limit = c.clear.ensures.limit;
    }

pub returns : goal.returns
returns g c =
    let r = g.G.Semiring.ops in
    let delays = g.G.Gauge.delays in
    let strip = length c.args.strip.now in
    let lim = g.W.WaitingList.limit c.args.list.now in
    let file = c.args.file.now in
    let x = view_of c.args.board in
    let b = c.take_fields.new.board in
    let y : View _ = record { network = b.0; starts = b.1.0; weights = b.1.1.0; values = b.1.1.1.0 } in
    let a = c.take_fields.result in
    let told = c.in_ok-check_script.ensures in
    let judged : judge_script r delays (lent_of x strip lim) (book_of (edge_ops r) x) file ≡ None =
    sym (ap (λ (n : ℕ). judge_script r delays (lent_of x strip n) (book_of (edge_ops r) x) file) (c.limit.ensures.value ∙ c.clear.ensures.limit)) ∙ no_fault _ (tt {0}) (tt {0}) told in
    let done : Scripted r delays strip lim file x y a =
    script_taken r delays strip lim file x y a judged (subst (λ (n : ℕ). Taken r delays strip n (fields edit_of file) 0 x y a) c.clear.ensures.limit c.take_fields.ensures.taken) in
    record {
      scripted = done;
      follows = calls_follow r delays g.met.G.Semiring.laws strip lim (script file) x y a done;
      stopped = ends_before r delays strip lim file x y a done;
      blank = c.drop-marks-2.ensures ∙ ap (λ (n : ℕ). replicate {A = ℕ} n 0) c.take_fields.auto.strip;
      empty = c.take_fields.ensures.empty;
      limit = c.take_fields.ensures.limit ∙ c.clear.ensures.limit;
    }
