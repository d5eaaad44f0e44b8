use Rattle.std.proofs.Common.{sym, ap, ◌∙◌}
use Rattle.netlist.specs.Outcomes.{first_of, refusal, refusal_of}
use Rattle.netlist.specs.Views.{signals_in}
use Rattle.netlist.proofs.Firsts.{some_none, err_is}
use Rattle.netlist.proofs.Mentions.{Many, full_here, fold_none, few_none}
use Rattle.netlist.proofs.Numbering.{few_in}
use Rattle.netlist.proofs.Passes.{no_span}
use Rattle.netlist.proofs.signals.Signals.mention_all.Goals as goal

pub returns-in_err-mention : goal.returns-in_err-mention
returns-in_err-mention c =
    let e = ap refusal (err_is c.from_residual.result c.in_err-mention.field-0.0 c.from_residual.ensures.0 c.from_residual.ensures.1) in
    record {
      fault = e ∙ full_here c.args.text.now (signals_in c.args.text.now c.loop-w.self) c.args.names.now c.loop-w.w-index _ no_span (refusal_of c.in_err-mention.field-0.0) c.loop-w-test.true c.in_err-mention.ensures.fault c.loop-w.invariant;
      done = λ n. absurd (some_none (sym e ∙ n));
    }

pub returns : goal.returns
returns c =
    let q = fold_none c.args.text.now (signals_in c.args.text.now c.loop-w.self) c.args.names.now c.loop-w.w-index _ c.loop-w-test.false c.loop-w.invariant in
    record { fault = sym (ap (λ ps. first_of (Many ps)) (few_none (signals_in c.args.text.now c.loop-w.self) _ (few_in c.args.text.now c.loop-w.self) q)); done = λ _. q }
