use Rattle.std.proofs.Common.{◌-◌, take, drop, vec_items, ap, ◌∙◌}
use Rattle.text.specs.Text.{piece}
use Rattle.text.proofs.Linewise.{line_words_is}
use Rattle.netlist.specs.declared.netlist_fault.NetlistFault.TheVariants.{OfWord}
use Rattle.netlist.specs.Outcomes.{state_on, words_judged}
use Rattle.netlist.specs.Views.{pieces}
use Rattle.netlist.proofs.Bodies.{carried}
use Rattle.netlist.proofs.Numbering.{few_in}
use Rattle.netlist.proofs.Stepwise.{line_bad, line_good}
use Rattle.netlist.proofs.state.State.read_line.Goals as goal

pub returns-in_err-check_bytes : goal.returns-in_err-check_bytes
returns-in_err-check_bytes c =
    let t = c.args.text.now in
    carried t c.args.self.now c.from_residual.result (OfWord c.in_err-check_bytes.field-0.0) c.from_residual.ensures.0 c.from_residual.ensures.1
    ∙ line_bad (state_on t c.args.self.now) (piece c.args.from (take (c.args.end - c.args.from) (drop c.args.from t))) (few_in t c.args.self.now.signals) c.in_err-check_bytes.field-0.0 c.in_err-check_bytes.ensures

pub returns : goal.returns
returns c =
    let t = c.args.text.now in
    let s = state_on t c.args.self.now in
    c.read_words.ensures
    ∙ (ap (λ v. words_judged s (pieces t v)) c.as_slice.ensures
    ∙ line_good s (piece c.args.from (take (c.args.end - c.args.from) (drop c.args.from t))) (few_in t c.args.self.now.signals) (pieces t (vec_items c.fill.new.self.items)) c.in_ok-check_bytes.ensures (line_words_is t c.args.from c.args.end _ c.requires.ends c.fill.ensures))
