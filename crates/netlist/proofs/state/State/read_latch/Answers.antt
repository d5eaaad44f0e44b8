use Rattle.std.proofs.Common.{◌-◌, ◌++◌, length, take, drop, refl, ap, ◌∙◌, arith, ltb-false, ltb-true}
use Rattle.std.proofs.lemmas.List.{take_rest}
use Rattle.netlist.specs.Outcomes.{refusal_of, state_on, first_judged}
use Rattle.netlist.specs.Reading.{refused}
use Rattle.netlist.specs.Views.{signals_in, trigger_words, initial_word}
use Rattle.netlist.proofs.Admitted.{latch_known}
use Rattle.netlist.proofs.Bodies.{carried}
use Rattle.netlist.proofs.Elements.{latch_stops, latch_twice, latch_done}
use Rattle.netlist.proofs.Passes.{no_span}
use Rattle.netlist.proofs.Shapes.{latch_short}
use Rattle.netlist.proofs.state.State.read_latch.Goals as goal

pub returns-in_default : goal.returns-in_default
returns-in_default c =
    let t = c.args.text.now in
    ap (λ f. refused (refusal_of f)) c.new.ensures ∙ ap (first_judged (state_on t c.args.self.now) c.args.at) (latch_short t c.args.rest.now (omega (arith, ltb-true, ltb-false)))

pub returns-in_err-admit : goal.returns-in_err-admit
returns-in_err-admit c =
    let t = c.args.text.now in
    let s = state_on t c.args.self.now in
    let ws = take (length c.args.rest.now - 2) (drop 2 c.args.rest.now) in
    carried t c.admit.new.self c.from_residual.result c.in_err-admit.field-0.0 c.from_residual.ensures.0 c.from_residual.ensures.1 ∙ latch_stops t s c.args.at c.args.rest.now ws no_span (omega (arith, ltb-true, ltb-false)) (take_rest c.args.rest.now 2) c.in-Some.ensures.0 (take 2 c.args.rest.now) refl (refusal_of c.in_err-admit.field-0.0) c.in_err-admit.ensures.fault

pub returns-in_err-check_drivers : goal.returns-in_err-check_drivers
returns-in_err-check_drivers c =
    let t = c.args.text.now in
    let s = state_on t c.args.self.now in
    let ws = take (length c.args.rest.now - 2) (drop 2 c.args.rest.now) in
    carried t c.admit.new.self c.from_residual-in_err-check_drivers.result c.in_err-check_drivers.field-0.0 c.from_residual-in_err-check_drivers.ensures.0 c.from_residual-in_err-check_drivers.ensures.1 ∙ latch_twice t s c.args.at c.args.rest.now ws no_span (omega (arith, ltb-true, ltb-false)) (take_rest c.args.rest.now 2) c.in-Some.ensures.0 (take 2 c.args.rest.now) refl c.in_ok-admit.ensures.fault (signals_in t c.admit.new.self.signals) (c.in_ok-admit.ensures.done refl) (refusal_of c.in_err-check_drivers.field-0.0) c.in_err-check_drivers.ensures

pub number_of-requires : goal.number_of-requires
number_of-requires c =
    let t = c.args.text.now in
    latch_known (signals_in t c.args.self.now.signals) (signals_in t c.admit.new.self.signals) t c.args.rest.now no_span _ (omega (arith, ltb-true, ltb-false)) refl (c.in_ok-admit.ensures.done refl)

pub returns : goal.returns
returns c =
    let t = c.args.text.now in
    let s = state_on t c.args.self.now in
    let ws = take (length c.args.rest.now - 2) (drop 2 c.args.rest.now) in
    latch_done t s c.args.at c.args.rest.now ws no_span (omega (arith, ltb-true, ltb-false)) (take_rest c.args.rest.now 2) c.in-Some.ensures.0 (take 2 c.args.rest.now) refl c.in_ok-admit.ensures.fault (signals_in t c.admit.new.self.signals) (c.in_ok-admit.ensures.done refl) c.number_of.result (trigger_words c.in-Some.trigger ++ initial_word c.in-Some.initial) (signals_in t c.change_named.new.self) (signals_in t c.change_named-2.new.self) c.in_ok-check_drivers.ensures c.number_of.ensures.is c.in-Some.ensures.1 c.change_named.ensures c.change_named-2.ensures
