use Rattle.std.proofs.Common.{false, List, refl, ap, ◌∙◌}
use Rattle.netlist.specs.declared.stage.Stage.TheVariants.{Body}
use Rattle.netlist.specs.Outcomes.{refusal_of, state_on}
use Rattle.netlist.specs.Effects.{state, effect}
use Rattle.netlist.specs.Signals as spec
use Rattle.netlist.specs.Signals.{driven, input, on_each}
use Rattle.netlist.specs.Statements.{inputs}
use Rattle.netlist.specs.Views.{pieces, signals_in}
use Rattle.netlist.proofs.Bodies.{carried, stop_names, stop_twice, no_fault}
use Rattle.netlist.proofs.state.State.read_inputs.Goals as goal

pub returns-in_err-admit : goal.returns-in_err-admit
returns-in_err-admit c =
    let t = c.args.text.now in
    let s = state_on t c.args.self.now in
    let ns = pieces t c.args.names.now in
    carried t c.admit.new.self c.from_residual.result c.in_err-admit.field-0.0 c.from_residual.ensures.0 c.from_residual.ensures.1 ∙ stop_names s c.args.at ns false ns (effect s (inputs ns)) (refusal_of c.in_err-admit.field-0.0) c.in_err-admit.ensures.fault

pub returns-in_err-check_drivers : goal.returns-in_err-check_drivers
returns-in_err-check_drivers c =
    let t = c.args.text.now in
    let s = state_on t c.args.self.now in
    let ns = pieces t c.args.names.now in
    carried t c.admit.new.self c.from_residual-in_err-check_drivers.result c.in_err-check_drivers.field-0.0 c.from_residual-in_err-check_drivers.ensures.0 c.from_residual-in_err-check_drivers.ensures.1 ∙ stop_twice s c.args.at ns false ns (effect s (inputs ns)) c.in_ok-admit.ensures.fault (signals_in t c.admit.new.self.signals) (c.in_ok-admit.ensures.done refl) (refusal_of c.in_err-check_drivers.field-0.0) c.in_err-check_drivers.ensures

pub returns : goal.returns
returns c =
    let t = c.args.text.now in
    let s = state_on t c.args.self.now in
    let ns = pieces t c.args.names.now in
    let d = c.in_ok-admit.ensures.done refl in
    no_fault s c.args.at ns false ns (effect s (inputs ns)) c.in_ok-admit.ensures.fault (signals_in t c.admit.new.self.signals) d (state Body (signals_in t c.change_each.new.self)) c.in_ok-check_drivers.ensures (ap (state Body) (c.change_each.ensures ∙ ap (λ (xs : List spec.Signal). on_each (driven input) xs ns) d))
