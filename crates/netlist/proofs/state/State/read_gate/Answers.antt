use Rattle.std.proofs.Common.{◌-◌, length, take, refl, ◌∙◌, arith, ltb-false, ltb-true}
use Rattle.netlist.specs.Outcomes.{refusal_of, state_on}
use Rattle.netlist.specs.Views.{signals_in}
use Rattle.netlist.proofs.Admitted.{gate_known}
use Rattle.netlist.proofs.Bodies.{carried}
use Rattle.netlist.proofs.Elements.{gate_stops, gate_twice, gate_done}
use Rattle.netlist.proofs.Passes.{no_span}
use Rattle.netlist.proofs.state.State.read_gate.Goals as goal

pub returns-in_err-admit : goal.returns-in_err-admit
returns-in_err-admit c =
    let t = c.args.text.now in
    let s = state_on t c.args.self.now in
    let ps = take (length c.args.names.now - 1) c.args.names.now in
    carried t c.admit.new.self c.from_residual.result c.in_err-admit.field-0.0 c.from_residual.ensures.0 c.from_residual.ensures.1 ∙ gate_stops t s c.args.at c.args.names.now ps no_span (omega (arith, ltb-true, ltb-false)) refl (refusal_of c.in_err-admit.field-0.0) c.in_err-admit.ensures.fault

pub returns-in_err-check_drivers : goal.returns-in_err-check_drivers
returns-in_err-check_drivers c =
    let t = c.args.text.now in
    let s = state_on t c.args.self.now in
    let ps = take (length c.args.names.now - 1) c.args.names.now in
    carried t c.admit.new.self c.from_residual-in_err-check_drivers.result c.in_err-check_drivers.field-0.0 c.from_residual-in_err-check_drivers.ensures.0 c.from_residual-in_err-check_drivers.ensures.1 ∙ gate_twice t s c.args.at c.args.names.now ps no_span (omega (arith, ltb-true, ltb-false)) refl c.in_ok-admit.ensures.fault (signals_in t c.admit.new.self.signals) (c.in_ok-admit.ensures.done refl) (refusal_of c.in_err-check_drivers.field-0.0) c.in_err-check_drivers.ensures

pub number_of-number-requires : goal.number_of-number-requires
number_of-number-requires c =
    let t = c.args.text.now in
    (gate_known (signals_in t c.args.self.now.signals) (signals_in t c.admit.new.self.signals) t c.args.names.now no_span _ (omega (arith, ltb-true, ltb-false)) refl (c.in_ok-admit.ensures.done refl)).1.0

pub pin_numbers-feeders-requires : goal.pin_numbers-feeders-requires
pin_numbers-feeders-requires c =
    let t = c.args.text.now in
    record {
      few = c.in_ok-admit.ensures.pins refl;
      known = (gate_known (signals_in t c.args.self.now.signals) (signals_in t c.admit.new.self.signals) t c.args.names.now no_span _ (omega (arith, ltb-true, ltb-false)) refl (c.in_ok-admit.ensures.done refl)).0;
    }

pub returns : goal.returns
returns c =
    let t = c.args.text.now in
    let s = state_on t c.args.self.now in
    let ps = take (length c.args.names.now - 1) c.args.names.now in
    gate_done t s c.args.at c.args.names.now ps no_span (omega (arith, ltb-true, ltb-false)) refl c.in_ok-admit.ensures.fault (signals_in t c.admit.new.self.signals) (c.in_ok-admit.ensures.done refl) c.number_of-number.result (take (length ps) c.pin_numbers-feeders.result) (signals_in t c.change_named.new.self) c.in_ok-check_drivers.ensures c.number_of-number.ensures.is c.pin_numbers-feeders.ensures c.change_named.ensures
