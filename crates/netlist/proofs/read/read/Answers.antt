use Rattle.std.proofs.Common.{Ok, Err, Result, vec_items, sym, subst}
use Rattle.network.specs.declared.network.Network.{Network}
use Rattle.fault.specs.declared.cause.Cause.TheVariants.{Cycle}
use Rattle.netlist.specs.declared.netlist_fault.NetlistFault.{NetlistFault}
use Rattle.netlist.specs.declared.netlist_fault.NetlistFault.TheVariants.{OfNetlist}
use Rattle.netlist.specs.Cycles.{Closes, Means, network_on}
use Rattle.netlist.specs.Faults.{fault}
use Rattle.netlist.specs.Reading.{Verdict}
use Rattle.netlist.proofs.Firsts.{err_is}
use Rattle.netlist.proofs.Joining.{stands, cycle_refused}
use Rattle.netlist.proofs.read.read.Goals as goal

pub returns-in_err-of_signals : goal.returns-in_err-of_signals
returns-in_err-of_signals c =
    let t = c.args.text.now in
    let y = c.in_err-of_signals.field-0.0 in
    let e = c.from_residual-in_err-of_signals in
    subst (λ (r : Result Network NetlistFault). Means t (network_on t r)) (sym (err_is e.result (OfNetlist (fault Cycle y.name.at)) e.ensures.0 e.ensures.1))
    (subst (λ (v : Verdict). Closes v (network_on t (Err (OfNetlist (fault Cycle y.name.at))))) c.in_ok-draft.ensures.is
    (cycle_refused t (vec_items c.in_ok-draft.draft.signals) y c.in_err-of_signals.ensures))

pub returns : goal.returns
returns c =
    subst (λ (v : Verdict). Closes v (network_on c.args.text.now (Ok c.in_ok-of_signals.field-0))) c.in_ok-draft.ensures.is
    (stands c.args.text.now (vec_items c.in_ok-draft.draft.signals) c.in_ok-of_signals.field-0 c.in_ok-of_signals.ensures)
