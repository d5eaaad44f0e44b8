-- How the fault of a session is refused.
use Rattle.fault.specs.declared.cause.Cause.TheVariants as cause
use Rattle.fault.specs.declared.refusal.Refusal.{Refusal}
use Rattle.delays.specs.Faults as delays
use Rattle.netlist.specs.Outcomes as netlist
use Rattle.replay.specs.declared.faults.ReplayFault.{ReplayFault}
use Rattle.replay.specs.declared.faults.ReplayFault.TheVariants.{TooFewCells, Netlist, Delays}

abbrev pub refusal_of : ReplayFault → Refusal
refusal_of TooFewCells = record { cause = cause.TooShort; place = 0 }
refusal_of (Netlist f) = netlist.refusal_of f
refusal_of (Delays d) = delays.refusal_of d
