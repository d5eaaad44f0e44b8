use Rattle.std.proofs.Common.{Some, sym, ap, ◌∙◌, ap₂}
use Rattle.gauge.specs.Arrivals.{passed}
use Rattle.gauge.specs.TimesLemmas.{time_same}
use Rattle.gauge.proofs.arrivals.delayed.Goals as goal

pub returns : goal.returns
returns c = ap Some (time_same c.saturating_add.ensures) ∙ sym (ap₂ passed c.in_ok-x.was c.in_ok-y.was)
