use Rattle.std.proofs.Common.{Some, ap, arith}
use Rattle.gauge.specs.TimesLemmas.{time_same}
use Rattle.gauge.proofs.arrivals.at.Goals as goal

pub returns : goal.returns
returns c = ap Some (time_same (omega arith))
