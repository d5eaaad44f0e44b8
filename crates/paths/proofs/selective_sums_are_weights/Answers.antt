use Rattle.paths.proofs.Selective.{sum_is_weight, weights_absorbed}
use Rattle.paths.proofs.selective_sums_are_weights.Goals as goal

pub returns : goal.returns
returns g c = record { some = sum_is_weight; every = λ r laws selects. weights_absorbed r selects laws }
