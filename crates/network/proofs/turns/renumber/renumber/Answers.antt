use Rattle.std.proofs.Common.{ℕ, Bool, length, get_or, arith}
use Rattle.network.specs.Marks.{marked}
use Rattle.network.proofs.Places.{many_split}
use Rattle.network.proofs.turns.renumber.renumber.Goals as goal

pub number-marked-requires : goal.number-marked-requires
number-marked-requires c =
    let test : ℕ → Bool = λ u. marked c.args.marks.now (get_or c.args.order.now u 0) in
    record { few = omega (arith, many_split test (length c.args.order.now), c.requires.few); distinct = c.requires.distinct; fits = c.requires.fits }

pub number-requires : goal.number-requires
number-requires c =
    let test : ℕ → Bool = λ u. marked c.args.marks.now (get_or c.args.order.now u 0) in
    record {
      few = omega (arith, many_split test (length c.args.order.now), c.number-marked.ensures.counted, c.requires.few);
      distinct = record { within = λ t l. omega (arith, c.requires.distinct.within t l, c.number-marked.auto.turn_of); once = c.requires.distinct.once };
      fits = omega (arith, c.requires.fits, c.number-marked.auto.turn_of);
    }
