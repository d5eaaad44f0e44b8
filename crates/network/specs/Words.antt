-- A pin's sense as a word.
use Rattle.std.specs.Prelude.{ℕ, List, codes}
use Rattle.network.specs.declared.sense.Sense.{Sense}
use Rattle.network.specs.declared.sense.Sense.TheVariants.{Positive, Negative, Both, Neither}

abbrev pub word_of : Sense → List ℕ
word_of Positive = codes "POSITIVE"
word_of Negative = codes "NEGATIVE"
word_of Both = codes "BOTH"
word_of Neither = codes "NEITHER"
