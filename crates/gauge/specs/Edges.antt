-- The edges in words.
use Rattle.std.specs.Prelude.{ℕ, List, codes}
use Rattle.gauge.specs.declared.edge.Edge.{Edge}
use Rattle.gauge.specs.declared.edge.Edge.TheVariants.{Rise, Fall}

abbrev pub name_of : Edge → List ℕ
name_of Rise = codes "RISE"
name_of Fall = codes "FALL"
