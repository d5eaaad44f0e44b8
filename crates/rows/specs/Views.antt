-- What the code's rows and gates stand for.
use Rattle.std.specs.Prelude.{map, nat_eq}
use Rattle.network.specs.declared.gate.Gate.{Gate}
use Rattle.rows.specs.Rows as rows
use Rattle.std.specs.Int.{bit_at}
use Rattle.rows.specs.declared.row.Row.{Row}

abbrev pub row_on : Row → rows.Row
row_on r = record { marks = r.marks.now; value = r.value.now }

-- setting s is matched where bit s is 1
abbrev pub cover_on : Gate → rows.Cover
cover_on g = record { value = g.last_word; matched = map (λ s. nat_eq (bit_at g.matched s) 1) rows.settings }
