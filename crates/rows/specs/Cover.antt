-- What the rows of a gate say together.
use Rattle.std.specs.Prelude.{◌≡◌, List, map, fold}
use Rattle.std.specs.List.{list_any}
use Rattle.rows.specs.Rows.{Row, Cover, with_row, no_rows, matches, settings}

-- the rows of this list
abbrev pub after_rows : List Row → Cover
after_rows rs = fold (λ (c : Cover) (r : Row). with_row r c) no_rows rs

-- a setting is matched exactly where some row of the list matches it
abbrev pub RowsCover : Type 0
RowsCover = (rs : List Row) → (after_rows rs).matched ≡ map (λ s. list_any (λ (r : Row). matches r.marks s) rs) settings
