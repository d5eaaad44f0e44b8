use Rattle.rows.proofs.Covering.{rows_cover}
use Rattle.rows.proofs.laws.rows_cover.Goals as goal

pub returns : goal.returns
returns c = rows_cover
