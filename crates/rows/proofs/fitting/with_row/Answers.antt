use Rattle.rows.specs.Views.{row_on, cover_on}
use Rattle.rows.proofs.Covering.{matched_more, cover_more}
use Rattle.rows.proofs.fitting.with_row.Goals as goal

pub returns-clause-cover : goal.returns-clause-cover
returns-clause-cover c = cover_more (cover_on c.args.gate) (row_on c.args.row) c.is_one.result _ c.is_one.ensures (matched_more c.args.gate.matched c.with_settings.result c.args.row.marks.now c.with_settings.ensures)
