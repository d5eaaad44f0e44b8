use Rattle.std.proofs.Common.{max, ap, ◌∙◌}
use Rattle.std.specs.Int.{bit_at}
use Rattle.std.proofs.lemmas.Nat.Bits.{bit_at_or}
use Rattle.rows.proofs.settings.with_settings.Goals as goal

pub returns : goal.returns
returns c = λ s h. bit_at_or c.args.matched c.row_settings.result s ∙ ap (max (bit_at c.args.matched s)) (c.row_settings.ensures s h)
