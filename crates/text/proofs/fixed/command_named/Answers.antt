use Rattle.std.proofs.Common.{◌≡◌, ℕ, List, length, codes, sym, ap, rules}
use Rattle.std.proofs.lemmas.Slice.Eq.{HasBytesAt, text_from_reads}
use Rattle.text.specs.Words.{command_named}
use Rattle.text.proofs.fixed.command_named.Goals as goal

-- in the arm of a text, that text's command
told : (t w : List ℕ) → length w ≡ length t → HasBytesAt w 0 t → command_named t ≡ command_named w
told t w n h = sym (ap command_named (text_from_reads w t n h))

pub returns-in-46 : goal.returns-in-46
returns-in-46 c = told (codes ".model") c.args.word.now (search rules) (search rules)

pub returns-in-46-2 : goal.returns-in-46-2
returns-in-46-2 c = told (codes ".inputs") c.args.word.now (search rules) (search rules)

pub returns-in-46-3 : goal.returns-in-46-3
returns-in-46-3 c = told (codes ".outputs") c.args.word.now (search rules) (search rules)

pub returns-in-46-4 : goal.returns-in-46-4
returns-in-46-4 c = told (codes ".names") c.args.word.now (search rules) (search rules)

pub returns-in-46-5 : goal.returns-in-46-5
returns-in-46-5 c = told (codes ".latch") c.args.word.now (search rules) (search rules)
