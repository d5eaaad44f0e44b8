use Rattle.std.proofs.Common.{refl, ◌∙◌}
use Rattle.text.specs.declared.word_fault.WordFault.TheVariants.{BadByte}
use Rattle.text.proofs.Places.{cut_short, bad_found}
use Rattle.text.proofs.scan.check_bytes.Goals as goal

pub returns-in-Some-bad_at : goal.returns-in-Some-bad_at
returns-in-Some-bad_at c =
    bad_found BadByte c.args.from _ _ _ _ _ _ c.in-Some-bad_at.ensures.is (c.in-Some.ensures.lookup.0.2 ∙ cut_short c.args.text.now c.args.from c.args.end c.min.result c.min.ensures) refl refl

pub returns-in-None : goal.returns-in-None
returns-in-None c =
    bad_found BadByte c.args.from _ _ _ _ _ _ c.in-None.ensures.is (c.in-Some.ensures.lookup.0.2 ∙ cut_short c.args.text.now c.args.from c.args.end c.min.result c.min.ensures) refl refl
