use Rattle.fields.specs.Lists.{rest}
use Rattle.fields.specs.Says.{entry_of}
use Rattle.delays.specs.Outlines.{outline_of}
use Rattle.delays.proofs.Judging.{Going}
use Rattle.delays.proofs.check.check_fields.Given as goal

abbrev pub invariant-loop-field : goal.invariant-loop-field
invariant-loop-field l = Going (outline_of l.network) (rest entry_of l.initial.fields) (rest entry_of l.field-iterator) l.named
