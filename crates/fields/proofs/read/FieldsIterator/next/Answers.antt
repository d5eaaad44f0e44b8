use Rattle.std.proofs.Common.{rules}
use Rattle.fields.specs.Fields.{content_of}
use Rattle.fields.proofs.Reading.{step_open, step_shut}
use Rattle.fields.proofs.read.FieldsIterator.next.Goals.{in-Ok, in-Err}
use Rattle.fields.proofs.read.FieldsIterator.next.Goals as goal

pub returns-clause-steps : goal.returns-clause-steps
returns-clause-steps g c =
    let step = step_open g.T.Says.says c.args.self.now.file.now c.args.self.now.at c.if-self.false in
    let last = step_shut g.T.Says.says c.args.self.now.file.now c.args.self.now.at c.if-self.false in
    elim c.match-field_at.branch [
      | in-Ok w ↦
          let more = step w.in-Ok.next (content_of w.in-Ok.field) w.in-Ok.ensures w.decode.result w.decode.ensures in
          search rules
      | in-Err w ↦
          let more = last w.in-Err.fault w.in-Err.ensures in
          search rules
    ]

pub returns-clause-goes : goal.returns-clause-goes
returns-clause-goes g c = let step = returns-clause-steps g c in search rules
