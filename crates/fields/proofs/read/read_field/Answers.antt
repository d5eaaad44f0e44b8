use Rattle.std.proofs.Common.{rules, Ok, Err}
use Rattle.fields.proofs.Reading.{reads_open, reads_shut}
use Rattle.fields.proofs.read.read_field.Goals as goal

pub returns-in_err-field : goal.returns-in_err-field
returns-in_err-field g c =
    let reads = reads_shut g.met.T.Says.form c.args.file.now c.args.at c.in_err-field.field-0.0 c.in_err-field.ensures in
    search rules

pub returns-in_err-said : goal.returns-in_err-said
returns-in_err-said g c =
    let reads = reads_open g.met.T.Says.form c.args.file.now c.args.at _ _ c.in_ok-field.ensures (Err c.in_err-said.field-0.0) c.in_err-said.ensures in
    search rules

pub returns : goal.returns
returns g c =
    let reads = reads_open g.met.T.Says.form c.args.file.now c.args.at _ _ c.in_ok-field.ensures (Ok c.in_ok-said.said) c.in_ok-said.ensures in
    search rules
