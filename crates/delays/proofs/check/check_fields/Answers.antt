use Rattle.fields.specs.Lists.{rest}
use Rattle.fields.specs.Says.{entry_of}
use Rattle.std.proofs.Common.{rules}
use Rattle.delays.proofs.Judging.{begins, goes_on, stops}
use Rattle.delays.proofs.Marking.{small}
use Rattle.delays.proofs.check.check_fields.Goals as goal

pub loop-field-init : goal.loop-field-init
loop-field-init c = let b = begins (small c.args.network.now) (rest entry_of c.args.fields) in search rules

pub loop-field-preserved : goal.loop-field-preserved
loop-field-preserved c =
    let ok = c.in_ok-check_entry.ensures in
    goes_on (small c.args.network.now) (rest entry_of c.args.fields) (rest entry_of c.loop-field.field-iterator) c.loop-field.invariant c.in-Some.field (rest entry_of c.next.new.self) c.in-Some.ensures.steps c.in_ok-field.field-0 c.in_ok-field.was ok.answers c.check_entry.new.named ok.marked

pub returns-in_err-check_entry : goal.returns-in_err-check_entry
returns-in_err-check_entry c =
    let stop = stops (small c.args.network.now) (rest entry_of c.args.fields) (rest entry_of c.loop-field.field-iterator) c.loop-field.invariant c.in-Some.field (rest entry_of c.next.new.self) c.in-Some.ensures.steps c.in_ok-field.field-0 c.in_ok-field.was c.in_err-check_entry.field-0.0 c.in_err-check_entry.ensures.answers in
    search rules
