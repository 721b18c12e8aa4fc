use Rattle.mold_session.proofs.CheckingLemmas.{counted_record_fault, one_record_counted}
use Rattle.mold_session.proofs.checking.check_records.Goals as goal

pub returns-in-Err-clause-refused : goal.returns-in-Err-clause-refused
returns-in-Err-clause-refused c =
    counted_record_fault c.args.most c.messages.count c.args.bytes.now c.messages.rest.now c.in-Err.error
    c.messages.invariant c.in-Err.ensures.refused

pub messages-preserved : goal.messages-preserved
messages-preserved c =
    one_record_counted c.args.most c.messages.count c.args.bytes.now c.messages.rest.now c.in-Ok-Some.behind.now
    c.messages.invariant (rw c.in-Ok-Some.field-0-is at c.in-Ok-Some.ensures.few)
    (rw c.in-Ok-Some.field-0-is at c.in-Ok-Some.ensures.skipped)
