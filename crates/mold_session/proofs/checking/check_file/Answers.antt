use Rattle.std.proofs.Common.{arith, sym, ◌∙◌}
use Rattle.mold_session.proofs.CheckingLemmas.{body_of_3, no_fault, no_fault_after, on_ok}
use Rattle.mold_session.proofs.checking.check_file.Goals as goal

pub returns-in-Err-clause-refused : goal.returns-in-Err-clause-refused
returns-in-Err-clause-refused c = c.in-Err.ensures.refused c.args.most

pub returns-in-Ok-count_messages-clause-valid : goal.returns-in-Ok-count_messages-clause-valid
returns-in-Ok-count_messages-clause-valid c = on_ok c.check_count.result _ _
    (λ same. no_fault c.args.most c.in-Ok-count_messages.found c.args.bytes.now c.in-Ok.found.0.now c.in-Ok.found.1
    (omega (arith, c.ranges.most.fits)) (sym c.has_records.ensures ∙ c.if-has_records.false) c.in-Ok.ensures.body c.in-Ok-count_messages.ensures.counted same)
    c.check_count.ensures.same

pub returns-then-has_records-clause-valid : goal.returns-then-has_records-clause-valid
returns-then-has_records-clause-valid c = on_ok c.check_records.result _ _
    (λ ended. no_fault_after c.args.most c.args.bytes.now c.in-Ok.found.0.now (omega (arith, c.ranges.most.fits))
    (body_of_3 c.args.bytes.now c.in-Ok.found.0.now c.in-Ok.found.1 (sym c.has_records.ensures ∙ c.if-has_records.true)
    c.in-Ok.ensures.body)
    ended)
    c.check_records.ensures.ended
