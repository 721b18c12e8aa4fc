use Rattle.std.proofs.Common.{inl, refl, sym, subst, arith, length}
use Rattle.std.proofs.lemmas.List.{take_all}
use Rattle.mold_capture.specs.Consistent.{Consistent}
use Rattle.mold_capture.specs.Verdict.{IsVerdict}
use Rattle.mold_capture.proofs.CheckLemmas.{checked_refused, checked_more, verdict_on, bytes_of, length-bytes_of, bytes_at, none_checked, all_checked}
use Rattle.mold_capture.proofs.OutcomeLemmas.{refused_answers, verdict_answers}
use Rattle.mold_capture.proofs.checking.check.Goals as goal

pub loop-index-init : goal.loop-index-init
loop-index-init c = none_checked (bytes_of c.args.list.now) c.new-checker.result c.new-checker.ensures

pub returns-in-Err-clause-refused : goal.returns-in-Err-clause-refused
returns-in-Err-clause-refused c =
    checked_refused c.reading_law.ensures.read (record {
      none = c.refusal_law.ensures.none;
      admitted = c.refusal_law.ensures.admitted;
      same = c.refusal_law.ensures.same;
    }) (bytes_of c.args.list.now) c.loop-index.index _ c.loop-index.checker
    c.in-Err.reason c.loop-index.invariant
    (omega (arith, length-bytes_of c.args.list.now, c.loop-index-test.true))
    c.in-Err.ensures.refused c.in-Err.ensures.new
    (bytes_at c.args.list.now c.loop-index.index _ c.loop-index-test.true)

pub returns-in-Err-clause-outcome : goal.returns-in-Err-clause-outcome
returns-in-Err-clause-outcome c =
    refused_answers c.reading_law.ensures.read (bytes_of c.args.list.now) c.loop-index.index c.in-Err.reason
    (checked_refused c.reading_law.ensures.read (record {
      none = c.refusal_law.ensures.none;
      admitted = c.refusal_law.ensures.admitted;
      same = c.refusal_law.ensures.same;
    }) (bytes_of c.args.list.now) c.loop-index.index _ c.loop-index.checker
    c.in-Err.reason c.loop-index.invariant
    (omega (arith, length-bytes_of c.args.list.now, c.loop-index-test.true))
    c.in-Err.ensures.refused c.in-Err.ensures.new
    (bytes_at c.args.list.now c.loop-index.index _ c.loop-index-test.true))

pub loop-index-preserved : goal.loop-index-preserved
loop-index-preserved c =
    checked_more c.reading_law.ensures.read (record {
      none = c.refusal_law.ensures.none;
      admitted = c.refusal_law.ensures.admitted;
      same = c.refusal_law.ensures.same;
    }) (bytes_of c.args.list.now) c.loop-index.index _ c.loop-index.checker
    c.add.new.self c.in_default.ensures.spelled.0 c.loop-index.invariant
    (omega (arith, length-bytes_of c.args.list.now, c.loop-index-test.true))
    c.in_default.ensures.ok
    (bytes_at c.args.list.now c.loop-index.index _ c.loop-index-test.true)
    c.in_default.ensures.spelled.1 c.in_default.ensures.taken

pub returns-in-Ok-clause-verdict : goal.returns-in-Ok-clause-verdict
returns-in-Ok-clause-verdict c =
    let list = bytes_of c.args.list.now in
    let all = all_checked list c.loop-index.index c.loop-index.checker
    (omega (arith, length-bytes_of c.args.list.now, c.loop-index-test.false)) c.loop-index.invariant
    in
    verdict_on c.reading_law.ensures.read list all.0 c.in-Ok.verdict
    (subst (IsVerdict c.in-Ok.verdict) all.1 c.in-Ok.ensures)

pub returns-in-Ok-clause-outcome : goal.returns-in-Ok-clause-outcome
returns-in-Ok-clause-outcome c =
    let list = bytes_of c.args.list.now in
    let all = all_checked list c.loop-index.index c.loop-index.checker
    (omega (arith, length-bytes_of c.args.list.now, c.loop-index-test.false)) c.loop-index.invariant
    in
    verdict_answers c.reading_law.ensures.read list c.in-Ok.verdict
    (verdict_on c.reading_law.ensures.read list all.0 c.in-Ok.verdict
    (subst (IsVerdict c.in-Ok.verdict) all.1 c.in-Ok.ensures))

pub returns-clause-outcome : goal.returns-clause-outcome
returns-clause-outcome c = λ outcome told. inl refl

pub returns-clause-refused : goal.returns-clause-refused
returns-clause-refused c =
    let list = bytes_of c.args.list.now in
    let all = all_checked list c.loop-index.index c.loop-index.checker
    (omega (arith, length-bytes_of c.args.list.now, c.loop-index-test.false)) c.loop-index.invariant
    in (
      omega (arith, length-bytes_of c.args.list.now),
      subst Consistent (sym (take_all (length c.args.list.now) list (omega (arith, length-bytes_of c.args.list.now)))) all.0,
      λ below. absurd (omega (arith, below, length-bytes_of c.args.list.now)),
    )
