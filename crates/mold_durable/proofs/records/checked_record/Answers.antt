use Rattle.std.proofs.Common.{List, ℕ, length, refl, subst, sym, ◌∙◌, arith}
use Rattle.std.proofs.lemmas.Bool.{eqb-false}
use Rattle.mold_session.specs.FileFault.{RecordFault, bad_kind}
use Rattle.mold_durable.specs.Reading.{file_error}
use Rattle.mold_durable.proofs.ReadingLemmas.{closing_of, two_bytes}
use Rattle.mold_durable.proofs.records.checked_record.Goals as goal

pub returns-in-Err-clause-refused : goal.returns-in-Err-clause-refused
returns-in-Err-clause-refused c =
    subst (λ (t : List ℕ). RecordFault c.args.most c.args.count t (file_error c.in-Err.error))
    (sym (two_bytes c.args.rest.now c.in-Some.record.now c.in-Some-split_first.body.now c.in-Some.gate.now
    c.in-Some-split_first.kind.now 0 c.in-Some.ensures.cases.0 c.in-Some-split_first.ensures.cases.0
    c.if-gate-ne-OPEN_GATE.false c.if-kind-eq-MESSAGE_KIND.true))
    c.in-Err.ensures.refused

pub returns-then-kind-ne-CLOSING_KIND-clause-refused : goal.returns-then-kind-ne-CLOSING_KIND-clause-refused
returns-then-kind-ne-CLOSING_KIND-clause-refused c = (
  refl,
  bad_kind c.in-Some-split_first.kind.now c.in-Some-split_first.body.now
      (two_bytes c.args.rest.now c.in-Some.record.now c.in-Some-split_first.body.now c.in-Some.gate.now
      c.in-Some-split_first.kind.now c.in-Some-split_first.kind.now c.in-Some.ensures.cases.0
      c.in-Some-split_first.ensures.cases.0 c.if-gate-ne-OPEN_GATE.false refl)
      (omega (arith, c.if-kind-eq-MESSAGE_KIND.false, c.if-kind-ne-CLOSING_KIND.true)),
)

pub returns-clause-next : goal.returns-clause-next
returns-clause-next c =
    closing_of c.args.rest.now c.in-Some-split_first.body.now
    (two_bytes c.args.rest.now c.in-Some.record.now c.in-Some-split_first.body.now c.in-Some.gate.now
    c.in-Some-split_first.kind.now 1 c.in-Some.ensures.cases.0 c.in-Some-split_first.ensures.cases.0
    c.if-gate-ne-OPEN_GATE.false c.if-kind-ne-CLOSING_KIND.false)
    (eqb-false (length c.in-Some-split_first.body.now) 0 (sym c.is_empty.ensures ∙ c.if-is_empty.false))
