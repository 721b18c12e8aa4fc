use Rattle.std.proofs.Common.{List, ℕ, length, refl, subst, sym, ◌∙◌, arith}
use Rattle.std.proofs.lemmas.Bool.{eqb-true, eqb-false}
use Rattle.mold_session.specs.FileFault.{RecordFault}
use Rattle.mold_session.proofs.RecordReadingLemmas.{closing_damaged, closing_ends, closing_starts, kind_damaged, message_starts}
use Rattle.mold_session.proofs.checking.skip_record.Goals as goal

pub returns-in-Err-clause-refused : goal.returns-in-Err-clause-refused
returns-in-Err-clause-refused c =
    subst (λ (t : List ℕ). RecordFault c.args.most c.args.count t c.in-Err.error)
    (sym (message_starts c.args.rest.now c.in-Some.record.now c.in-Some-split_first.body.now c.in-Some.gate.now
    c.in-Some-split_first.kind.now c.in-Some.ensures.cases.0 c.in-Some-split_first.ensures.cases.0
    c.if-gate-ne-OPEN_GATE.false c.if-kind-eq-MESSAGE_KIND.true))
    c.in-Err.ensures.refused

pub returns-then-kind-ne-CLOSING_KIND-clause-refused : goal.returns-then-kind-ne-CLOSING_KIND-clause-refused
returns-then-kind-ne-CLOSING_KIND-clause-refused c = (
  refl,
  kind_damaged c.args.most c.args.count c.args.rest.now c.in-Some.record.now c.in-Some-split_first.body.now
      c.in-Some.gate.now c.in-Some-split_first.kind.now c.in-Some.ensures.cases.0
      c.in-Some-split_first.ensures.cases.0 c.if-gate-ne-OPEN_GATE.false
      (omega (arith, c.if-kind-eq-MESSAGE_KIND.false, c.if-kind-ne-CLOSING_KIND.true)),
)

pub returns-then-is_empty-clause-refused : goal.returns-then-is_empty-clause-refused
returns-then-is_empty-clause-refused c = (
  refl,
  closing_damaged c.args.most c.args.count c.args.rest.now c.in-Some-split_first.body.now
      (closing_starts c.args.rest.now c.in-Some.record.now c.in-Some-split_first.body.now c.in-Some.gate.now
      c.in-Some-split_first.kind.now c.in-Some.ensures.cases.0 c.in-Some-split_first.ensures.cases.0
      c.if-gate-ne-OPEN_GATE.false c.if-kind-ne-CLOSING_KIND.false)
      (eqb-true (length c.in-Some-split_first.body.now) 0 (sym c.is_empty.ensures ∙ c.if-is_empty.true)),
)

pub returns-clause-skipped : goal.returns-clause-skipped
returns-clause-skipped c =
    closing_ends c.args.rest.now c.in-Some-split_first.body.now
    (closing_starts c.args.rest.now c.in-Some.record.now c.in-Some-split_first.body.now c.in-Some.gate.now
    c.in-Some-split_first.kind.now c.in-Some.ensures.cases.0 c.in-Some-split_first.ensures.cases.0
    c.if-gate-ne-OPEN_GATE.false c.if-kind-ne-CLOSING_KIND.false)
    (eqb-false (length c.in-Some-split_first.body.now) 0 (sym c.is_empty.ensures ∙ c.if-is_empty.false))
