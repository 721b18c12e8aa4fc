use Rattle.std.proofs.Common.{sym, ap, subst, ◌∙◌, Option, None, Some}
use Rattle.mold_receiver.specs.Arbiter.{Arbitration, HasArbitrated, IsArbitration, arbitrated, reports_taken}
use Rattle.mold_receiver.specs.Origin.{line_of}
use Rattle.mold_receiver.specs.declared.line.Line.{Line}
use Rattle.mold_receiver.proofs.ArbiterLemmas.{answer_kept, taken_kept}
use Rattle.mold_receiver.proofs.arbiter.Arbiter.take_top.Goals as goal

pub invariant_of-self : goal.invariant_of-self
invariant_of-self c =
    let a = c.self.inside in
    let told = rw c.in-Ok.is at c.accept.ensures.taken in
    let top = rw c.in-Ok.is at c.accept.ensures.top in
    let reports = c.note_taken.ensures ∙ ap (reports_taken c.in-Line.line a.reports) top in
    subst IsArbitration (λ i. record { view = sym told.view i; reports = sym reports i })
    (taken_kept c.in-Line.line
    (record { view = a.receiver; reports = a.reports }) c.args.bytes.now told.reception c.self.invariant told.received)

pub invariant_of-self-in-Ok : goal.invariant_of-self-in-Ok
invariant_of-self-in-Ok c =
    let a = c.self.inside in
    let told = rw c.in-Ok.is at c.accept.ensures.taken in
    subst IsArbitration (λ i. record { view = sym told.view i; reports = a.reports })
    (answer_kept (record { view = a.receiver; reports = a.reports }) c.args.bytes.now told.reception c.self.invariant
    told.received)

pub returns-in-Line-clause-taken : goal.returns-in-Line-clause-taken
returns-in-Line-clause-taken c =
    let a = c.self.inside in
    let told = rw c.in-Ok.is at c.accept.ensures.taken in
    let top = rw c.in-Ok.is at c.accept.ensures.top in
    let reports = c.note_taken.ensures ∙ ap (reports_taken c.in-Line.line a.reports) top in
    subst (λ (line : Option Line). HasArbitrated line c.args.self.now c.args.bytes.now c.args.batch.now
    (record { view = c.accept.new.self; reports = c.note_taken.new.self }) c.accept.new.batch c.in-Ok.field-0.taken)
    (sym (ap line_of c.in-Line.is))
    (subst (λ (old : Arbitration). HasArbitrated (Some c.in-Line.line) old c.args.bytes.now c.args.batch.now
    (record { view = c.accept.new.self; reports = c.note_taken.new.self }) c.accept.new.batch c.in-Ok.field-0.taken)
    c.self.view_is
    (record {
      reception = told.reception;
      received = told.received;
      arbitration = (λ i. record { view = told.view i; reports = reports i })
          ∙ ap (arbitrated (Some c.in-Line.line) c.args.bytes.now (record { view = a.receiver; reports = a.reports }))
          (sym told.received);
      batch = told.batch;
      told = told.told;
    }))

pub returns-in_default-clause-taken : goal.returns-in_default-clause-taken
returns-in_default-clause-taken c =
    let a = c.self.inside in
    let told = rw c.in-Ok.is at c.accept.ensures.taken in
    subst (λ (line : Option Line). HasArbitrated line c.args.self.now c.args.bytes.now c.args.batch.now
    (record { view = c.accept.new.self; reports = a.reports }) c.accept.new.batch c.in-Ok.field-0.taken)
    (sym (ap line_of c.in_default.is))
    (subst (λ (old : Arbitration). HasArbitrated None old c.args.bytes.now c.args.batch.now
    (record { view = c.accept.new.self; reports = a.reports }) c.accept.new.batch c.in-Ok.field-0.taken)
    c.self.view_is
    (record {
      reception = told.reception;
      received = told.received;
      arbitration = (λ i. record { view = told.view i; reports = a.reports })
          ∙ ap (arbitrated None c.args.bytes.now (record { view = a.receiver; reports = a.reports }))
          (sym told.received);
      batch = told.batch;
      told = told.told;
    }))
