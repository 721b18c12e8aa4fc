use Rattle.std.proofs.Common.{sym, ap, subst, ◌∙◌, Some}
use Rattle.mold_receiver.specs.Arbiter.{Arbitration, HasArbitrated, IsArbitration, arbitrated, reports_taken}
use Rattle.mold_receiver.proofs.ArbiterLemmas.{taken_kept}
use Rattle.mold_receiver.proofs.arbiter.Arbiter.take_quickly.Goals as goal

pub invariant_of-self : goal.invariant_of-self
invariant_of-self c =
    let a = c.self.inside in
    let told = rw c.in-Some.is at c.accept_quickly.ensures.taken in
    let top = rw c.in-Some.is at c.accept_quickly.ensures.top in
    let reports = c.note_taken.ensures ∙ ap (reports_taken c.args.line a.reports) top in
    subst IsArbitration (λ i. record { view = sym told.view i; reports = sym reports i })
    (taken_kept c.args.line
    (record { view = a.receiver; reports = a.reports }) c.args.bytes.now told.reception c.self.invariant told.received)

pub returns-in-Some-clause-taken : goal.returns-in-Some-clause-taken
returns-in-Some-clause-taken c =
    let a = c.self.inside in
    let told = rw c.in-Some.is at c.accept_quickly.ensures.taken in
    let top = rw c.in-Some.is at c.accept_quickly.ensures.top in
    let reports = c.note_taken.ensures ∙ ap (reports_taken c.args.line a.reports) top in
    subst (λ (old : Arbitration). HasArbitrated (Some c.args.line) old c.args.bytes.now c.args.batch.now
    (record { view = c.accept_quickly.new.self; reports = c.note_taken.new.self }) c.accept_quickly.new.batch
    c.in-Some.field-0.taken)
    c.self.view_is
    (record {
      reception = told.reception;
      received = told.received;
      arbitration = (λ i. record { view = told.view i; reports = reports i })
          ∙ ap (arbitrated (Some c.args.line) c.args.bytes.now (record { view = a.receiver; reports = a.reports }))
          (sym told.received);
      batch = told.batch;
      told = told.told;
    })
