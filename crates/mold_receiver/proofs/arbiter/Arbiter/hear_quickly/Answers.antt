use Rattle.std.proofs.Common.{sym, ap, subst, ◌∙◌, Some}
use Rattle.mold_receiver.specs.Arbiter.{Arbitration, IsArbitration, reports_taken}
use Rattle.mold_receiver.specs.Own.{HasArbitratedOwn}
use Rattle.mold_receiver.proofs.ArbiterLemmas.{heard_on, taken_kept}
use Rattle.mold_receiver.proofs.arbiter.Arbiter.hear_quickly.Goals as goal

pub invariant_of-self : goal.invariant_of-self
invariant_of-self c =
    let a = c.self.inside in
    let heard = rw c.in-Some.is at c.hear_quickly.ensures.heard in
    let top = rw c.in-Some.is at c.hear_quickly.ensures.top in
    let reports = c.note_taken.ensures ∙ ap (reports_taken c.args.line a.reports) top in
    subst IsArbitration (λ i. record { view = sym heard.view i; reports = sym reports i })
    (taken_kept c.args.line
    (record { view = a.receiver; reports = a.reports }) c.args.bytes.now heard.reception c.self.invariant heard.received)

pub returns-in-Some-clause-heard : goal.returns-in-Some-clause-heard
returns-in-Some-clause-heard c =
    let a = c.self.inside in
    let heard = rw c.in-Some.is at c.hear_quickly.ensures.heard in
    let top = rw c.in-Some.is at c.hear_quickly.ensures.top in
    subst (λ (old : Arbitration). HasArbitratedOwn (Some c.args.line) old c.args.bytes.now
    (record { view = c.hear_quickly.new.self; reports = c.note_taken.new.self }) c.in-Some.heard.own
    c.hear_quickly.new.batch c.in-Some.heard.taken) c.self.view_is
    (heard_on c.args.line (record { view = a.receiver; reports = a.reports }) c.args.bytes.now
    c.hear_quickly.new.self c.note_taken.new.self c.in-Some.heard.top c.in-Some.heard.own c.hear_quickly.new.batch
    c.in-Some.heard.taken heard top c.note_taken.ensures)
