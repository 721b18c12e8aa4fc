use Rattle.std.proofs.Common.{sym, ap, subst, ◌∙◌, Option, None, Some}
use Rattle.mold_receiver.specs.Arbiter.{Arbitration, IsArbitration, reports_taken}
use Rattle.mold_receiver.specs.Origin.{line_of}
use Rattle.mold_receiver.specs.Own.{HasArbitratedOwn}
use Rattle.mold_receiver.specs.declared.line.Line.{Line}
use Rattle.mold_receiver.proofs.ArbiterLemmas.{answer_kept, heard_off, heard_on, taken_kept}
use Rattle.mold_receiver.proofs.arbiter.Arbiter.hear.Goals as goal
use Rattle.mold_receiver.proofs.arbiter.Arbiter.hear.Goals.{in-Line, in_default}

pub invariant_of-self : goal.invariant_of-self
invariant_of-self c =
    let a = c.self.inside in
    let heard = rw c.in-Ok.is at c.hear_top.ensures.heard in
    let top = rw c.in-Ok.is at c.hear_top.ensures.top in
    let reports = c.note_taken.ensures ∙ ap (reports_taken c.in-Line.line a.reports) top in
    subst IsArbitration (λ i. record { view = sym heard.view i; reports = sym reports i })
    (taken_kept c.in-Line.line
    (record { view = a.receiver; reports = a.reports }) c.args.bytes.now heard.reception c.self.invariant heard.received)

pub invariant_of-self-in-Ok : goal.invariant_of-self-in-Ok
invariant_of-self-in-Ok c =
    let a = c.self.inside in
    let heard = rw c.in-Ok.is at c.hear_top.ensures.heard in
    subst IsArbitration (λ i. record { view = sym heard.view i; reports = a.reports })
    (answer_kept (record { view = a.receiver; reports = a.reports }) c.args.bytes.now heard.reception c.self.invariant
    heard.received)

pub returns-after-origin-clause-heard : goal.returns-after-origin-clause-heard
returns-after-origin-clause-heard c =
    let a = c.self.inside in
    let heard = rw c.in-Ok.is at c.hear_top.ensures.heard in
    let top = rw c.in-Ok.is at c.hear_top.ensures.top in
    elim c.match-origin.branch [
      | in-Line w ↦
          subst (λ (new : Arbitration). HasArbitratedOwn (line_of c.args.origin) c.args.self.now c.args.bytes.now new
          c.in-Ok.heard.own c.hear_top.new.batch c.in-Ok.heard.taken) (sym w.self-is)
          (subst (λ (line : Option Line). HasArbitratedOwn line c.args.self.now c.args.bytes.now
          (record { view = c.hear_top.new.self; reports = w.note_taken.new.self }) c.in-Ok.heard.own
          c.hear_top.new.batch c.in-Ok.heard.taken) (sym (ap line_of w.in-Line.is))
          (subst (λ (old : Arbitration). HasArbitratedOwn (Some w.in-Line.line) old c.args.bytes.now
          (record { view = c.hear_top.new.self; reports = w.note_taken.new.self }) c.in-Ok.heard.own
          c.hear_top.new.batch c.in-Ok.heard.taken) c.self.view_is
          (heard_on w.in-Line.line (record { view = a.receiver; reports = a.reports }) c.args.bytes.now
          c.hear_top.new.self w.note_taken.new.self c.in-Ok.heard.top c.in-Ok.heard.own c.hear_top.new.batch
          c.in-Ok.heard.taken heard top w.note_taken.ensures)))
      | in_default w ↦
          subst (λ (new : Arbitration). HasArbitratedOwn (line_of c.args.origin) c.args.self.now c.args.bytes.now new
          c.in-Ok.heard.own c.hear_top.new.batch c.in-Ok.heard.taken) (sym w.self-is)
          (subst (λ (line : Option Line). HasArbitratedOwn line c.args.self.now c.args.bytes.now
          (record { view = c.hear_top.new.self; reports = a.reports }) c.in-Ok.heard.own
          c.hear_top.new.batch c.in-Ok.heard.taken) (sym (ap line_of w.in_default.is))
          (subst (λ (old : Arbitration). HasArbitratedOwn None old c.args.bytes.now
          (record { view = c.hear_top.new.self; reports = a.reports }) c.in-Ok.heard.own
          c.hear_top.new.batch c.in-Ok.heard.taken) c.self.view_is
          (heard_off (record { view = a.receiver; reports = a.reports }) c.args.bytes.now c.hear_top.new.self
          c.in-Ok.heard.own c.hear_top.new.batch c.in-Ok.heard.taken heard)))
    ]
