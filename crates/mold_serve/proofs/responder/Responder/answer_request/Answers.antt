use Rattle.std.proofs.Common.{[]}
use Rattle.mold_serve.specs.Answering.{MayOffer}
use Rattle.mold_serve.specs.Serving.{MayAnswer}
use Rattle.mold_serve.proofs.AnsweringLemmas.{answered_so, refused_so}
use Rattle.mold_serve.proofs.ServingLemmas.{errors_for, may_plan, planned_from_all}
use Rattle.mold_serve.proofs.responder.Responder.answer_request.Goals as goal
use Rattle.mold_serve.proofs.responder.Responder.answer_request.Given.{Over}
use Rattle.mold_serve.proofs.responder.Responder.answer_request.Goals.{In-Ok}
use Rattle.mold_session.specs.Journal.{JournalState}

-- the plan may be sent
sendable : (g : Over) (c : In-Ok g) (journal : JournalState) →
    MayAnswer g.J.ServedJournal.shows c.args.self.now.journal.now c.args.self.now.server.now journal →
    MayOffer g.J.ServedJournal.shows c.args.self.now.journal.now c.plan_from.new.self c.in-Ok.plan journal
sendable g c journal may =
    may_plan c.in-Ok.ensures.counted may (c.in-Ok.ensures.plan journal may.shown)
    (c.answer_not_empty_law.ensures.fit journal c.args.self.now.server.now (c.in-Ok.ensures.journal journal may.shown)
    c.in-Ok.ensures.server may.longest)

pub returns-in-Ok-clause-replied : goal.returns-in-Ok-clause-replied
returns-in-Ok-clause-replied g c journal may modeled =
    let offered =
    c.offer_all.ensures.offered journal (sendable g (goal.at.returns-in-Ok-clause-replied g c).In-Ok journal may) modeled
    in (
      offered.0,
      answered_so c.offer_all.result c.args.from journal c.args.request.now c.in-Ok.plan offered.0 _
          c.args.self.now.tally.now c.args.self.now.server.now c.plan_from.new.self _
          (λ request asks. c.answered_law.ensures.answerable journal request c.args.request.now asks)
          (λ request may.
          c.answered_law.ensures.answer journal c.args.self.now.server.now.limit c.args.self.now.server.now.burst request may)
          (planned_from_all journal _ _ _ _ (c.next.ensures.value journal may.shown)
          (c.in-Ok.ensures.planned journal may.shown))
          c.in-Ok.ensures.counted
          offered.1,
    )

pub returns-in-Ok-clause-refused : goal.returns-in-Ok-clause-refused
returns-in-Ok-clause-refused g c =
    errors_for c.offer_all.result _ _ (sendable g (goal.at.returns-in-Ok-clause-refused g c).In-Ok)
    c.offer_all.ensures.refused

pub returns-in-Ok-add_refused-clause-replied : goal.returns-in-Ok-add_refused-clause-replied
returns-in-Ok-add_refused-clause-replied g c journal may modeled = (
  [],
  refused_so _ c.args.from journal c.args.request.now c.in-Err.why _ c.args.self.now.tally.now _
      c.args.self.now.server.now _
      (planned_from_all journal _ _ _ _ (c.next.ensures.value journal may.shown)
      (c.in-Err.ensures.planned journal may.shown))
      c.in-Err.ensures.counted c.in-Ok-add_refused.ensures.refused,
)

pub returns-in-Err-add_refused-clause-replied : goal.returns-in-Err-add_refused-clause-replied
returns-in-Err-add_refused-clause-replied g c journal may modeled = (
  [],
  refused_so _ c.args.from journal c.args.request.now c.in-Err.why _ c.args.self.now.tally.now _
      c.args.self.now.server.now _
      (planned_from_all journal _ _ _ _ (c.next.ensures.value journal may.shown)
      (c.in-Err.ensures.planned journal may.shown))
      c.in-Err.ensures.counted tt,
)
