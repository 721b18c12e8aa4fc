use Rattle.mold_serve.specs.Answering.{MayOffer}
use Rattle.mold_serve.specs.Serving.{service_of}
use Rattle.mold_session.specs.Answer.{SendsNext}
use Rattle.mold_session.specs.Journal.{JournalState}
use Rattle.mold_serve.proofs.AnsweringLemmas.{offered_in_vain}
use Rattle.mold_serve.proofs.responder.Responder.offer_next.Goals as goal
use Rattle.mold_serve.proofs.responder.Responder.offer_next.Given.{Over}
use Rattle.mold_serve.proofs.responder.Responder.offer_next.Goals.{In-Ok-Some}

-- the plan has a next packet
next : (g : Over) (c : In-Ok-Some g) (journal : JournalState) →
    MayOffer g.J.ServedJournal.shows c.args.self.now.journal.now c.args.self.now.server.now c.args.plan.now journal →
    SendsNext journal.messages c.args.self.now.server.now.limit c.args.plan.now
next g c journal may =
    c.planned_law.ensures.next journal.messages c.args.self.now.server.now.limit c.args.plan.now may.fit
    c.in-Ok-Some.ensures.plan may.planned.to (rw c.in-Ok-Some.field-0-is at c.in-Ok-Some.ensures.more)

pub returns-in-Err-send-clause-offered : goal.returns-in-Err-send-clause-offered
returns-in-Err-send-clause-offered g c journal may modeled =
    let sent =
    (rw c.in-Ok-Some.field-0-is at c.in-Ok-Some.ensures.sent) journal may.answers.shown may.answers.longest may.planned in
    offered_in_vain c.args.to _ (service_of journal c.args.self.now.server.now) c.args.plan.now
    c.datagram_from.new.plan c.in-Ok-Some.datagram.now _ _ c.args.self.now.tally.now _
    c.args.self.now.server.now _
    (next g (goal.at.returns-in-Err-send-clause-offered g c).In-Ok-Some journal may)
    sent.moved
    sent.spelled
    c.datagram_from.follows.holds-at-none
    (c.in-Err-send.ensures.sent modeled)
    c.add_failed.ensures
