use Rattle.std.proofs.Common.{is_err}
use Rattle.mold_session.specs.Answer.{SendsNext}
use Rattle.mold_session.specs.Journal.{JournalState}
use Rattle.mold_feeder.specs.Requests.{MayRespond}
use Rattle.mold_feeder.proofs.RequestLemmas.{journaled, offered_one}
use Rattle.mold_feeder.proofs.requests.Requests.offer_next.Goals as goal
use Rattle.mold_feeder.proofs.requests.Requests.offer_next.Given.{Over}
use Rattle.mold_feeder.proofs.requests.Requests.offer_next.Goals.{In-Ok-Some}

-- the plan has a next packet
next : (g : Over) (c : In-Ok-Some g) (journal : JournalState) →
    MayRespond g.S.Storage.shows g.S.Storage.may_leave c.args.publisher.now c.args.self.now.server c.args.plan.now
    journal → SendsNext journal.messages c.args.self.now.server.limit c.args.plan.now
next g c journal may =
    c.planned_law.ensures.next journal.messages c.args.self.now.server.limit c.args.plan.now
    (c.answer_not_empty_law.ensures.fit journal c.args.self.now.server
    (journaled c.args.publisher.now journal may.shown) (rw c.in-Ok-Some.field-0-is at c.in-Ok-Some.ensures.server)
    may.longest) c.in-Ok-Some.ensures.plan may.planned.to (rw c.in-Ok-Some.field-0-is at c.in-Ok-Some.ensures.more)

pub returns-then-is_ok-clause-offered : goal.returns-then-is_ok-clause-offered
returns-then-is_ok-clause-offered g c journal may modeled =
    let sent = (rw c.in-Ok-Some.field-0-is at c.in-Ok-Some.ensures.sent) journal may.shown may.longest may.planned in
    offered_one c.args.to journal.messages c.args.self.now.server.limit c.args.plan.now c.datagram_from.new.plan
    c.in-Ok-Some.datagram.now _ _ (is_err c.send.result)
    (next g (goal.at.returns-then-is_ok-clause-offered g c).In-Ok-Some journal may) sent.moved sent.spelled
    (c.send.ensures.sent modeled)

pub returns-else-is_ok-clause-offered : goal.returns-else-is_ok-clause-offered
returns-else-is_ok-clause-offered g c journal may modeled =
    let sent = (rw c.in-Ok-Some.field-0-is at c.in-Ok-Some.ensures.sent) journal may.shown may.longest may.planned in
    offered_one c.args.to journal.messages c.args.self.now.server.limit c.args.plan.now c.datagram_from.new.plan
    c.in-Ok-Some.datagram.now _ _ (is_err c.send.result)
    (next g (goal.at.returns-else-is_ok-clause-offered g c).In-Ok-Some journal may) sent.moved sent.spelled
    (c.send.ensures.sent modeled)
