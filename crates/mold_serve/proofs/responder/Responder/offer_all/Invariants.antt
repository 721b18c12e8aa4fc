use Rattle.std.proofs.Common.{◌≡◌, true}
use Rattle.mold_serve.specs.Answering.{MayOffer, left_of}
use Rattle.mold_serve.specs.Serving.{IsSame, service_of, state}
use Rattle.mold_session.specs.Journal.{JournalState}
use Rattle.mold_turns.specs.Runs.{Begins}
use Rattle.mold_serve.proofs.AnsweringLemmas.{Offering}
use Rattle.mold_serve.proofs.ServingLemmas.{Keeps, Remains}
use Rattle.mold_serve.proofs.responder.Responder.offer_all.Given as goal

-- some packets were offered, and those that the plan still sends remain
abbrev pub invariant-packets : goal.invariant-packets
invariant-packets g l = record {
  offered :
      (journal : JournalState) →
      MayOffer g.J.ServedJournal.shows l.fn.self.journal.now l.fn.self.server.now l.fn.plan journal →
      g.D.Datagrams.modeled ≡ true →
      Offering l.fn.to
      (left_of (service_of journal l.fn.self.server.now) l.fn.plan)
      (left_of (service_of journal l.fn.self.server.now) l.plan)
      (state g.D.Datagrams.port l.fn.self)
      (state g.D.Datagrams.port l.self);
  session : l.plan.session ≡ l.fn.plan.session;
  to : l.plan.to ≡ l.fn.plan.to;
  prints : Begins l.fn.self.tally.now.outgoing.text l.self.tally.now.outgoing.text;
  comes :
      g.D.Datagrams.modeled ≡ true →
      (g.D.Datagrams.port l.self.port.now).comes ≡ (g.D.Datagrams.port l.fn.self.port.now).comes;
  shown : Keeps g.J.ServedJournal.shows l.fn.self.journal.now l.self.journal.now;
  stays : Remains g.J.ServedJournal.stays l.fn.self.journal.now l.self.journal.now;
  failures : g.J.ServedJournal.failed l.self.journal.now ≡ g.J.ServedJournal.failed l.fn.self.journal.now;
  same : IsSame l.fn.self l.self;
}

abbrev pub decreases-packets : goal.decreases-packets
decreases-packets g l = l.plan.left
