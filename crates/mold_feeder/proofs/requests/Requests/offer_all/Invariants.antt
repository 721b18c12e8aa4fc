use Rattle.std.proofs.Common.{◌≡◌, true}
use Rattle.mold_durable_publisher.specs.DurablePublisher.{ShowsJournal, WasServed}
use Rattle.mold_durable_publisher.specs.declared.durable_publisher.DurablePublisher.{DurablePublisher}
use Rattle.mold_feeder.specs.Requests.{MayRespond, Offering}
use Rattle.mold_session.specs.Answer.{planned}
use Rattle.mold_session.specs.Journal.{JournalState}
use Rattle.mold_feeder.proofs.requests.Requests.offer_all.Given as goal

-- some packets were offered, and those that the plan still sends remain
abbrev pub invariant-packets : goal.invariant-packets
invariant-packets g l = record {
  offered :
      (journal : JournalState) →
      MayRespond g.S.Storage.shows g.S.Storage.may_leave l.fn.publisher l.fn.self.server l.fn.plan journal →
      g.D.Datagrams.modeled ≡ true →
      Offering l.fn.to
      (planned journal.messages l.fn.self.server.limit l.fn.plan)
      (planned journal.messages l.fn.self.server.limit l.plan)
      (g.D.Datagrams.port l.fn.self.port)
      (g.D.Datagrams.port l.self.port);
  session : l.plan.session ≡ l.fn.plan.session;
  to : l.plan.to ≡ l.fn.plan.to;
  server : l.self.server ≡ l.fn.self.server;
  unread : l.self.unread ≡ l.fn.self.unread;
  shown :
      (journal : JournalState) →
      ShowsJournal g.S.Storage.shows g.S.Storage.may_leave l.fn.publisher journal →
      ShowsJournal g.S.Storage.shows g.S.Storage.may_leave l.publisher journal;
  stays :
      (earlier : DurablePublisher g.row.S.Denot) →
      WasServed g.S.Storage.shows g.S.Storage.may_leave g.S.Storage.moment g.S.Storage.left_since earlier
      l.fn.publisher →
      WasServed g.S.Storage.shows g.S.Storage.may_leave g.S.Storage.moment g.S.Storage.left_since earlier l.publisher;
  failures :
      g.S.Storage.failed l.publisher.durable.storage ≡ g.S.Storage.failed l.fn.publisher.durable.storage;
}

abbrev pub decreases-packets : goal.decreases-packets
decreases-packets g l = l.plan.left
