use Rattle.std.proofs.Common.{◌∙◌, true, false}
use Rattle.mold_session.specs.Answer.{planned}
use Rattle.mold_feeder.proofs.RequestLemmas.{may_still, offering_done, offering_step, step_of, stopped_by}
use Rattle.mold_feeder.proofs.requests.Requests.offer_all.Goals as goal

pub returns-in_err-offer_next-clause-offered : goal.returns-in_err-offer_next-clause-offered
returns-in_err-offer_next-clause-offered g c journal may modeled =
    let was = c.packets.invariant in
    let limit = c.args.self.now.server.limit in
    stopped_by c.args.to (planned journal.messages limit c.args.plan.now) (planned journal.messages limit c.packets.plan)
    (g.D.Datagrams.port c.args.self.now.port) (g.D.Datagrams.port c.packets.self.port)
    (g.D.Datagrams.port c.offer_next.new.self.port) c.from_residual.result c.from_residual.ensures.0
    (was.offered journal may modeled)
    (c.in_err-offer_next.ensures.offered journal
    (may_still c.args.publisher.now c.packets.publisher c.args.self.now.server c.packets.self.server c.args.plan.now
    c.packets.plan journal was.server was.session was.to (was.shown journal) may) modeled)

pub packets-preserved : goal.packets-preserved
packets-preserved g c =
    let was = c.packets.invariant in
    record {
      offered = λ journal may modeled.
          let limit = c.args.self.now.server.limit in
          offering_step c.args.to (planned journal.messages limit c.args.plan.now)
          (planned journal.messages limit c.packets.plan) (planned journal.messages limit c.offer_next.new.plan)
          (g.D.Datagrams.port c.args.self.now.port) (g.D.Datagrams.port c.packets.self.port)
          (g.D.Datagrams.port c.offer_next.new.self.port) (was.offered journal may modeled)
          (step_of c.args.to journal.messages c.args.self.now.server c.packets.self.server c.packets.plan
          c.offer_next.new.plan c.in_ok-offer_next.field-0 true (g.D.Datagrams.port c.packets.self.port)
          (g.D.Datagrams.port c.offer_next.new.self.port) was.server c.if-branch.true
          (c.in_ok-offer_next.ensures.offered journal
          (may_still c.args.publisher.now c.packets.publisher c.args.self.now.server c.packets.self.server c.args.plan.now
          c.packets.plan journal was.server was.session was.to (was.shown journal) may) modeled));
      session = c.in_ok-offer_next.ensures.session ∙ was.session;
      to = c.in_ok-offer_next.ensures.to ∙ was.to;
      server = c.in_ok-offer_next.ensures.server ∙ was.server;
      unread = c.in_ok-offer_next.ensures.unread ∙ was.unread;
      shown = λ journal shown. c.in_ok-offer_next.ensures.shown journal (was.shown journal shown);
      stays = λ earlier stays. c.in_ok-offer_next.ensures.stays earlier (was.stays earlier stays);
      failures = c.in_ok-offer_next.ensures.failures ∙ was.failures;
    }

pub returns-clause-offered : goal.returns-clause-offered
returns-clause-offered g c journal may modeled =
    let was = c.packets.invariant in
    let limit = c.args.self.now.server.limit in
    offering_done c.args.to (planned journal.messages limit c.args.plan.now)
    (planned journal.messages limit c.packets.plan) (g.D.Datagrams.port c.args.self.now.port)
    (g.D.Datagrams.port c.packets.self.port) (g.D.Datagrams.port c.offer_next.new.self.port)
    (was.offered journal may modeled)
    (step_of c.args.to journal.messages c.args.self.now.server c.packets.self.server c.packets.plan
    c.offer_next.new.plan c.in_ok-offer_next.field-0 false (g.D.Datagrams.port c.packets.self.port)
    (g.D.Datagrams.port c.offer_next.new.self.port) was.server c.if-branch.false
    (c.in_ok-offer_next.ensures.offered journal
    (may_still c.args.publisher.now c.packets.publisher c.args.self.now.server c.packets.self.server c.args.plan.now
    c.packets.plan journal was.server was.session was.to (was.shown journal) may) modeled))
