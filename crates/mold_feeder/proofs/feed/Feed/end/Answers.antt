use Rattle.mold_session.specs.Publisher.{PublisherState}
use Rattle.std.proofs.Common.{◌∙◌, ap, [], not, refl}
use Rattle.mold_devices.proofs.LineLemmas.{on_err}
use Rattle.mold_feeder.specs.Feeding.{MayCloseNow, state_of}
use Rattle.mold_feeder.specs.Taking.{TakesNothing, reopened}
use Rattle.mold_feeder.proofs.FeedingLemmas.{broken_at, broken_end, fed_ended_on, not_open, ok_always}
use Rattle.mold_feeder.proofs.TakingLemmas.{ended_open, reopened_ended}
use Rattle.mold_feeder.proofs.feed.Feed.end.Goals as goal

pub returns-clause-fed : goal.returns-clause-fed
returns-clause-fed g c = λ life is.
    ok_always c.serve_until.result _
    (fed_ended_on g.S.Storage.shows g.S.Storage.may_leave g.S.Storage.moment g.S.Storage.left_since g.S.Storage.failed
    g.L.PortSet.modeled
    g.D.Datagrams.modeled c.args.options.now.lines c.told_law.ensures.moment g.L.PortSet.state
    c.args.options.now.end life c.args.self.now.feeder c.end.new.self
    (g.D.Datagrams.port c.args.self.now.requests.port) c.args.self.now.requests.server
    (state_of g.L.PortSet.state g.D.Datagrams.port c.serve_until.new.self) is
    (c.in_ok-end.ensures.ended life is.publishes) (c.end.ensures.crash life is.publishes is.intact)
    c.in_ok-end.ensures.intact c.in_ok-end.ensures.unfailed c.serve_until.ensures.fed)

pub returns-clause-journal : goal.returns-clause-journal
returns-clause-journal g c =
    ok_always c.serve_until.result _
    (c.serve_until.ensures.journal ∙ ap (λ (p : PublisherState). p.journal) c.in_ok-end.ensures.publisher)

pub returns-in_err-end-clause-broken : goal.returns-in_err-end-clause-broken
returns-in_err-end-clause-broken g c = λ life is.
    on_err _
    (broken_end g.S.Storage.shows g.S.Storage.may_leave g.S.Storage.moment g.S.Storage.left_since g.S.Storage.failed
    g.L.PortSet.modeled
    g.D.Datagrams.modeled c.args.options.now.lines g.met.S.Storage.only_now
    (TakesNothing c.args.self.now.feeder.publisher.publisher.journal)
    (MayCloseNow c.args.options.now.end c.args.self.now.feeder.publisher.publisher.journal) life g.L.PortSet.state
    c.args.options.now.end
    c.args.self.now.feeder c.end.new.self (g.D.Datagrams.port c.args.self.now.requests.port)
    c.args.self.now.requests.server is c.in_err-end.ensures.beats_sent (c.end.ensures.crash life is.publishes is.intact)
    (λ journal same. same)
    (λ journal shut same. (shut, ap (reopened c.args.self.now.feeder.publisher.publisher.journal) same)))

pub returns-clause-broken : goal.returns-clause-broken
returns-clause-broken g c = λ life is.
    let stays = c.args.options.now.end.stays_open in
    let before = c.args.self.now.feeder.publisher.publisher.journal in
    on_err c.serve_until.result
    (broken_at g.S.Storage.shows g.S.Storage.may_leave g.S.Storage.moment g.S.Storage.left_since g.S.Storage.failed
    g.L.PortSet.modeled
    g.D.Datagrams.modeled c.args.options.now.lines g.met.S.Storage.only_now (TakesNothing before)
    (MayCloseNow c.args.options.now.end before)
    life [] (not stays)
    (state_of g.L.PortSet.state g.D.Datagrams.port c.args.self.now)
    (state_of g.L.PortSet.state g.D.Datagrams.port c.serve_until.new.self)
    (λ is.
    c.serve_until.ensures.journal
    ∙ ap (λ (p : PublisherState). p.journal) c.in_ok-end.ensures.publisher
    ∙ ended_open stays c.args.self.now.feeder.publisher.publisher is)
    (λ is. (
      not_open stays is,
      ap (reopened before)
          (c.serve_until.ensures.journal ∙ ap (λ (p : PublisherState). p.journal) c.in_ok-end.ensures.publisher)
          ∙ reopened_ended c.args.options.now.end before c.args.self.now.feeder.publisher.publisher refl,
    ))
    (fed_ended_on g.S.Storage.shows g.S.Storage.may_leave g.S.Storage.moment g.S.Storage.left_since g.S.Storage.failed
    g.L.PortSet.modeled
    g.D.Datagrams.modeled c.args.options.now.lines c.told_law.ensures.moment g.L.PortSet.state
    c.args.options.now.end life c.args.self.now.feeder c.end.new.self
    (g.D.Datagrams.port c.args.self.now.requests.port) c.args.self.now.requests.server
    (state_of g.L.PortSet.state g.D.Datagrams.port c.serve_until.new.self) is
    (c.in_ok-end.ensures.ended life is.publishes) (c.end.ensures.crash life is.publishes is.intact)
    c.in_ok-end.ensures.intact c.in_ok-end.ensures.unfailed c.serve_until.ensures.fed))
