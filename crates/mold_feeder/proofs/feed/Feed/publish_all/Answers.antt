use Rattle.std.proofs.Common.{◌≡◌, ◌∙◌, ap, arith, subst, sym, [], ◌++◌, false, not, refl}
use Rattle.mold_publish.specs.declared.filling.Filled.TheVariants as filled
use Rattle.mold_session.specs.Journal.{JournalState}
use Rattle.mold_devices.proofs.LineLemmas.{on_err}
use Rattle.mold_feeder.specs.Feeding.{MayCloseAfter, MayCloseNow, MayNotClose, grown, state_of}
use Rattle.mold_feeder.specs.Gathering.{filled_for}
use Rattle.mold_feeder.specs.Input.{entries_of_rest}
use Rattle.mold_feeder.specs.Taking.{Takes, TakesNothing, TakesPart, reopened}
use Rattle.mold_feeder.proofs.TakingLemmas.{part_at, reopened_ended, reopened_same, takes_ended, was_refused}
use Rattle.mold_feeder.proofs.FeedingLemmas.{broken_now, broken_then, broken_weaker, fed_serving, fed_then}
use Rattle.mold_feeder.proofs.feed.Feed.publish_all.Goals as goal

pub returns-in_err-gathered-clause-broken : goal.returns-in_err-gathered-clause-broken
returns-in_err-gathered-clause-broken g c = λ life is.
    let kind = g.M.MessageReader.input_kind in
    let old = c.args.self.now.feeder.publisher.publisher.journal in
    let known =
    entries_of_rest g.M.InputReader.unread g.K.Source.left g.M.MessageReader.entries c.args.self.now.input in
    let may_close = MayCloseAfter c.args.options.now.end kind c.args.begun old known in
    on_err _
    (broken_weaker g.S.Storage.shows g.S.Storage.may_leave g.S.Storage.moment g.S.Storage.left_since g.S.Storage.failed
    g.L.PortSet.modeled
    g.D.Datagrams.modeled c.args.options.now.lines (TakesPart kind old known) may_close life
    (TakesPart kind old known) MayNotClose (state_of g.L.PortSet.state g.D.Datagrams.port c.args.self.now)
    (state_of g.L.PortSet.state g.D.Datagrams.port c.publish.new.self) (λ journal part. part)
    (λ journal never. absurd never)
    (c.in_err-gathered.ensures.broken life is))

pub returns-in_err-serve_until-clause-broken : goal.returns-in_err-serve_until-clause-broken
returns-in_err-serve_until-clause-broken g c = λ life is.
    let kind = g.M.MessageReader.input_kind in
    let old = c.args.self.now.feeder.publisher.publisher.journal in
    let published = c.publish.new.self.feeder.publisher.publisher.journal in
    let served = c.serve_until.new.self.feeder.publisher.publisher.journal in
    let known =
    entries_of_rest g.M.InputReader.unread g.K.Source.left g.M.MessageReader.entries c.args.self.now.input in
    let rest =
    entries_of_rest g.M.InputReader.unread g.K.Source.left g.M.MessageReader.entries c.publish.new.self.input in
    let may_close = MayCloseAfter c.args.options.now.end kind c.args.begun old known in
    let one = c.in_ok-gathered.ensures.fed life is in
    on_err _
    (broken_now g.S.Storage.shows g.S.Storage.may_leave g.S.Storage.moment g.S.Storage.left_since g.S.Storage.failed
    g.L.PortSet.modeled
    g.D.Datagrams.modeled c.args.options.now.lines g.met.S.Storage.only_now (TakesPart kind old known) may_close life
    one.0
    (state_of g.L.PortSet.state g.D.Datagrams.port c.args.self.now)
    (state_of g.L.PortSet.state g.D.Datagrams.port c.serve_until.new.self)
    (part_at kind old published served known rest (filled_for c.in_ok-gathered.gathered) c.serve_until.ensures.journal
    (c.in_ok-gathered.ensures.taken life is))
    (fed_serving g.S.Storage.shows g.S.Storage.may_leave g.S.Storage.moment g.S.Storage.left_since g.S.Storage.failed
    g.L.PortSet.modeled
    g.D.Datagrams.modeled c.args.options.now.lines life one.0 false
    (state_of g.L.PortSet.state g.D.Datagrams.port c.args.self.now)
    (state_of g.L.PortSet.state g.D.Datagrams.port c.publish.new.self)
    (state_of g.L.PortSet.state g.D.Datagrams.port c.serve_until.new.self) one.1 c.serve_until.ensures.fed))

pub returns-in-Some-clause-fed : goal.returns-in-Some-clause-fed
returns-in-Some-clause-fed g c = λ life is.
    let one = c.in_ok-gathered.ensures.fed life is in
    let two = fed_serving g.S.Storage.shows g.S.Storage.may_leave g.S.Storage.moment g.S.Storage.left_since g.S.Storage.failed
    g.L.PortSet.modeled g.D.Datagrams.modeled c.args.options.now.lines life one.0 false
    (state_of g.L.PortSet.state g.D.Datagrams.port c.args.self.now)
    (state_of g.L.PortSet.state g.D.Datagrams.port c.publish.new.self)
    (state_of g.L.PortSet.state g.D.Datagrams.port c.serve_until.new.self) one.1 c.serve_until.ensures.fed in
    (one.0, two)

pub returns-in_err-end-clause-broken : goal.returns-in_err-end-clause-broken
returns-in_err-end-clause-broken g c = λ life is.
    let kind = g.M.MessageReader.input_kind in
    let old = c.args.self.now.feeder.publisher.publisher.journal in
    let published = c.publish.new.self.feeder.publisher.publisher.journal in
    let served = c.serve_until.new.self.feeder.publisher.publisher.journal in
    let known =
    entries_of_rest g.M.InputReader.unread g.K.Source.left g.M.MessageReader.entries c.args.self.now.input in
    let rest =
    entries_of_rest g.M.InputReader.unread g.K.Source.left g.M.MessageReader.entries c.publish.new.self.input in
    let may_close = MayCloseAfter c.args.options.now.end kind c.args.begun old known in
    let shut : served.closed ≡ old.closed =
    ap (λ (j : JournalState). j.closed) c.serve_until.ensures.journal
    ∙ (c.in_ok-gathered.ensures.fed life is).1.rests.publishes.closed
    ∙ sym is.publishes.closed in
    let one = c.in_ok-gathered.ensures.fed life is in
    let two = fed_serving g.S.Storage.shows g.S.Storage.may_leave g.S.Storage.moment g.S.Storage.left_since g.S.Storage.failed
    g.L.PortSet.modeled g.D.Datagrams.modeled c.args.options.now.lines life one.0 false
    (state_of g.L.PortSet.state g.D.Datagrams.port c.args.self.now)
    (state_of g.L.PortSet.state g.D.Datagrams.port c.publish.new.self)
    (state_of g.L.PortSet.state g.D.Datagrams.port c.serve_until.new.self) one.1 c.serve_until.ensures.fed in
    on_err _
    (broken_then g.S.Storage.shows g.S.Storage.may_leave g.S.Storage.moment g.S.Storage.left_since g.S.Storage.failed
    g.L.PortSet.modeled
    g.D.Datagrams.modeled c.args.options.now.lines (TakesPart kind old known) may_close life one.0
    (state_of g.L.PortSet.state g.D.Datagrams.port c.args.self.now)
    (state_of g.L.PortSet.state g.D.Datagrams.port c.serve_until.new.self)
    (state_of g.L.PortSet.state g.D.Datagrams.port c.end.new.self) two
    (broken_weaker g.S.Storage.shows g.S.Storage.may_leave g.S.Storage.moment g.S.Storage.left_since g.S.Storage.failed
    g.L.PortSet.modeled
    g.D.Datagrams.modeled c.args.options.now.lines (TakesPart kind old known) may_close
    (grown life one.0) (TakesNothing served) (MayCloseNow c.args.options.now.end served)
    (state_of g.L.PortSet.state g.D.Datagrams.port c.serve_until.new.self)
    (state_of g.L.PortSet.state g.D.Datagrams.port c.end.new.self)
    (λ journal same.
    part_at kind old published journal known rest (filled_for c.in_ok-gathered.gathered)
    (same ∙ c.serve_until.ensures.journal)
    (c.in_ok-gathered.ensures.taken life is))
    (λ journal may. (
      may.0,
      takes_ended kind c.args.begun old published served journal known rest c.in_ok-gathered.gathered
          c.in_ok-gathered.ensures.stops (sym c.refusal_of.ensures ∙ c.in_default.is)
          (c.in_ok-gathered.ensures.taken life is) c.serve_until.ensures.journal shut may.1,
    )) (c.in_err-end.ensures.broken (grown life one.0) two.rests)))

pub returns-clause-fed : goal.returns-clause-fed
returns-clause-fed g c = λ life is.
    let one = c.in_ok-gathered.ensures.fed life is in
    let two = fed_serving g.S.Storage.shows g.S.Storage.may_leave g.S.Storage.moment g.S.Storage.left_since g.S.Storage.failed
    g.L.PortSet.modeled g.D.Datagrams.modeled c.args.options.now.lines life one.0 false
    (state_of g.L.PortSet.state g.D.Datagrams.port c.args.self.now)
    (state_of g.L.PortSet.state g.D.Datagrams.port c.publish.new.self)
    (state_of g.L.PortSet.state g.D.Datagrams.port c.serve_until.new.self) one.1 c.serve_until.ensures.fed in (
      one.0 ++ [],
      fed_then g.S.Storage.shows g.S.Storage.may_leave g.S.Storage.moment g.S.Storage.left_since g.S.Storage.failed
          g.L.PortSet.modeled
          g.D.Datagrams.modeled c.args.options.now.lines life one.0 []
          (not c.args.options.now.end.stays_open) (state_of g.L.PortSet.state g.D.Datagrams.port c.args.self.now)
          (state_of g.L.PortSet.state g.D.Datagrams.port c.serve_until.new.self)
          (state_of g.L.PortSet.state g.D.Datagrams.port c.end.new.self)
          two (c.in_ok-end.ensures.fed (grown life one.0) two.rests),
    )

pub returns-in-Some-clause-taken : goal.returns-in-Some-clause-taken
returns-in-Some-clause-taken g c = λ life is.
    let kind = g.M.MessageReader.input_kind in
    let old = c.args.self.now.feeder.publisher.publisher.journal in
    let published = c.publish.new.self.feeder.publisher.publisher.journal in
    let served = c.serve_until.new.self.feeder.publisher.publisher.journal in
    let known =
    entries_of_rest g.M.InputReader.unread g.K.Source.left g.M.MessageReader.entries c.args.self.now.input in
    let rest =
    entries_of_rest g.M.InputReader.unread g.K.Source.left g.M.MessageReader.entries c.publish.new.self.input in
    let shut : served.closed ≡ old.closed =
    ap (λ (j : JournalState). j.closed) c.serve_until.ensures.journal
    ∙ (c.in_ok-gathered.ensures.fed life is).1.rests.publishes.closed
    ∙ sym is.publishes.closed in (
      omega (
        arith,
        c.saturating_sub-number.ensures,
        c.count.ensures.value,
      ),
      (
        rest,
        subst (λ (j : JournalState). Takes kind old j known rest (filled.Refused c.in-Some.refusal))
            (sym (reopened_same old served shut ∙ c.serve_until.ensures.journal))
            (subst (Takes kind old published known rest)
            (was_refused c.in_ok-gathered.gathered c.in-Some.refusal (sym c.refusal_of.ensures ∙ c.in-Some.is))
            (c.in_ok-gathered.ensures.taken life is)),
      ),
    )

pub returns-clause-taken : goal.returns-clause-taken
returns-clause-taken g c = λ life is.
    let kind = g.M.MessageReader.input_kind in
    let old = c.args.self.now.feeder.publisher.publisher.journal in
    let published = c.publish.new.self.feeder.publisher.publisher.journal in
    let served = c.serve_until.new.self.feeder.publisher.publisher.journal in
    let known =
    entries_of_rest g.M.InputReader.unread g.K.Source.left g.M.MessageReader.entries c.args.self.now.input in
    let rest =
    entries_of_rest g.M.InputReader.unread g.K.Source.left g.M.MessageReader.entries c.publish.new.self.input in
    let shut : served.closed ≡ old.closed =
    ap (λ (j : JournalState). j.closed) c.serve_until.ensures.journal
    ∙ (c.in_ok-gathered.ensures.fed life is).1.rests.publishes.closed
    ∙ sym is.publishes.closed in
    takes_ended kind c.args.begun old published served c.end.new.self.feeder.publisher.publisher.journal known rest
    c.in_ok-gathered.gathered
    c.in_ok-gathered.ensures.stops (sym c.refusal_of.ensures ∙ c.in_default.is)
    (c.in_ok-gathered.ensures.taken life is) c.serve_until.ensures.journal shut
    (ap (reopened served) c.in_ok-end.ensures.journal
    ∙ reopened_ended c.args.options.now.end served c.serve_until.new.self.feeder.publisher.publisher refl)
