use Rattle.std.proofs.Common.{Some, [], false}
use Rattle.mold_feeder.specs.Feeding.{MayNotClose, grown}
use Rattle.mold_feeder.specs.Input.{bytes_come}
use Rattle.mold_feeder.specs.Taking.{TakesPart}
use Rattle.mold_feeder.proofs.FeedingLemmas.{both_ok, broken_then, broken_turn, fed_then, fed_turned, turned_err, turned_ok}
use Rattle.mold_feeder.proofs.feed.Feed.take.Goals as goal

pub returns-clause-fed : goal.returns-clause-fed
returns-clause-fed g c = λ life is.
    let fed = c.answer.ensures.fed c.args.lines.now life is in
    let rests = fed.rests in
    let now = grown life [] in
    turned_ok c.turn.result _ _ _
    (λ taken turned intact.
    let more =
    fed_turned g.S.Storage.shows g.S.Storage.may_leave g.S.Storage.moment g.S.Storage.left_since g.S.Storage.failed
    g.L.PortSet.modeled g.D.Datagrams.modeled c.args.lines.now g.met.S.Storage.only_now c.told_law.ensures.moment
    g.L.PortSet.state now c.answer.new.self.feeder c.turn.new.self _ _ taken
    (g.D.Datagrams.port c.answer.new.self.requests.port) c.answer.new.self.requests.server rests turned
    (c.turn.ensures.crash now rests.publishes rests.intact) intact.0 intact.1 in (
      more.0,
      fed_then g.S.Storage.shows g.S.Storage.may_leave g.S.Storage.moment g.S.Storage.left_since g.S.Storage.failed
          g.L.PortSet.modeled g.D.Datagrams.modeled c.args.lines.now life [] more.0 false _ _ _ fed more.1,
    ))
    (c.turn.ensures.turned now rests.publishes rests.none) (both_ok c.turn.result _ _ c.turn.ensures.intact c.turn.ensures.unfailed)

pub returns-clause-broken : goal.returns-clause-broken
returns-clause-broken g c = λ life is.
    let fed = c.answer.ensures.fed c.args.lines.now life is in
    let rests = fed.rests in
    let now = grown life [] in
    let part =
    TakesPart g.M.MessageReader.input_kind c.args.self.now.feeder.publisher.publisher.journal
    (Some (g.M.MessageReader.entries (bytes_come g.M.InputReader.unread c.args.self.now.input))) in
    turned_err c.turn.result _ _ _
    (λ grows silent.
    broken_then g.S.Storage.shows g.S.Storage.may_leave g.S.Storage.moment g.S.Storage.left_since g.S.Storage.failed
    g.L.PortSet.modeled g.D.Datagrams.modeled c.args.lines.now part MayNotClose life [] _ _ _ fed
    (broken_turn g.S.Storage.shows g.S.Storage.may_leave g.S.Storage.moment g.S.Storage.left_since g.S.Storage.failed
    g.L.PortSet.modeled g.D.Datagrams.modeled c.args.lines.now g.met.S.Storage.only_now part MayNotClose now
    g.L.PortSet.state g.M.MessageReader.input_kind _ c.answer.new.self.feeder c.turn.new.self
    (g.D.Datagrams.port c.answer.new.self.requests.port) c.answer.new.self.requests.server rests grows
    (grows.left, (grows.filled, (rw (c.answer.ensures.publisher, c.answer.ensures.input) at grows.input)))
    (c.turn.ensures.crash now rests.publishes rests.intact) silent))
    (c.turn.ensures.grows now rests.publishes) c.turn.ensures.silent
