use Rattle.std.proofs.Common.{◌∙◌, [], false, ◌++◌}
use Rattle.std.proofs.Common.{◌&&◌, not, subst, sym}
use Rattle.mold_publish.specs.declared.filling.Filled.{Filled}
use Rattle.mold_publish.specs.declared.filling.Filled.TheVariants.{Full}
use Rattle.mold_devices.proofs.LineLemmas.{on_err}
use Rattle.mold_feeder.specs.Feeding.{MayNotClose, grown, state_of}
use Rattle.mold_feeder.specs.Input.{entries_of_rest}
use Rattle.mold_feeder.specs.Taking.{Takes, TakesPart, filled_now}
use Rattle.mold_feeder.proofs.TakingLemmas.{goes_on, is_stop, over_rest, part_then, stops, takes_then, takes_yet}
use Rattle.mold_feeder.proofs.FeedingLemmas.{broken_now, broken_then, broken_weaker, fed_then, fed_yet}
use Rattle.mold_feeder.proofs.feed.Feed.publish.Goals as goal

pub loop-init : goal.loop-init
loop-init g c = record {
  fed = λ life is. (
    [],
    fed_yet g.S.Storage.shows g.S.Storage.may_leave g.S.Storage.moment g.S.Storage.left_since g.S.Storage.failed
        g.L.PortSet.modeled
        g.D.Datagrams.modeled c.args.lines.now g.met.S.Storage.only_now life
        (state_of g.L.PortSet.state g.D.Datagrams.port c.args.self.now) is,
  );
  taken = λ life is.
      takes_yet g.M.MessageReader.input_kind c.args.self.now.feeder.publisher.publisher.journal
      (entries_of_rest g.M.InputReader.unread g.K.Source.left g.M.MessageReader.entries c.args.self.now.input);
  longest = c.requires.longest;
  buffer = c.requires.buffer;
  input = c.requires.input;
}

pub loop-preserved : goal.loop-preserved
loop-preserved g c = record {
  fed = λ life is.
      let start = c.loop.invariant.fed life is in
      let next = c.in_ok-taken.ensures.fed (grown life start.0) start.1.rests in (
        start.0 ++ next.0,
        fed_then g.S.Storage.shows g.S.Storage.may_leave g.S.Storage.moment g.S.Storage.left_since g.S.Storage.failed
            g.L.PortSet.modeled
            g.D.Datagrams.modeled c.args.lines.now life start.0 next.0 false
            (state_of g.L.PortSet.state g.D.Datagrams.port c.args.self.now) (state_of g.L.PortSet.state g.D.Datagrams.port c.loop.self)
            (state_of g.L.PortSet.state g.D.Datagrams.port c.turn.new.self) start.1 (next.1),
      );
  taken = λ life is.
      let start = c.loop.invariant.fed life is in
      takes_then g.M.MessageReader.input_kind c.args.self.now.feeder.publisher.publisher.journal
      c.loop.self.feeder.publisher.publisher.journal c.turn.new.self.feeder.publisher.publisher.journal
      (entries_of_rest g.M.InputReader.unread g.K.Source.left g.M.MessageReader.entries c.args.self.now.input)
      (entries_of_rest g.M.InputReader.unread g.K.Source.left g.M.MessageReader.entries c.loop.self.input)
      (entries_of_rest g.M.InputReader.unread g.K.Source.left g.M.MessageReader.entries c.turn.new.self.input) Full
      (c.loop.invariant.taken life is)
      (subst (λ (f : Filled). Takes g.M.MessageReader.input_kind c.loop.self.feeder.publisher.publisher.journal
      c.turn.new.self.feeder.publisher.publisher.journal (entries_of_rest g.M.InputReader.unread g.K.Source.left g.M.MessageReader.entries c.loop.self.input)
      (entries_of_rest g.M.InputReader.unread g.K.Source.left g.M.MessageReader.entries c.turn.new.self.input) f)
      (goes_on c.in_ok-taken.taken (not c.turn.new.self.input.ready && c.turn.new.self.input.ended)
      (sym c.stop_of.ensures ∙ c.in_default.is))
      (c.in_ok-taken.ensures.taken (grown life start.0) start.1.rests));
  longest = c.in_ok-taken.ensures.longest;
  buffer = c.in_ok-taken.ensures.buffer;
  input = c.in_ok-taken.ensures.input;
}

pub returns-in-Some-clause-fed : goal.returns-in-Some-clause-fed
returns-in-Some-clause-fed g c = λ life is.
    let start = c.loop.invariant.fed life is in
    let next = c.in_ok-taken.ensures.fed (grown life start.0) start.1.rests in (
      start.0 ++ next.0,
      fed_then g.S.Storage.shows g.S.Storage.may_leave g.S.Storage.moment g.S.Storage.left_since g.S.Storage.failed
          g.L.PortSet.modeled
          g.D.Datagrams.modeled c.args.lines.now life start.0 next.0 false
          (state_of g.L.PortSet.state g.D.Datagrams.port c.args.self.now) (state_of g.L.PortSet.state g.D.Datagrams.port c.loop.self)
          (state_of g.L.PortSet.state g.D.Datagrams.port c.turn.new.self) start.1 (next.1),
    )

pub returns-in-Some-clause-taken : goal.returns-in-Some-clause-taken
returns-in-Some-clause-taken g c = λ life is.
    let start = c.loop.invariant.fed life is in
    stops g.M.MessageReader.input_kind c.args.self.now.feeder.publisher.publisher.journal
    c.turn.new.self.feeder.publisher.publisher.journal (entries_of_rest g.M.InputReader.unread g.K.Source.left g.M.MessageReader.entries c.args.self.now.input)
    (entries_of_rest g.M.InputReader.unread g.K.Source.left g.M.MessageReader.entries c.turn.new.self.input) c.in_ok-taken.taken
    (not c.turn.new.self.input.ready && c.turn.new.self.input.ended) c.in-Some.gathered
    (sym c.stop_of.ensures ∙ c.in-Some.is)
    (over_rest g.M.PieceReader.is_part g.M.InputReader.unread g.K.Source.left g.M.MessageReader.entries c.turn.new.self.input
    c.in_ok-taken.ensures.input c.empty_law.ensures.none)
    (takes_then g.M.MessageReader.input_kind c.args.self.now.feeder.publisher.publisher.journal
    c.loop.self.feeder.publisher.publisher.journal c.turn.new.self.feeder.publisher.publisher.journal
    (entries_of_rest g.M.InputReader.unread g.K.Source.left g.M.MessageReader.entries c.args.self.now.input)
    (entries_of_rest g.M.InputReader.unread g.K.Source.left g.M.MessageReader.entries c.loop.self.input)
    (entries_of_rest g.M.InputReader.unread g.K.Source.left g.M.MessageReader.entries c.turn.new.self.input) (filled_now c.in_ok-taken.taken)
    (c.loop.invariant.taken life is)
    (c.in_ok-taken.ensures.taken (grown life start.0) start.1.rests))

pub returns-in-Some-clause-stops : goal.returns-in-Some-clause-stops
returns-in-Some-clause-stops g c =
    is_stop c.in_ok-taken.taken (not c.turn.new.self.input.ready && c.turn.new.self.input.ended) c.in-Some.gathered
    (sym c.stop_of.ensures ∙ c.in-Some.is)

pub returns-in_err-taken-clause-broken : goal.returns-in_err-taken-clause-broken
returns-in_err-taken-clause-broken g c = λ life is.
    let start = c.loop.invariant.fed life is in
    let known =
    entries_of_rest g.M.InputReader.unread g.K.Source.left g.M.MessageReader.entries c.args.self.now.input in
    let behind = entries_of_rest g.M.InputReader.unread g.K.Source.left g.M.MessageReader.entries c.loop.self.input in
    on_err _
    (broken_then g.S.Storage.shows g.S.Storage.may_leave g.S.Storage.moment g.S.Storage.left_since g.S.Storage.failed
    g.L.PortSet.modeled
    g.D.Datagrams.modeled c.args.lines.now (TakesPart g.M.MessageReader.input_kind
    c.args.self.now.feeder.publisher.publisher.journal
    (entries_of_rest g.M.InputReader.unread g.K.Source.left g.M.MessageReader.entries c.args.self.now.input))
    MayNotClose life start.0
    (state_of g.L.PortSet.state g.D.Datagrams.port c.args.self.now)
    (state_of g.L.PortSet.state g.D.Datagrams.port c.loop.self)
    (state_of g.L.PortSet.state g.D.Datagrams.port c.turn.new.self) start.1
    (broken_weaker g.S.Storage.shows g.S.Storage.may_leave g.S.Storage.moment g.S.Storage.left_since g.S.Storage.failed
    g.L.PortSet.modeled
    g.D.Datagrams.modeled c.args.lines.now (TakesPart g.M.MessageReader.input_kind
    c.args.self.now.feeder.publisher.publisher.journal
    (entries_of_rest g.M.InputReader.unread g.K.Source.left g.M.MessageReader.entries c.args.self.now.input))
    MayNotClose (grown life start.0)
    (TakesPart g.M.MessageReader.input_kind c.loop.self.feeder.publisher.publisher.journal behind) MayNotClose
    (state_of g.L.PortSet.state g.D.Datagrams.port c.loop.self)
    (state_of g.L.PortSet.state g.D.Datagrams.port c.turn.new.self)
    (λ journal part.
    part_then g.M.MessageReader.input_kind c.args.self.now.feeder.publisher.publisher.journal
    c.loop.self.feeder.publisher.publisher.journal journal known behind
    (c.loop.invariant.taken life is) part)
    (λ journal never. never) (c.in_err-taken.ensures.broken (grown life start.0) start.1.rests)))

pub returns-clause-broken : goal.returns-clause-broken
returns-clause-broken g c = λ life is.
    let start = c.loop.invariant.fed life is in
    broken_now g.S.Storage.shows g.S.Storage.may_leave g.S.Storage.moment g.S.Storage.left_since g.S.Storage.failed
    g.L.PortSet.modeled
    g.D.Datagrams.modeled c.args.lines.now g.met.S.Storage.only_now
    (TakesPart g.M.MessageReader.input_kind c.args.self.now.feeder.publisher.publisher.journal
    (entries_of_rest g.M.InputReader.unread g.K.Source.left g.M.MessageReader.entries c.args.self.now.input))
    MayNotClose life start.0
    (state_of g.L.PortSet.state g.D.Datagrams.port c.args.self.now)
    (state_of g.L.PortSet.state g.D.Datagrams.port c.loop.self) (
      entries_of_rest g.M.InputReader.unread g.K.Source.left g.M.MessageReader.entries c.loop.self.input,
      (Full, c.loop.invariant.taken life is),
    ) start.1
