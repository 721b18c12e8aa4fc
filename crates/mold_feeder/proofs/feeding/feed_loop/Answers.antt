use Rattle.std.proofs.Common.{◌≡◌, [], ap, refl}
use Rattle.mold_devices.proofs.LineLemmas.{on_err}
use Rattle.mold_session.specs.Journal.{JournalState}
use Rattle.mold_feeder.specs.Feeding.{MayClose, closes_at, grown, state_of}
use Rattle.mold_feeder.specs.Input.{entries_of_rest}
use Rattle.mold_feeder.specs.JournalMessages.{HasMessages}
use Rattle.mold_feeder.specs.Taking.{TakesInput, TakesYet, reopened}
use Rattle.mold_feeder.specs.declared.feed_stop.FeedStop.TheVariants.{Ended}
use Rattle.mold_feeder.specs.declared.piece_input.PieceInput.{PieceInput}
use Rattle.mold_feeder.proofs.FeedingLemmas.{broken_after, broken_now, broken_then, broken_weaker, ended_at, fed_then}
use Rattle.mold_feeder.proofs.FeedingLemmas.{fed_yet, said_all}
use Rattle.mold_feeder.proofs.TakingLemmas.{stop_yet, takes_same, yet_none, yet_same}
use Rattle.mold_feeder.proofs.feeding.feed_loop.Goals as goal

pub returns-clause-finished : goal.returns-clause-finished
returns-clause-finished g c = λ life is.
    let begun = c.begin.ensures.fed life is in
    let ran = c.in_ok-stop.ensures.fed (grown life []) begun.rests in
    let stop = c.in_ok-stop.stop in
    record {
      stop = stop;
      groups = ran.0;
      fed = fed_then g.S.Storage.shows g.S.Storage.may_leave g.S.Storage.moment g.S.Storage.left_since g.S.Storage.failed
          g.L.PortSet.modeled g.D.Datagrams.modeled c.args.options.now.lines life [] ran.0
          (closes_at c.args.options.now.end stop) (state_of g.L.PortSet.state g.D.Datagrams.port c.args.feed.now)
          (state_of g.L.PortSet.state g.D.Datagrams.port c.begin.new.self)
          (state_of g.L.PortSet.state g.D.Datagrams.port c.run.new.self) begun ran.1;
      taken = takes_same (λ (j : JournalState). HasMessages g.J.Source.left c.args.journal.now j.messages 1) c.args.options.now.appends g.M.MessageReader.input_kind
          c.begin.new.self.feeder.publisher.publisher.journal c.args.feed.now.feeder.publisher.publisher.journal
          c.run.new.self.feeder.publisher.publisher.journal
          (entries_of_rest g.M.InputReader.unread g.K.Source.left g.M.MessageReader.entries c.begin.new.self.input)
          (entries_of_rest g.M.InputReader.unread g.K.Source.left g.M.MessageReader.entries c.args.feed.now.input) stop
          c.begin.ensures.journal
          (ap (λ (i : PieceInput g.row.M.Denot g.row.K.Denot).
          entries_of_rest g.M.InputReader.unread g.K.Source.left g.M.MessageReader.entries i) c.begin.ensures.input)
          (c.in_ok-stop.ensures.taken (grown life []) begun.rests);
      all = c.in_ok-stop.ensures.all;
      ends = c.status_of.ensures;
      said = said_all (g.O.Sink.held c.args.sink.now) (g.O.Sink.held c.begin.new.sink)
          (g.O.Sink.held c.send.new.sink) _ _ c.begin.new.text.items c.push_stop.new.out.items
          c.in_ok-begin.ensures.said c.in_ok-begin.ensures.empty c.in_ok-push_stop.ensures.text
          c.in_ok-send.ensures.whole;
    }

pub returns-in_err-buffer-clause-broken : goal.returns-in_err-buffer-clause-broken
returns-in_err-buffer-clause-broken g c = λ life is.
    on_err _
    (broken_now g.S.Storage.shows g.S.Storage.may_leave g.S.Storage.moment g.S.Storage.left_since g.S.Storage.failed
    g.L.PortSet.modeled
    g.D.Datagrams.modeled c.args.options.now.lines g.met.S.Storage.only_now
    (TakesYet (HasMessages g.J.Source.left c.args.journal.now c.args.feed.now.feeder.publisher.publisher.journal.messages 1) c.args.options.now.appends g.M.MessageReader.input_kind c.args.feed.now.feeder.publisher.publisher.journal
    (entries_of_rest g.M.InputReader.unread g.K.Source.left g.M.MessageReader.entries c.args.feed.now.input))
    (MayClose (HasMessages g.J.Source.left c.args.journal.now c.args.feed.now.feeder.publisher.publisher.journal.messages 1) c.args.options.now.end c.args.options.now.appends g.M.MessageReader.input_kind
    c.args.feed.now.feeder.publisher.publisher.journal
    (entries_of_rest g.M.InputReader.unread g.K.Source.left g.M.MessageReader.entries c.args.feed.now.input)) life []
    (state_of g.L.PortSet.state g.D.Datagrams.port c.args.feed.now)
    (state_of g.L.PortSet.state g.D.Datagrams.port c.args.feed.now)
    (yet_none (HasMessages g.J.Source.left c.args.journal.now c.args.feed.now.feeder.publisher.publisher.journal.messages 1) c.args.options.now.appends g.M.MessageReader.input_kind c.args.feed.now.feeder.publisher.publisher.journal
    c.args.feed.now.feeder.publisher.publisher.journal
    (entries_of_rest g.M.InputReader.unread g.K.Source.left g.M.MessageReader.entries c.args.feed.now.input) refl)
    (fed_yet g.S.Storage.shows g.S.Storage.may_leave g.S.Storage.moment g.S.Storage.left_since g.S.Storage.failed
    g.L.PortSet.modeled
    g.D.Datagrams.modeled c.args.options.now.lines g.met.S.Storage.only_now life
    (state_of g.L.PortSet.state g.D.Datagrams.port c.args.feed.now) is))

pub returns-in_err-begin-clause-broken : goal.returns-in_err-begin-clause-broken
returns-in_err-begin-clause-broken g c = λ life is.
    on_err _
    (broken_now g.S.Storage.shows g.S.Storage.may_leave g.S.Storage.moment g.S.Storage.left_since g.S.Storage.failed
    g.L.PortSet.modeled
    g.D.Datagrams.modeled c.args.options.now.lines g.met.S.Storage.only_now
    (TakesYet (HasMessages g.J.Source.left c.args.journal.now c.args.feed.now.feeder.publisher.publisher.journal.messages 1) c.args.options.now.appends g.M.MessageReader.input_kind c.args.feed.now.feeder.publisher.publisher.journal
    (entries_of_rest g.M.InputReader.unread g.K.Source.left g.M.MessageReader.entries c.args.feed.now.input))
    (MayClose (HasMessages g.J.Source.left c.args.journal.now c.args.feed.now.feeder.publisher.publisher.journal.messages 1) c.args.options.now.end c.args.options.now.appends g.M.MessageReader.input_kind
    c.args.feed.now.feeder.publisher.publisher.journal
    (entries_of_rest g.M.InputReader.unread g.K.Source.left g.M.MessageReader.entries c.args.feed.now.input)) life []
    (state_of g.L.PortSet.state g.D.Datagrams.port c.args.feed.now)
    (state_of g.L.PortSet.state g.D.Datagrams.port c.begin.new.self)
    (yet_none (HasMessages g.J.Source.left c.args.journal.now c.args.feed.now.feeder.publisher.publisher.journal.messages 1) c.args.options.now.appends g.M.MessageReader.input_kind c.args.feed.now.feeder.publisher.publisher.journal
    c.begin.new.self.feeder.publisher.publisher.journal
    (entries_of_rest g.M.InputReader.unread g.K.Source.left g.M.MessageReader.entries c.args.feed.now.input)
    c.begin.ensures.journal)
    (c.begin.ensures.fed life is))

pub returns-in_err-stop-clause-broken : goal.returns-in_err-stop-clause-broken
returns-in_err-stop-clause-broken g c = λ life is.
    let appends = c.args.options.now.appends in
    let kind = g.M.MessageReader.input_kind in
    let old = c.args.feed.now.feeder.publisher.publisher.journal in
    let mid = c.begin.new.self.feeder.publisher.publisher.journal in
    let known =
    entries_of_rest g.M.InputReader.unread g.K.Source.left g.M.MessageReader.entries c.args.feed.now.input in
    let behind =
    entries_of_rest g.M.InputReader.unread g.K.Source.left g.M.MessageReader.entries c.begin.new.self.input in
    let entries : behind ≡ known = ap (λ (i : PieceInput g.row.M.Denot g.row.K.Denot).
    entries_of_rest g.M.InputReader.unread g.K.Source.left g.M.MessageReader.entries i) c.begin.ensures.input in
    let begun = c.begin.ensures.fed life is in
    on_err _
    (broken_then g.S.Storage.shows g.S.Storage.may_leave g.S.Storage.moment g.S.Storage.left_since g.S.Storage.failed
    g.L.PortSet.modeled
    g.D.Datagrams.modeled c.args.options.now.lines (TakesYet (HasMessages g.J.Source.left c.args.journal.now c.args.feed.now.feeder.publisher.publisher.journal.messages 1) appends kind old known)
    (MayClose (HasMessages g.J.Source.left c.args.journal.now c.args.feed.now.feeder.publisher.publisher.journal.messages 1) c.args.options.now.end appends kind old known) life []
    (state_of g.L.PortSet.state g.D.Datagrams.port c.args.feed.now)
    (state_of g.L.PortSet.state g.D.Datagrams.port c.begin.new.self)
    (state_of g.L.PortSet.state g.D.Datagrams.port c.run.new.self) begun
    (broken_weaker g.S.Storage.shows g.S.Storage.may_leave g.S.Storage.moment g.S.Storage.left_since g.S.Storage.failed
    g.L.PortSet.modeled
    g.D.Datagrams.modeled c.args.options.now.lines (TakesYet (HasMessages g.J.Source.left c.args.journal.now c.args.feed.now.feeder.publisher.publisher.journal.messages 1) appends kind old known)
    (MayClose (HasMessages g.J.Source.left c.args.journal.now c.args.feed.now.feeder.publisher.publisher.journal.messages 1) c.args.options.now.end appends kind old known) (grown life []) (TakesYet (HasMessages g.J.Source.left c.args.journal.now c.begin.new.self.feeder.publisher.publisher.journal.messages 1) appends kind mid behind)
    (MayClose (HasMessages g.J.Source.left c.args.journal.now c.begin.new.self.feeder.publisher.publisher.journal.messages 1) c.args.options.now.end appends kind mid behind)
    (state_of g.L.PortSet.state g.D.Datagrams.port c.begin.new.self)
    (state_of g.L.PortSet.state g.D.Datagrams.port c.run.new.self)
    (λ journal yet. yet_same (λ (j : JournalState). HasMessages g.J.Source.left c.args.journal.now j.messages 1) appends kind mid old journal behind known c.begin.ensures.journal entries yet)
    (λ journal may. (
      may.0,
      takes_same (λ (j : JournalState). HasMessages g.J.Source.left c.args.journal.now j.messages 1) appends kind mid old journal behind known Ended c.begin.ensures.journal entries may.1,
    )) (c.in_err-stop.ensures.broken (grown life []) begun.rests)))

pub returns-in_err-push_stop-clause-broken : goal.returns-in_err-push_stop-clause-broken
returns-in_err-push_stop-clause-broken g c = λ life is.
    let appends = c.args.options.now.appends in
    let kind = g.M.MessageReader.input_kind in
    let end = c.args.options.now.end in
    let stop = c.in_ok-stop.stop in
    let old = c.args.feed.now.feeder.publisher.publisher.journal in
    let new = c.run.new.self.feeder.publisher.publisher.journal in
    let known =
    entries_of_rest g.M.InputReader.unread g.K.Source.left g.M.MessageReader.entries c.args.feed.now.input in
    let begun = c.begin.ensures.fed life is in
    let takes =
    takes_same (λ (j : JournalState). HasMessages g.J.Source.left c.args.journal.now j.messages 1) appends kind c.begin.new.self.feeder.publisher.publisher.journal old new
    (entries_of_rest g.M.InputReader.unread g.K.Source.left g.M.MessageReader.entries c.begin.new.self.input) known stop
    c.begin.ensures.journal
    (ap (λ (i : PieceInput g.row.M.Denot g.row.K.Denot).
    entries_of_rest g.M.InputReader.unread g.K.Source.left g.M.MessageReader.entries i) c.begin.ensures.input)
    (c.in_ok-stop.ensures.taken (grown life []) begun.rests) in
    on_err _
    (broken_after g.S.Storage.shows g.S.Storage.may_leave g.S.Storage.moment g.S.Storage.left_since g.S.Storage.failed
    g.L.PortSet.modeled
    g.D.Datagrams.modeled c.args.options.now.lines g.met.S.Storage.only_now (TakesYet (HasMessages g.J.Source.left c.args.journal.now c.args.feed.now.feeder.publisher.publisher.journal.messages 1) appends kind old known)
    (MayClose (HasMessages g.J.Source.left c.args.journal.now c.args.feed.now.feeder.publisher.publisher.journal.messages 1) end appends kind old known) life end stop
    (state_of g.L.PortSet.state g.D.Datagrams.port c.args.feed.now)
    (state_of g.L.PortSet.state g.D.Datagrams.port c.begin.new.self)
    (state_of g.L.PortSet.state g.D.Datagrams.port c.run.new.self) is
    (λ same. stop_yet (HasMessages g.J.Source.left c.args.journal.now c.args.feed.now.feeder.publisher.publisher.journal.messages 1) appends kind old new known stop same takes)
    (ended_at end stop (TakesInput (HasMessages g.J.Source.left c.args.journal.now c.args.feed.now.feeder.publisher.publisher.journal.messages 1) appends kind old (reopened old new) known) takes)
    begun (c.in_ok-stop.ensures.fed (grown life []) begun.rests))

pub returns-in_err-send-clause-broken : goal.returns-in_err-send-clause-broken
returns-in_err-send-clause-broken g c = λ life is.
    let appends = c.args.options.now.appends in
    let kind = g.M.MessageReader.input_kind in
    let end = c.args.options.now.end in
    let stop = c.in_ok-stop.stop in
    let old = c.args.feed.now.feeder.publisher.publisher.journal in
    let new = c.run.new.self.feeder.publisher.publisher.journal in
    let known =
    entries_of_rest g.M.InputReader.unread g.K.Source.left g.M.MessageReader.entries c.args.feed.now.input in
    let begun = c.begin.ensures.fed life is in
    let takes =
    takes_same (λ (j : JournalState). HasMessages g.J.Source.left c.args.journal.now j.messages 1) appends kind c.begin.new.self.feeder.publisher.publisher.journal old new
    (entries_of_rest g.M.InputReader.unread g.K.Source.left g.M.MessageReader.entries c.begin.new.self.input) known stop
    c.begin.ensures.journal
    (ap (λ (i : PieceInput g.row.M.Denot g.row.K.Denot).
    entries_of_rest g.M.InputReader.unread g.K.Source.left g.M.MessageReader.entries i) c.begin.ensures.input)
    (c.in_ok-stop.ensures.taken (grown life []) begun.rests) in
    on_err _
    (broken_after g.S.Storage.shows g.S.Storage.may_leave g.S.Storage.moment g.S.Storage.left_since g.S.Storage.failed
    g.L.PortSet.modeled
    g.D.Datagrams.modeled c.args.options.now.lines g.met.S.Storage.only_now (TakesYet (HasMessages g.J.Source.left c.args.journal.now c.args.feed.now.feeder.publisher.publisher.journal.messages 1) appends kind old known)
    (MayClose (HasMessages g.J.Source.left c.args.journal.now c.args.feed.now.feeder.publisher.publisher.journal.messages 1) end appends kind old known) life end stop
    (state_of g.L.PortSet.state g.D.Datagrams.port c.args.feed.now)
    (state_of g.L.PortSet.state g.D.Datagrams.port c.begin.new.self)
    (state_of g.L.PortSet.state g.D.Datagrams.port c.run.new.self) is
    (λ same. stop_yet (HasMessages g.J.Source.left c.args.journal.now c.args.feed.now.feeder.publisher.publisher.journal.messages 1) appends kind old new known stop same takes)
    (ended_at end stop (TakesInput (HasMessages g.J.Source.left c.args.journal.now c.args.feed.now.feeder.publisher.publisher.journal.messages 1) appends kind old (reopened old new) known) takes)
    begun (c.in_ok-stop.ensures.fed (grown life []) begun.rests))
