use Rattle.std.proofs.Common.{◌∙◌, List, [], Option, Some, ap, false, subst, sym}
use Rattle.mold_input.specs.Entries.{Entry}
use Rattle.mold_devices.proofs.LineLemmas.{on_err}
use Rattle.mold_session.specs.Journal.{JournalState}
use Rattle.mold_durable_publisher.specs.DurablePublisher.{IsAtRest}
use Rattle.mold_input.specs.LongLines.{bytes_of}
use Rattle.mold_feeder.specs.Feeding.{MayNotClose, grown, state_of}
use Rattle.mold_feeder.specs.Input.{bytes_come, entries_after, entries_of_rest}
use Rattle.mold_feeder.specs.Taking.{Takes, TakesPart, filled_now, left_of}
use Rattle.mold_feeder.specs.ToEmpty.{source_left}
use Rattle.mold_feeder.specs.declared.feeder.Feeder.{Feeder}
use Rattle.mold_feeder.specs.declared.piece_input.PieceInput.{PieceInput}
use Rattle.mold_feeder.proofs.FeedingLemmas.{broken_now, broken_then, broken_weaker, fed_rested, fed_same, fed_then}
use Rattle.mold_feeder.proofs.TakingLemmas.{part_at, part_none, part_of_rest, turn_takes}
use Rattle.mold_feeder.proofs.feed.Feed.turn.Goals as goal

pub returns-clause-taken : goal.returns-clause-taken
returns-clause-taken g c = λ life is.
    let entries = g.M.MessageReader.entries in
    let kind = g.M.MessageReader.input_kind in
    let taken = c.in_ok-taken.taken in
    let known = entries_of_rest g.M.InputReader.unread g.K.Source.left entries c.args.self.now.input in
    let before = c.pause.new.self.input in
    let left = left_of taken (entries (bytes_come g.M.InputReader.unread c.take.new.self.input)) in
    let rest = entries_after entries left (bytes_of before.part) (source_left g.K.Source.left before.source) in
    let start : IsAtRest g.S.Storage.shows g.S.Storage.may_leave c.pause.new.self.feeder.publisher life =
    subst (λ (f : Feeder g.row.S.Denot g.row.L.Denot). IsAtRest g.S.Storage.shows g.S.Storage.may_leave f.publisher life)
    (sym c.in_ok-pause.ensures.feeder) is in
    let takes =
    turn_takes kind c.pause.new.self.feeder.publisher.publisher.journal c.take.new.self.feeder.publisher.publisher.journal
    known entries (entries (bytes_come g.M.InputReader.unread before))
    (entries (bytes_come g.M.InputReader.unread c.take.new.self.input)) (bytes_of before.part)
    (source_left g.K.Source.left before.source) taken c.in_ok-pause.ensures.rest (c.in_ok-taken.ensures.taken life start) in
    subst (λ (r : Option (List Entry)). Takes kind c.args.self.now.feeder.publisher.publisher.journal
    c.note.new.self.feeder.publisher.publisher.journal known r (filled_now taken))
    (sym (c.in_ok-note.ensures.rest
    ∙ ap (λ (i : PieceInput g.row.M.Denot g.row.K.Denot).
    entries_after entries left (bytes_of i.part) (source_left g.K.Source.left i.source)) c.take.ensures.input))
    (subst (λ (f : Feeder g.row.S.Denot g.row.L.Denot). Takes kind c.args.self.now.feeder.publisher.publisher.journal
    f.publisher.publisher.journal known rest (filled_now taken)) (sym c.note.ensures.feeder)
    (subst (λ (f : Feeder g.row.S.Denot g.row.L.Denot). Takes kind f.publisher.publisher.journal
    c.take.new.self.feeder.publisher.publisher.journal known rest (filled_now taken)) c.in_ok-pause.ensures.feeder takes))

pub returns-in_err-pause-clause-broken : goal.returns-in_err-pause-clause-broken
returns-in_err-pause-clause-broken g c = λ life is.
    on_err _
    (broken_now g.S.Storage.shows g.S.Storage.may_leave g.S.Storage.moment g.S.Storage.left_since g.S.Storage.failed
    g.L.PortSet.modeled
    g.D.Datagrams.modeled c.args.lines.now g.met.S.Storage.only_now
    (TakesPart g.M.MessageReader.input_kind c.args.self.now.feeder.publisher.publisher.journal
    (entries_of_rest g.M.InputReader.unread g.K.Source.left g.M.MessageReader.entries c.args.self.now.input))
    MayNotClose life []
    (state_of g.L.PortSet.state g.D.Datagrams.port c.args.self.now)
    (state_of g.L.PortSet.state g.D.Datagrams.port c.pause.new.self)
    (part_none g.M.MessageReader.input_kind c.args.self.now.feeder.publisher.publisher.journal
    c.pause.new.self.feeder.publisher.publisher.journal
    (entries_of_rest g.M.InputReader.unread g.K.Source.left g.M.MessageReader.entries c.args.self.now.input)
    (ap (λ (f : Feeder g.row.S.Denot g.row.L.Denot). f.publisher.publisher.journal) c.pause.ensures.feeder))
    (fed_rested g.S.Storage.shows g.S.Storage.may_leave g.S.Storage.moment g.S.Storage.left_since g.S.Storage.failed
    g.L.PortSet.modeled
    g.D.Datagrams.modeled c.args.lines.now g.met.S.Storage.only_now g.L.PortSet.state g.D.Datagrams.port life
    c.args.self.now c.pause.new.self is
    (ap (λ (f : Feeder g.row.S.Denot g.row.L.Denot). f.publisher) c.pause.ensures.feeder) c.pause.ensures.sent
    c.pause.ensures.requests))

pub returns-in_err-taken-clause-broken : goal.returns-in_err-taken-clause-broken
returns-in_err-taken-clause-broken g c = λ life is.
    let entries = g.M.MessageReader.entries in
    let known =
    entries_of_rest g.M.InputReader.unread g.K.Source.left g.M.MessageReader.entries c.args.self.now.input in
    let input = c.pause.new.self.input in
    let come = entries (bytes_come g.M.InputReader.unread input) in
    let before = c.pause.new.self.feeder.publisher.publisher.journal in
    let waited = fed_rested g.S.Storage.shows g.S.Storage.may_leave g.S.Storage.moment g.S.Storage.left_since g.S.Storage.failed
    g.L.PortSet.modeled g.D.Datagrams.modeled c.args.lines.now g.met.S.Storage.only_now g.L.PortSet.state g.D.Datagrams.port life
    c.args.self.now c.pause.new.self is
    (ap (λ (f : Feeder g.row.S.Denot g.row.L.Denot). f.publisher) c.pause.ensures.feeder) c.pause.ensures.sent
    c.pause.ensures.requests in
    on_err _
    (broken_then g.S.Storage.shows g.S.Storage.may_leave g.S.Storage.moment g.S.Storage.left_since g.S.Storage.failed
    g.L.PortSet.modeled
    g.D.Datagrams.modeled c.args.lines.now (TakesPart g.M.MessageReader.input_kind
    c.args.self.now.feeder.publisher.publisher.journal
    (entries_of_rest g.M.InputReader.unread g.K.Source.left g.M.MessageReader.entries c.args.self.now.input))
    MayNotClose life [] (state_of g.L.PortSet.state g.D.Datagrams.port c.args.self.now)
    (state_of g.L.PortSet.state g.D.Datagrams.port c.pause.new.self)
    (state_of g.L.PortSet.state g.D.Datagrams.port c.take.new.self) waited
    (broken_weaker g.S.Storage.shows g.S.Storage.may_leave g.S.Storage.moment g.S.Storage.left_since g.S.Storage.failed
    g.L.PortSet.modeled
    g.D.Datagrams.modeled c.args.lines.now (TakesPart g.M.MessageReader.input_kind
    c.args.self.now.feeder.publisher.publisher.journal
    (entries_of_rest g.M.InputReader.unread g.K.Source.left g.M.MessageReader.entries c.args.self.now.input))
    MayNotClose (grown life [])
    (TakesPart g.M.MessageReader.input_kind before (Some come)) MayNotClose
    (state_of g.L.PortSet.state g.D.Datagrams.port c.pause.new.self)
    (state_of g.L.PortSet.state g.D.Datagrams.port c.take.new.self)
    (λ journal part.
    subst (λ (j : JournalState). TakesPart g.M.MessageReader.input_kind j known journal)
    (ap (λ (f : Feeder g.row.S.Denot g.row.L.Denot). f.publisher.publisher.journal) c.pause.ensures.feeder)
    (part_of_rest g.M.MessageReader.input_kind before journal known entries come (bytes_of input.part)
    (source_left g.K.Source.left input.source) c.in_ok-pause.ensures.rest part))
    (λ journal never. never) (c.in_err-taken.ensures.broken (grown life []) waited.rests)))

pub returns-in_err-note-clause-broken : goal.returns-in_err-note-clause-broken
returns-in_err-note-clause-broken g c = λ life is.
    let entries = g.M.MessageReader.entries in
    let known =
    entries_of_rest g.M.InputReader.unread g.K.Source.left g.M.MessageReader.entries c.args.self.now.input in
    let input = c.pause.new.self.input in
    let come = entries (bytes_come g.M.InputReader.unread input) in
    let before = c.pause.new.self.feeder.publisher.publisher.journal in
    let after = c.take.new.self.feeder.publisher.publisher.journal in
    let waited = fed_rested g.S.Storage.shows g.S.Storage.may_leave g.S.Storage.moment g.S.Storage.left_since g.S.Storage.failed
    g.L.PortSet.modeled g.D.Datagrams.modeled c.args.lines.now g.met.S.Storage.only_now g.L.PortSet.state g.D.Datagrams.port life
    c.args.self.now c.pause.new.self is
    (ap (λ (f : Feeder g.row.S.Denot g.row.L.Denot). f.publisher) c.pause.ensures.feeder) c.pause.ensures.sent
    c.pause.ensures.requests in
    let took = c.in_ok-taken.ensures.fed (grown life []) waited.rests in
    let takes = turn_takes g.M.MessageReader.input_kind before after known entries come
    (entries (bytes_come g.M.InputReader.unread c.take.new.self.input)) (bytes_of input.part)
    (source_left g.K.Source.left input.source) c.in_ok-taken.taken c.in_ok-pause.ensures.rest
    (c.in_ok-taken.ensures.taken (grown life []) waited.rests) in
    on_err _
    (broken_now g.S.Storage.shows g.S.Storage.may_leave g.S.Storage.moment g.S.Storage.left_since g.S.Storage.failed
    g.L.PortSet.modeled
    g.D.Datagrams.modeled c.args.lines.now g.met.S.Storage.only_now
    (TakesPart g.M.MessageReader.input_kind c.args.self.now.feeder.publisher.publisher.journal
    (entries_of_rest g.M.InputReader.unread g.K.Source.left g.M.MessageReader.entries c.args.self.now.input))
    MayNotClose life took.0
    (state_of g.L.PortSet.state g.D.Datagrams.port c.args.self.now)
    (state_of g.L.PortSet.state g.D.Datagrams.port c.note.new.self)
    (subst (λ (j : JournalState). TakesPart g.M.MessageReader.input_kind j known
    c.note.new.self.feeder.publisher.publisher.journal)
    (ap (λ (f : Feeder g.row.S.Denot g.row.L.Denot). f.publisher.publisher.journal) c.pause.ensures.feeder)
    (part_at g.M.MessageReader.input_kind before after c.note.new.self.feeder.publisher.publisher.journal known _
    (filled_now c.in_ok-taken.taken)
    (ap (λ (f : Feeder g.row.S.Denot g.row.L.Denot). f.publisher.publisher.journal) c.note.ensures.feeder) takes))
    (fed_same g.S.Storage.shows g.S.Storage.may_leave g.S.Storage.moment g.S.Storage.left_since g.S.Storage.failed
    g.L.PortSet.modeled
    g.D.Datagrams.modeled c.args.lines.now g.met.S.Storage.only_now g.L.PortSet.state g.D.Datagrams.port life took.0
    false
    (state_of g.L.PortSet.state g.D.Datagrams.port c.args.self.now) c.take.new.self c.note.new.self
    (fed_then g.S.Storage.shows g.S.Storage.may_leave g.S.Storage.moment g.S.Storage.left_since g.S.Storage.failed
    g.L.PortSet.modeled
    g.D.Datagrams.modeled c.args.lines.now life [] took.0 false
    (state_of g.L.PortSet.state g.D.Datagrams.port c.args.self.now)
    (state_of g.L.PortSet.state g.D.Datagrams.port c.pause.new.self)
    (state_of g.L.PortSet.state g.D.Datagrams.port c.take.new.self) waited took.1)
    c.note.ensures.feeder c.note.ensures.requests))
