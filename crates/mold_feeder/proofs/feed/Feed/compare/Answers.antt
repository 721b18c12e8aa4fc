use Rattle.std.proofs.Common.{◌∙◌, ◌≤◌, ◌+◌, length, subst, sym, [], ap, arith, false, refl}
use Rattle.std.proofs.Common.{◌&&◌, not}
use Rattle.mold_session.specs.Journal.{JournalState}
use Rattle.mold_feeder.specs.Feeding.{state_of}
use Rattle.mold_feeder.specs.Input.{KeepsRest, entries_of_rest}
use Rattle.mold_feeder.specs.JournalMessages.{HasMessages}
use Rattle.mold_feeder.specs.Taking.{ComparesCome}
use Rattle.mold_feeder.specs.declared.piece_input.PieceInput.{PieceInput}
use Rattle.mold_feeder.proofs.TakingLemmas.{compare_on, compare_stops, over_rest, same_kept, same_yet}
use Rattle.mold_feeder.specs.declared.feeder.Feeder.{Feeder}
use Rattle.mold_feeder.specs.declared.requests.Requests.{Requests}
use Rattle.mold_feeder.proofs.FeedingLemmas.{fed_compared, fed_paused, fed_yet}
use Rattle.mold_feeder.proofs.feed.Feed.compare.Goals as goal

pub loop-init : goal.loop-init
loop-init g c = record {
  fed = λ life is.
      fed_yet g.S.Storage.shows g.S.Storage.may_leave g.S.Storage.moment g.S.Storage.left_since g.S.Storage.failed
      g.L.PortSet.modeled
      g.D.Datagrams.modeled c.args.lines.now g.met.S.Storage.only_now life
      (state_of g.L.PortSet.state g.D.Datagrams.port c.args.self.now) is;
  longest = c.requires.longest;
  buffer = c.requires.buffer;
  input = c.requires.input;
  has = λ has. has;
  same = λ has. same_yet c.args.self.now.feeder.publisher.publisher.journal 1
      (entries_of_rest g.M.InputReader.unread g.K.Source.left g.M.MessageReader.entries c.args.self.now.input);
  journal = refl;
  some = omega arith;
  within = omega arith;
}

pub returns-in_err-pause-clause-fed : goal.returns-in_err-pause-clause-fed
returns-in_err-pause-clause-fed g c = λ life is.
    fed_paused g.S.Storage.shows g.S.Storage.may_leave g.S.Storage.moment g.S.Storage.left_since g.S.Storage.failed
    g.L.PortSet.modeled
    g.D.Datagrams.modeled c.args.lines.now g.met.S.Storage.only_now g.L.PortSet.state g.D.Datagrams.port life [] false
    (state_of g.L.PortSet.state g.D.Datagrams.port c.args.self.now) c.loop.self c.pause.new.self
    (c.loop.invariant.fed life is)
    (ap (λ (f : Feeder g.row.S.Denot g.row.L.Denot). f.publisher) c.pause.ensures.feeder) c.pause.ensures.sent
    c.pause.ensures.requests

pub returns-in_err-at-clause-fed : goal.returns-in_err-at-clause-fed
returns-in_err-at-clause-fed g c = λ life is.
    fed_compared g.S.Storage.shows g.S.Storage.may_leave g.S.Storage.moment g.S.Storage.left_since g.S.Storage.failed
    g.L.PortSet.modeled
    g.D.Datagrams.modeled c.args.lines.now g.met.S.Storage.only_now g.L.PortSet.state g.D.Datagrams.port life
    (state_of g.L.PortSet.state g.D.Datagrams.port c.args.self.now) c.loop.self c.pause.new.self c.serve.new.self
    c.compare_some.new.self (c.loop.invariant.fed life is)
    (ap (λ (f : Feeder g.row.S.Denot g.row.L.Denot). f.publisher) c.pause.ensures.feeder) c.pause.ensures.sent
    c.pause.ensures.requests c.serve.ensures.fed c.compare_some.ensures.feeder c.compare_some.ensures.requests

pub returns-then-not-compares_on-clause-fed : goal.returns-then-not-compares_on-clause-fed
returns-then-not-compares_on-clause-fed g c = λ life is.
    fed_compared g.S.Storage.shows g.S.Storage.may_leave g.S.Storage.moment g.S.Storage.left_since g.S.Storage.failed
    g.L.PortSet.modeled
    g.D.Datagrams.modeled c.args.lines.now g.met.S.Storage.only_now g.L.PortSet.state g.D.Datagrams.port life
    (state_of g.L.PortSet.state g.D.Datagrams.port c.args.self.now) c.loop.self c.pause.new.self c.serve.new.self
    c.compare_some.new.self (c.loop.invariant.fed life is)
    (ap (λ (f : Feeder g.row.S.Denot g.row.L.Denot). f.publisher) c.pause.ensures.feeder) c.pause.ensures.sent
    c.pause.ensures.requests c.serve.ensures.fed c.compare_some.ensures.feeder c.compare_some.ensures.requests

pub loop-preserved : goal.loop-preserved
loop-preserved g c = record {
  fed = λ life is.
      fed_compared g.S.Storage.shows g.S.Storage.may_leave g.S.Storage.moment g.S.Storage.left_since g.S.Storage.failed
      g.L.PortSet.modeled
      g.D.Datagrams.modeled c.args.lines.now g.met.S.Storage.only_now g.L.PortSet.state g.D.Datagrams.port life
      (state_of g.L.PortSet.state g.D.Datagrams.port c.args.self.now) c.loop.self c.pause.new.self c.serve.new.self
      c.compare_some.new.self (c.loop.invariant.fed life is)
      (ap (λ (f : Feeder g.row.S.Denot g.row.L.Denot). f.publisher) c.pause.ensures.feeder) c.pause.ensures.sent
      c.pause.ensures.requests c.serve.ensures.fed c.compare_some.ensures.feeder c.compare_some.ensures.requests;
  longest = subst (λ (f : Feeder g.row.S.Denot g.row.L.Denot). f.publisher.publisher.journal.max_message
      ≤ c.compare_some.new.self.requests.server.max_message) (sym c.compare_some.ensures.feeder)
      (subst (λ (r : Requests g.row.D.Denot). c.serve.new.self.feeder.publisher.publisher.journal.max_message
      ≤ r.server.max_message) (sym c.compare_some.ensures.requests) c.serve.ensures.longest);
  buffer = c.serve.ensures.buffer;
  input = c.in_ok-at.ensures.input;
  has = λ has.
      subst (λ (j : JournalState). HasMessages g.J.Source.left c.compare_some.new.journal j.messages c.in_ok-at.at)
      (c.serve.ensures.journal
      ∙ ap (λ (f : Feeder g.row.S.Denot g.row.L.Denot). f.publisher.publisher.journal) c.in_ok-pause.ensures.feeder
      ∙ c.loop.invariant.journal) (c.in_ok-at.ensures.messages
      (subst (λ (j : JournalState). HasMessages g.J.Source.left c.loop.journal j.messages c.loop.number)
      (sym (c.serve.ensures.journal
      ∙ ap (λ (f : Feeder g.row.S.Denot g.row.L.Denot). f.publisher.publisher.journal) c.in_ok-pause.ensures.feeder
      ∙ c.loop.invariant.journal)) (c.loop.invariant.has has)));
  same = λ has.
      let test = c.if-not-compares_on.false in
      let is = c.compares_on.ensures in
      compare_on c.args.self.now.feeder.publisher.publisher.journal 1 c.loop.number c.in_ok-at.at
      (entries_of_rest g.M.InputReader.unread g.K.Source.left g.M.MessageReader.entries c.args.self.now.input)
      (entries_of_rest g.M.InputReader.unread g.K.Source.left g.M.MessageReader.entries c.serve.new.self.input)
      (entries_of_rest g.M.InputReader.unread g.K.Source.left g.M.MessageReader.entries c.compare_some.new.self.input) c.in_ok-at.compared
      (not c.compare_some.new.self.input.ready && c.compare_some.new.self.input.ended) (cc)
      (same_kept c.args.self.now.feeder.publisher.publisher.journal 1 c.loop.number (entries_of_rest g.M.InputReader.unread g.K.Source.left g.M.MessageReader.entries c.args.self.now.input)
      (entries_of_rest g.M.InputReader.unread g.K.Source.left g.M.MessageReader.entries c.loop.self.input)
      (entries_of_rest g.M.InputReader.unread g.K.Source.left g.M.MessageReader.entries c.serve.new.self.input) (c.loop.invariant.same has)
      (subst (λ (i : PieceInput g.row.M.Denot g.row.K.Denot). KeepsRest
      (entries_of_rest g.M.InputReader.unread g.K.Source.left g.M.MessageReader.entries c.loop.self.input)
      (entries_of_rest g.M.InputReader.unread g.K.Source.left g.M.MessageReader.entries i)) (sym c.serve.ensures.input)
      c.in_ok-pause.ensures.rest))
      (subst (λ (j : JournalState). ComparesCome j c.loop.number c.in_ok-at.at
      (entries_of_rest g.M.InputReader.unread g.K.Source.left g.M.MessageReader.entries c.serve.new.self.input)
      (entries_of_rest g.M.InputReader.unread g.K.Source.left g.M.MessageReader.entries c.compare_some.new.self.input) c.in_ok-at.compared)
      (c.serve.ensures.journal
      ∙ ap (λ (f : Feeder g.row.S.Denot g.row.L.Denot). f.publisher.publisher.journal) c.in_ok-pause.ensures.feeder
      ∙ c.loop.invariant.journal) (c.in_ok-at.ensures.compared
      (subst (λ (j : JournalState). HasMessages g.J.Source.left c.loop.journal j.messages c.loop.number)
      (sym (c.serve.ensures.journal
      ∙ ap (λ (f : Feeder g.row.S.Denot g.row.L.Denot). f.publisher.publisher.journal) c.in_ok-pause.ensures.feeder
      ∙ c.loop.invariant.journal)) (c.loop.invariant.has has))));
  journal = ap (λ (f : Feeder g.row.S.Denot g.row.L.Denot). f.publisher.publisher.journal) c.compare_some.ensures.feeder
      ∙ (c.serve.ensures.journal
      ∙ ap (λ (f : Feeder g.row.S.Denot g.row.L.Denot). f.publisher.publisher.journal) c.in_ok-pause.ensures.feeder
      ∙ c.loop.invariant.journal);
  some = c.in_ok-at.ensures.within.0;
  within = subst (λ (f : Feeder g.row.S.Denot g.row.L.Denot). c.in_ok-at.at
      ≤ length f.publisher.publisher.journal.messages + 1) (sym c.compare_some.ensures.feeder)
      c.in_ok-at.ensures.within.1;
}

pub returns-then-not-compares_on-clause-compared : goal.returns-then-not-compares_on-clause-compared
returns-then-not-compares_on-clause-compared g c = λ has.
    let test = c.if-not-compares_on.true in
    let is = c.compares_on.ensures in
    compare_stops c.args.self.now.feeder.publisher.publisher.journal 1 c.loop.number c.in_ok-at.at
    (entries_of_rest g.M.InputReader.unread g.K.Source.left g.M.MessageReader.entries c.args.self.now.input)
    (entries_of_rest g.M.InputReader.unread g.K.Source.left g.M.MessageReader.entries c.serve.new.self.input)
    (entries_of_rest g.M.InputReader.unread g.K.Source.left g.M.MessageReader.entries c.compare_some.new.self.input) c.in_ok-at.compared
    (not c.compare_some.new.self.input.ready && c.compare_some.new.self.input.ended) (cc)
    (over_rest g.M.PieceReader.is_part g.M.InputReader.unread g.K.Source.left g.M.MessageReader.entries c.compare_some.new.self.input
    c.in_ok-at.ensures.input c.empty_law.ensures.none)
    (same_kept c.args.self.now.feeder.publisher.publisher.journal 1 c.loop.number (entries_of_rest g.M.InputReader.unread g.K.Source.left g.M.MessageReader.entries c.args.self.now.input)
    (entries_of_rest g.M.InputReader.unread g.K.Source.left g.M.MessageReader.entries c.loop.self.input)
    (entries_of_rest g.M.InputReader.unread g.K.Source.left g.M.MessageReader.entries c.serve.new.self.input) (c.loop.invariant.same has)
    (subst (λ (i : PieceInput g.row.M.Denot g.row.K.Denot). KeepsRest
    (entries_of_rest g.M.InputReader.unread g.K.Source.left g.M.MessageReader.entries c.loop.self.input)
    (entries_of_rest g.M.InputReader.unread g.K.Source.left g.M.MessageReader.entries i)) (sym c.serve.ensures.input)
    c.in_ok-pause.ensures.rest))
    (subst (λ (j : JournalState). ComparesCome j c.loop.number c.in_ok-at.at
    (entries_of_rest g.M.InputReader.unread g.K.Source.left g.M.MessageReader.entries c.serve.new.self.input)
    (entries_of_rest g.M.InputReader.unread g.K.Source.left g.M.MessageReader.entries c.compare_some.new.self.input) c.in_ok-at.compared)
    (c.serve.ensures.journal
    ∙ ap (λ (f : Feeder g.row.S.Denot g.row.L.Denot). f.publisher.publisher.journal) c.in_ok-pause.ensures.feeder
    ∙ c.loop.invariant.journal) (c.in_ok-at.ensures.compared
    (subst (λ (j : JournalState). HasMessages g.J.Source.left c.loop.journal j.messages c.loop.number)
    (sym (c.serve.ensures.journal
    ∙ ap (λ (f : Feeder g.row.S.Denot g.row.L.Denot). f.publisher.publisher.journal) c.in_ok-pause.ensures.feeder
    ∙ c.loop.invariant.journal)) (c.loop.invariant.has has))))

pub returns-then-not-compares_on-clause-journal : goal.returns-then-not-compares_on-clause-journal
returns-then-not-compares_on-clause-journal g c =
    ap (λ (f : Feeder g.row.S.Denot g.row.L.Denot). f.publisher.publisher.journal) c.compare_some.ensures.feeder
    ∙ (c.serve.ensures.journal
    ∙ ap (λ (f : Feeder g.row.S.Denot g.row.L.Denot). f.publisher.publisher.journal) c.in_ok-pause.ensures.feeder
    ∙ c.loop.invariant.journal)

pub returns-in_err-at-clause-journal : goal.returns-in_err-at-clause-journal
returns-in_err-at-clause-journal g c =
    ap (λ (f : Feeder g.row.S.Denot g.row.L.Denot). f.publisher.publisher.journal) c.compare_some.ensures.feeder
    ∙ (c.serve.ensures.journal
    ∙ ap (λ (f : Feeder g.row.S.Denot g.row.L.Denot). f.publisher.publisher.journal) c.in_ok-pause.ensures.feeder
    ∙ c.loop.invariant.journal)

pub returns-in_err-pause-clause-journal : goal.returns-in_err-pause-clause-journal
returns-in_err-pause-clause-journal g c =
    ap (λ (f : Feeder g.row.S.Denot g.row.L.Denot). f.publisher.publisher.journal) c.pause.ensures.feeder
    ∙ c.loop.invariant.journal
