use Rattle.std.proofs.Common.{◌∙◌, Bool, None, Some, ap, refl, subst, sym}
use Rattle.mold_loop.specs.LocalFeed.{lines, rounds}
use Rattle.mold_loop.specs.Looping.{line_state}
use Rattle.mold_loop.specs.Passing.{routed_end}
use Rattle.mold_loop.specs.Repairing.{repair_state}
use Rattle.mold_serve.specs.Serving.{service_of}
use Rattle.mold_ports.specs.Ports.{Port}
use Rattle.mold_session.specs.Publisher.{PublisherState}
use Rattle.mold_turns.proofs.FaultLemmas.{counts_behind, counts_same, two_same}
use Rattle.mold_loop.proofs.WritingLemmas.{counts_after, none_failed}
use Rattle.mold_turns.specs.Outgoing.{IsBounded}
use Rattle.mold_loop.proofs.LocalFeedLemmas.{passed_from, rounds_from, same_twice}
use Rattle.mold_loop.proofs.LoopEndLemmas.{journal_left, loop_done, loop_stopped, loop_unended, loop_unreceived, loop_unrepaired}
use Rattle.mold_loop.proofs.LoopEndLemmas.{rests_from}
use Rattle.mold_turns.proofs.RunLemmas.{on_ok}
use Rattle.mold_loop.proofs.local_feed.LocalFeed.run.Goals as goal

pub returns-in-Some-clause-failures : goal.returns-in-Some-clause-failures
returns-in-Some-clause-failures g c =
    let none = none_failed c.in_ok-refused.ensures.failures in
    counts_after c.print_refused.result _ _ _ _ _ _ _ _ none.source none.sink none.errors c.print_refused.ensures.sinks

pub returns-in-Some-clause-quiet : goal.returns-in-Some-clause-quiet
returns-in-Some-clause-quiet g c = λ plain.
    let before = c.in_ok-refused.ensures.quiet plain in
    let quiet = c.print_refused.ensures.quiet (c.in_ok-refused.ensures.plain plain) in
    (quiet.0 ∙ before.0, counts_behind c.print_refused.result _ _ _ _ _ before.1.0 before.1.1 quiet.1)

pub returns-in_err-refused-clause-run : goal.returns-in_err-refused-clause-run
returns-in_err-refused-clause-run g c modeled =
    let port = g.D.Datagrams.port in
    let feed = c.args.self.now in
    let peers = feed.options.now.peers in
    loop_unreceived feed.options.now.reporting feed.options.now.drops peers.a peers.b peers.server feed.options.now.turns c.args.publisher.now
    c.pass_messages.new.publisher c.args.server.now (lines port feed) (rounds port c.args.server.now feed) _
    c.pass_messages.result c.from_residual.result _ _ _ _ (lines port c.pass_messages.new.self)
    (rounds port c.args.server.now c.pass_messages.new.self) c.from_residual.ensures.0
    (ap port c.pass_messages.ensures.only.server) (ap port c.pass_messages.ensures.only.requests)
    (c.pass_messages.ensures.received modeled)

pub returns-in-Some-clause-run : goal.returns-in-Some-clause-run
returns-in-Some-clause-run g c modeled =
    let port = g.D.Datagrams.port in
    let feed = c.args.self.now in
    let peers = feed.options.now.peers in
    let here = lines port c.pass_messages.new.self in
    let here_left = line_state here.publisher here.a here.b here.progress.arbitration c.print_refused.new.outgoing in
    let behind = rounds port c.args.server.now c.pass_messages.new.self in
    let left = repair_state behind.server behind.requests c.args.server.now here.progress.arbitration
    c.print_refused.new.outgoing in
    loop_stopped feed.options.now.reporting feed.options.now.drops peers.a peers.b peers.server feed.options.now.turns c.args.publisher.now
    c.pass_messages.new.publisher c.args.server.now (lines port feed) (rounds port c.args.server.now feed) _
    c.in-Some.refusal c.next-number.result c.print_refused.result
    _ _ _ _ _ _ here here_left left
    (rw c.in-Some.is at (c.in_ok-refused.ensures.received modeled))
    (rw c.journal.ensures at c.next-number.ensures.value)
    c.print_refused.ensures.front c.print_refused.ensures.whole c.print_refused.ensures.said_front
    c.print_refused.ensures.said
    (record {
      publisher_left = refl;
      a_left = refl;
      b_left = refl;
      server_left = ap port c.pass_messages.ensures.only.server;
      requests_left = ap port c.pass_messages.ensures.only.requests;
      answered_left = refl;
      arbiter_left = refl;
    })
    c.print_refused.ensures.left

pub returns-in_err-write_end-clause-run : goal.returns-in_err-write_end-clause-run
returns-in_err-write_end-clause-run g c modeled =
    let port = g.D.Datagrams.port in
    let feed = c.args.self.now in
    let peers = feed.options.now.peers in
    loop_unended feed.options.now.reporting feed.options.now.drops peers.a peers.b peers.server feed.options.now.turns c.args.publisher.now
    c.pass_messages.new.publisher c.args.server.now (lines port feed) (rounds port c.args.server.now feed) _
    c.write_end.result c.from_residual-in_err-write_end.result _ _ _ _ _ _ (lines port c.pass_messages.new.self)
    (lines port c.write_end.new.self) (rounds port c.args.server.now c.write_end.new.self)
    (rw c.in_default.is at (c.in_ok-refused.ensures.received modeled))
    (passed_from port (routed_end c.pass_messages.new.publisher.journal None) c.write_end.result c.write_end.new.self
    c.pass_messages.ensures.only.same (c.write_end.ensures.passed modeled))
    c.from_residual-in_err-write_end.ensures.0
    (ap port (c.write_end.ensures.only.server ∙ c.pass_messages.ensures.only.server))
    (ap port (c.write_end.ensures.only.requests ∙ c.pass_messages.ensures.only.requests))

pub returns-in_err-repair_all-clause-run : goal.returns-in_err-repair_all-clause-run
returns-in_err-repair_all-clause-run g c modeled =
    let port = g.D.Datagrams.port in
    let feed = c.args.self.now in
    let peers = feed.options.now.peers in
    let there = lines port c.write_end.new.self in
    let left = rounds port c.repair_all.new.server c.repair_all.new.self in
    loop_unrepaired feed.options.now.reporting feed.options.now.drops peers.a peers.b peers.server feed.options.now.turns c.args.publisher.now
    c.pass_messages.new.publisher c.args.server.now (lines port feed) (rounds port c.args.server.now feed) _
    c.in_ok-write_end.field-0 c.repair_all.result c.from_residual-in_err-repair_all.result _ _ _ _ _ _ _ _
    (lines port c.pass_messages.new.self) there (lines port c.repair_all.new.self) left
    (rw c.in_default.is at (c.in_ok-refused.ensures.received modeled))
    (passed_from port (routed_end c.pass_messages.new.publisher.journal None) _ c.write_end.new.self
    c.pass_messages.ensures.only.same (c.in_ok-write_end.ensures.passed modeled))
    (rests_from peers.server c.args.server.now feed.options.now.turns _ _ _ _ there.progress.arbitration there.progress.outgoing
    (rounds port c.args.server.now feed) c.repair_all.result _ _ _ _ left
    (c.journal-journal.ensures ∙ ap (λ (p : PublisherState). p.journal) c.write_end.ensures.closed)
    (ap port (c.write_end.ensures.only.server ∙ c.pass_messages.ensures.only.server))
    (ap port (c.write_end.ensures.only.requests ∙ c.pass_messages.ensures.only.requests))
    refl
    (rounds_from (service_of c.journal-journal.result.now c.args.server.now)
    (same_twice c.pass_messages.ensures.only.same c.write_end.ensures.only.same)
    (c.repair_all.ensures.rests modeled)))
    c.from_residual-in_err-repair_all.ensures.0 (ap port c.repair_all.ensures.only.publisher)

pub returns-clause-run : goal.returns-clause-run
returns-clause-run g c modeled =
    let port = g.D.Datagrams.port in
    let feed = c.args.self.now in
    let peers = feed.options.now.peers in
    let there = lines port c.write_end.new.self in
    let behind = rounds port c.repair_all.new.server c.repair_all.new.self in
    let after = lines port c.repair_all.new.self in
    let there_left = line_state after.publisher after.a after.b c.print_last.new.listener.arbiter
    c.print_last.new.listener.printer.outgoing in
    let left = repair_state behind.server behind.requests c.repair_all.new.server c.print_last.new.listener.arbiter
    c.print_last.new.listener.printer.outgoing in
    loop_done feed.options.now.reporting feed.options.now.drops peers.a peers.b peers.server feed.options.now.turns c.args.publisher.now
    c.pass_messages.new.publisher c.args.server.now (lines port feed) (rounds port c.args.server.now feed) _
    c.in_ok-write_end.field-0 c.in_ok-repair_all.field-0 c.print_last.result _ _ _ _ _ _ _ _ _ _
    (lines port c.pass_messages.new.self) there there_left behind left
    (rw c.in_default.is at (c.in_ok-refused.ensures.received modeled))
    (passed_from port (routed_end c.pass_messages.new.publisher.journal None) _ c.write_end.new.self
    c.pass_messages.ensures.only.same (c.in_ok-write_end.ensures.passed modeled))
    (rests_from peers.server c.args.server.now feed.options.now.turns _ _ _ _ there.progress.arbitration there.progress.outgoing
    (rounds port c.args.server.now feed) _ _ _ _ _ behind
    (c.journal-journal.ensures ∙ ap (λ (p : PublisherState). p.journal) c.write_end.ensures.closed)
    (ap port (c.write_end.ensures.only.server ∙ c.pass_messages.ensures.only.server))
    (ap port (c.write_end.ensures.only.requests ∙ c.pass_messages.ensures.only.requests))
    refl
    (rounds_from (service_of c.journal-journal.result.now c.args.server.now)
    (same_twice c.pass_messages.ensures.only.same c.write_end.ensures.only.same)
    (c.in_ok-repair_all.ensures.rests modeled)))
    c.print_last.ensures.front c.print_last.ensures.whole c.print_last.ensures.said_front c.print_last.ensures.said
    (record {
      publisher_left = ap port c.repair_all.ensures.only.publisher;
      a_left = ap port c.repair_all.ensures.only.a;
      b_left = ap port c.repair_all.ensures.only.b;
      server_left = refl;
      requests_left = refl;
      answered_left = refl;
      arbiter_left = c.print_last.ensures.arbiter;
    })
    c.print_last.ensures.left

pub returns-in-Some-clause-journal : goal.returns-in-Some-clause-journal
returns-in-Some-clause-journal g c modeled =
    let feed = c.args.self.now in
    on_ok c.print_refused.result
    (journal_left feed.options.now.drops feed.options.now.peers.a feed.options.now.peers.b c.args.publisher.now c.pass_messages.new.publisher _
    (Some c.in-Some.refusal) _ _ _ _ _ _ _ (rw c.in-Some.is at (c.in_ok-refused.ensures.received modeled)) refl)

pub returns-clause-journal : goal.returns-clause-journal
returns-clause-journal g c modeled =
    let feed = c.args.self.now in
    on_ok c.print_last.result
    (journal_left feed.options.now.drops feed.options.now.peers.a feed.options.now.peers.b c.args.publisher.now c.pass_messages.new.publisher _
    None _ _ _ _ _ _ _ (rw c.in_default.is at (c.in_ok-refused.ensures.received modeled))
    (ap (λ (p : PublisherState). p.journal) c.write_end.ensures.closed))

pub returns-in-Some-clause-limit : goal.returns-in-Some-clause-limit
returns-in-Some-clause-limit g c = on_ok c.print_refused.result c.in_ok-refused.ensures.limit

pub returns-clause-limit : goal.returns-clause-limit
returns-clause-limit g c =
    on_ok c.print_last.result
    (ap (λ (p : PublisherState). p.limit) c.write_end.ensures.closed ∙ c.in_ok-refused.ensures.limit)

pub returns-in_err-write_end-clause-a : goal.returns-in_err-write_end-clause-a
returns-in_err-write_end-clause-a g c modeled = c.write_end.ensures.only.a modeled ∙ c.pass_messages.ensures.only.a modeled

pub returns-in_err-repair_all-clause-a : goal.returns-in_err-repair_all-clause-a
returns-in_err-repair_all-clause-a g c modeled =
    ap (λ (p : Port _). p.sent) (ap g.D.Datagrams.port c.repair_all.ensures.only.a)
    ∙ c.write_end.ensures.only.a modeled
    ∙ c.pass_messages.ensures.only.a modeled

pub returns-clause-a : goal.returns-clause-a
returns-clause-a g c modeled =
    ap (λ (p : Port _). p.sent) (ap g.D.Datagrams.port c.repair_all.ensures.only.a)
    ∙ c.write_end.ensures.only.a modeled
    ∙ c.pass_messages.ensures.only.a modeled

pub returns-in_err-write_end-clause-b : goal.returns-in_err-write_end-clause-b
returns-in_err-write_end-clause-b g c modeled = c.write_end.ensures.only.b modeled ∙ c.pass_messages.ensures.only.b modeled

pub returns-in_err-repair_all-clause-b : goal.returns-in_err-repair_all-clause-b
returns-in_err-repair_all-clause-b g c modeled =
    ap (λ (p : Port _). p.sent) (ap g.D.Datagrams.port c.repair_all.ensures.only.b)
    ∙ c.write_end.ensures.only.b modeled
    ∙ c.pass_messages.ensures.only.b modeled

pub returns-clause-b : goal.returns-clause-b
returns-clause-b g c modeled =
    ap (λ (p : Port _). p.sent) (ap g.D.Datagrams.port c.repair_all.ensures.only.b)
    ∙ c.write_end.ensures.only.b modeled
    ∙ c.pass_messages.ensures.only.b modeled

pub returns-in_err-refused-clause-same : goal.returns-in_err-refused-clause-same
returns-in_err-refused-clause-same g c = c.pass_messages.ensures.only.same

pub returns-in-Some-clause-same : goal.returns-in-Some-clause-same
returns-in-Some-clause-same g c =
    let same = c.pass_messages.ensures.only.same in
    record {
      ports = same.ports;
      options = same.options;
      buffer = same.buffer;
      listener = same.listener;
    }

pub returns-in_err-write_end-clause-same : goal.returns-in_err-write_end-clause-same
returns-in_err-write_end-clause-same g c = same_twice c.pass_messages.ensures.only.same c.write_end.ensures.only.same

pub returns-in_err-repair_all-clause-same : goal.returns-in_err-repair_all-clause-same
returns-in_err-repair_all-clause-same g c =
    same_twice (same_twice c.pass_messages.ensures.only.same c.write_end.ensures.only.same) c.repair_all.ensures.only.same

pub returns-clause-same : goal.returns-clause-same
returns-clause-same g c =
    let same = same_twice (same_twice c.pass_messages.ensures.only.same c.write_end.ensures.only.same)
    c.repair_all.ensures.only.same in
    record {
      ports = same.ports;
      options = same.options;
      buffer = same.buffer;
      listener = same.listener;
    }

-- ---- the unwritten text between the steps

pub repair_all-requires-clause-bounded : goal.repair_all-requires-clause-bounded
repair_all-requires-clause-bounded g c =
    subst (λ (live : Bool). IsBounded live c.write_end.new.self.listener.now.printer.outgoing.text)
    (sym c.in_ok-write_end.ensures.live) c.in_ok-write_end.ensures.bounded

pub print_last-requires : goal.print_last-requires
print_last-requires g c =
    subst (λ (live : Bool). IsBounded live c.repair_all.new.self.listener.now.printer.outgoing.text)
    (sym c.in_ok-repair_all.ensures.live) c.in_ok-repair_all.ensures.bounded

-- ---- the counts of failures

pub returns-in_err-write_end-clause-failures : goal.returns-in_err-write_end-clause-failures
returns-in_err-write_end-clause-failures g c =
    let result = c.from_residual-in_err-write_end.result in
    let none = none_failed c.in_ok-refused.ensures.failures in
    counts_after result _ _ _ _ _ _ _ _ none.source none.sink none.errors
    (two_same result c.in_err-write_end.field-0.0 _ _ _ _ _ _ c.from_residual-in_err-write_end.ensures.1 refl refl
    c.in_err-write_end.ensures.sinks)

pub returns-in_err-repair_all-clause-failures : goal.returns-in_err-repair_all-clause-failures
returns-in_err-repair_all-clause-failures g c =
    let result = c.from_residual-in_err-repair_all.result in
    let none = none_failed c.in_ok-refused.ensures.failures in
    let ended = c.in_ok-write_end.ensures.sinks in
    counts_after result _ _ _ _ _ _ _ _ none.source (ended.0 ∙ none.sink) (ended.1 ∙ none.errors)
    (two_same result c.in_err-repair_all.field-0.0 _ _ _ _ _ _ c.from_residual-in_err-repair_all.ensures.1 refl refl
    c.in_err-repair_all.ensures.sinks)

pub returns-clause-failures : goal.returns-clause-failures
returns-clause-failures g c =
    let none = none_failed c.in_ok-refused.ensures.failures in
    let ended = c.in_ok-write_end.ensures.sinks in
    let repaired = c.in_ok-repair_all.ensures.sinks in
    counts_after c.print_last.result _ _ _ _ _ _ _ _ none.source (repaired.0 ∙ ended.0 ∙ none.sink)
    (repaired.1 ∙ ended.1 ∙ none.errors) c.print_last.ensures.sinks

-- ---- messages as lines

pub returns-in_err-write_end-clause-quiet : goal.returns-in_err-write_end-clause-quiet
returns-in_err-write_end-clause-quiet g c = λ plain.
    let result = c.from_residual-in_err-write_end.result in
    let before = c.in_ok-refused.ensures.quiet plain in
    let quiet = c.in_err-write_end.ensures.quiet (c.in_ok-refused.ensures.plain plain) in (
      quiet.0 ∙ before.0,
      counts_behind result _ _ _ _ _ before.1.0 before.1.1
          (counts_same result c.in_err-write_end.field-0.0 _ _ c.from_residual-in_err-write_end.ensures.1 quiet.1),
    )

pub returns-in_err-repair_all-clause-quiet : goal.returns-in_err-repair_all-clause-quiet
returns-in_err-repair_all-clause-quiet g c = λ plain.
    let result = c.from_residual-in_err-repair_all.result in
    let before = c.in_ok-refused.ensures.quiet plain in
    let passed = c.in_ok-refused.ensures.plain plain in
    let ended = c.in_ok-write_end.ensures.quiet passed in
    let quiet = c.in_err-repair_all.ensures.quiet (c.in_ok-write_end.ensures.plain passed) in (
      quiet.0 ∙ ended.0 ∙ before.0,
      counts_behind result _ _ _ _ _ before.1.0 (ended.1 ∙ before.1.1)
          (counts_same result c.in_err-repair_all.field-0.0 _ _ c.from_residual-in_err-repair_all.ensures.1 quiet.1),
    )

pub returns-clause-quiet : goal.returns-clause-quiet
returns-clause-quiet g c = λ plain.
    let before = c.in_ok-refused.ensures.quiet plain in
    let passed = c.in_ok-refused.ensures.plain plain in
    let ended = c.in_ok-write_end.ensures.quiet passed in
    let closed = c.in_ok-write_end.ensures.plain passed in
    let repaired = c.in_ok-repair_all.ensures.quiet closed in
    let quiet = c.print_last.ensures.quiet (c.in_ok-repair_all.ensures.plain closed) in (
      quiet.0 ∙ repaired.0 ∙ ended.0 ∙ before.0,
      counts_behind c.print_last.result _ _ _ _ _ before.1.0 (repaired.1 ∙ ended.1 ∙ before.1.1) quiet.1,
    )
