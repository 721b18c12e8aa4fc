use Rattle.std.proofs.Common.{◌∙◌, ◌+◌, Bool, ℕ, Err, List, Option, Result, ap, arith, inl, refl, subst, sym}
use Rattle.std.proofs.lemmas.List.{take_all}
use Rattle.mold_devices.specs.Devices.{AppendsPrefix}
use Rattle.mold_devices.specs.Faults.{CountsFault, CountsReadFault, from_read_fault}
use Rattle.mold_devices.specs.declared.fault.ReadFault.{ReadFault}
use Rattle.mold_devices.specs.declared.fault.ReadFault.TheVariants.{Memory, Read}
use Rattle.mold_devices.proofs.WritingLemmas.{ends_command, ends_front}
use Rattle.mold_devices.specs.declared.fault.CommandFault.{CommandFault}
use Rattle.mold_publish.specs.declared.message_refusal.MessageRefusal.{MessageRefusal}
use Rattle.mold_publish.proofs.DatagramLemmas.{PackingLaws, all_sent}
use Rattle.mold_session.specs.Publisher.{PublisherState, next_datagram}
use Rattle.mold_turns.proofs.FaultLemmas.{counts_behind, counts_memory, counts_same, two_memory, two_same}
use Rattle.mold_loop.proofs.WritingLemmas.{counts_after}
use Rattle.mold_turns.specs.Outgoing.{IsBounded}
use Rattle.mold_loop.specs.LocalFeed.{lines}
use Rattle.mold_send.specs.PublishLoop.{spelled_some}
use Rattle.mold_loop.proofs.HearsLemmas.{hears_before, hears_end, hears_full, hears_last, hears_last_before, hears_none, hears_refused, hears_unwritten}
use Rattle.mold_loop.proofs.HearsLemmas.{so_far_begun, so_far_full}
use Rattle.mold_loop.proofs.LocalFeedLemmas.{next_passed, passes_at_first, passes_twice}
use Rattle.mold_send.proofs.SendingLemmas.{full_went}
use Rattle.mold_loop.proofs.local_feed.LocalFeed.pass_messages.Given.{Over}
use Rattle.mold_loop.proofs.local_feed.LocalFeed.pass_messages.Goals as goal
use Rattle.mold_loop.proofs.local_feed.LocalFeed.pass_messages.Goals.{After-packing_law}

laws : (g : Over) → After-packing_law g → PackingLaws
laws g c = record {
  is_front = c.front_law.ensures.front;
  only = c.front_law.ensures.only;
  stops = c.front_law.ensures.stops;
  some = c.front_law.ensures.some;
  whole = c.front_law.ensures.whole;
  none = c.packing_law.ensures.none;
  first = c.packing_law.ensures.first;
}

pub passing-init : goal.passing-init
passing-init g c = record {
  room = c.requires.room;
  few = omega arith;
  received = λ modeled.
      let feed = c.args.self.now in
      so_far_begun g.M.MessageReader.input_kind g.M.MessageReader.entries feed.options.now.drops feed.options.now.peers.a feed.options.now.peers.b c.args.publisher.now
      (g.S.Source.left c.args.source.now) _ _ _ _ c.in_ok-messages.ensures;
  only = passes_at_first g.D.Datagrams.modeled g.D.Datagrams.port c.args.self.now;
  limit = refl;
  bounded = λ bounded. bounded;
  live = refl;
  source = refl;
  sink = refl;
  errors = refl;
  plain = λ plain. plain;
  quiet = λ plain. refl;
}

pub passing-preserved : goal.passing-preserved
passing-preserved g c =
    let port = g.D.Datagrams.port in
    let feed = c.args.self.now in
    let filled = rw c.in-Ok-Full.field-0-is at c.in-Ok-Full.ensures.filled in
    let known = laws g (goal.at.passing-preserved g c).After-packing_law in
    let went = full_went known c.passing.publisher c.fill.new.publisher c.write_next.new.publisher c.passing.number _
    filled.room filled.sent c.passing.invariant.few c.write_next.ensures.sent c.write_next.ensures.counted in
    record {
      room = went.0;
      few = went.1;
      received = λ modeled.
          so_far_full known feed.options.now.drops feed.options.now.peers.a feed.options.now.peers.b c.args.publisher.now
          c.passing.publisher c.fill.new.publisher c.write_next.new.publisher _ _ _ _ _
          (lines port c.write_next.new.self) _ _ _ _ _ _
          c.passing.number c.write_next.new.number c.in_ok-write_next-in-Ok-Full.field-0
          (c.passing.invariant.received modeled) filled c.write_next.ensures.sent
          (next_passed port (c.passing.number + 1) (spelled_some (next_datagram c.fill.new.publisher)) _
          c.write_next.new.self c.passing.invariant.only.same (c.in_ok-write_next-in-Ok-Full.ensures.passed modeled))
          c.write_next.ensures.counted;
      only = passes_twice c.passing.invariant.only c.write_next.ensures.only;
      limit = ap (λ (p : PublisherState). p.limit) c.write_next.ensures.sent ∙ filled.limit ∙ c.passing.invariant.limit;
      bounded = λ bounded.
          subst (λ (live : Bool). IsBounded live c.write_next.new.self.listener.now.printer.outgoing.text)
          c.passing.invariant.live c.in_ok-write_next-in-Ok-Full.ensures.bounded;
      live = c.in_ok-write_next-in-Ok-Full.ensures.live ∙ c.passing.invariant.live;
      source = c.in-Ok-Full.ensures.failures ∙ c.passing.invariant.source;
      sink = c.in_ok-write_next-in-Ok-Full.ensures.sinks.0 ∙ c.passing.invariant.sink;
      errors = c.in_ok-write_next-in-Ok-Full.ensures.sinks.1 ∙ c.passing.invariant.errors;
      plain = λ plain. c.in_ok-write_next-in-Ok-Full.ensures.plain (c.passing.invariant.plain plain);
      quiet = λ plain.
          (c.in_ok-write_next-in-Ok-Full.ensures.quiet (c.passing.invariant.plain plain)).0
          ∙ c.passing.invariant.quiet plain;
    }

pub returns-in-Ok-End-clause-all : goal.returns-in-Ok-End-clause-all
returns-in-Ok-End-clause-all g c none =
    let filled = rw c.in-Ok-End.field-0-is at c.in-Ok-End.ensures.filled in
    rw c.write_next-in-Ok-End.ensures.sent
    (all_sent (laws g (goal.at.returns-in-Ok-End-clause-all g c).After-packing_law) c.fill.new.publisher filled.room)

pub returns-in_err-messages-clause-received : goal.returns-in_err-messages-clause-received
returns-in_err-messages-clause-received g c modeled =
    let feed = c.args.self.now in
    hears_none feed.options.now.drops feed.options.now.peers.a feed.options.now.peers.b c.args.publisher.now c.args.publisher.now _
    c.from_residual.result _ _ _ c.from_residual.ensures.0

pub returns-in-Err-clause-received : goal.returns-in-Err-clause-received
returns-in-Err-clause-received g c modeled =
    let feed = c.args.self.now in
    let here = lines g.D.Datagrams.port c.passing.self in
    let result : Result (Option MessageRefusal) CommandFault = Err c.end_with.result in
    hears_unwritten feed.options.now.drops feed.options.now.peers.a feed.options.now.peers.b c.args.publisher.now
    c.passing.publisher c.fill.new.publisher _ _ result _ here _ _ _ _ _ _ c.passing.number
    (c.passing.invariant.received modeled) refl
    (subst (λ (text : List ℕ). AppendsPrefix (g.K.Sink.held c.passing.sink) (g.K.Sink.held c.end_with.new.sink) text)
    (take_all c.unwritten-len.result here.progress.outgoing.text (omega (arith, c.unwritten-len.ensures)))
    (ends_front c.end_with.ensures.ends))
    refl

-- reading failed, and the sink did not
read_counts : (fault : ReadFault) (old new sink : ℕ) → CountsReadFault old new fault →
    CountsFault old new sink sink (from_read_fault fault)
read_counts Read old new sink counts = (counts, refl)
read_counts Memory old new sink counts = (counts, refl)

pub returns-in-Err-clause-failures : goal.returns-in-Err-clause-failures
returns-in-Err-clause-failures g c =
    let source_old = g.S.Source.failed c.args.source.now in
    let source_new = g.S.Source.failed c.fill.new.source in
    let sink = g.K.Sink.failed c.passing.sink in
    let met = subst (λ (fault : CommandFault). CountsFault source_old source_new sink sink fault) (sym c.from-met.ensures)
    (read_counts c.in-Err.fault source_old source_new sink
    (subst (λ (n : ℕ). CountsReadFault n source_new c.in-Err.fault) c.passing.invariant.source
    c.in-Err.ensures.failures)) in
    inl (
      subst (λ (n : ℕ). CountsFault source_old source_new n (g.K.Sink.failed c.end_with.new.sink) c.end_with.result)
          c.passing.invariant.sink (ends_command source_old source_new met c.end_with.ensures.ends),
      c.passing.invariant.errors,
    )

pub returns-in-Err-clause-quiet : goal.returns-in-Err-clause-quiet
returns-in-Err-clause-quiet g c = λ plain.
    let source_old = g.S.Source.failed c.args.source.now in
    let source_new = g.S.Source.failed c.fill.new.source in
    let sink = g.K.Sink.failed c.passing.sink in
    let met = subst (λ (fault : CommandFault). CountsFault source_old source_new sink sink fault) (sym c.from-met.ensures)
    (read_counts c.in-Err.fault source_old source_new sink
    (subst (λ (n : ℕ). CountsReadFault n source_new c.in-Err.fault) c.passing.invariant.source
    c.in-Err.ensures.failures)) in (
      c.passing.invariant.quiet plain,
      subst (λ (n : ℕ). CountsFault source_old source_new n (g.K.Sink.failed c.end_with.new.sink) c.end_with.result)
          c.passing.invariant.sink (ends_command source_old source_new met c.end_with.ensures.ends),
    )

pub returns-in_err-messages-clause-failures : goal.returns-in_err-messages-clause-failures
returns-in_err-messages-clause-failures g c =
    let result = c.from_residual.result in
    counts_after result _ _ _ _ _ _ _ _ refl refl refl (two_memory result _ _ _ _ c.from_residual.ensures.1 refl refl)

pub returns-in_err-messages-clause-quiet : goal.returns-in_err-messages-clause-quiet
returns-in_err-messages-clause-quiet g c = λ plain.
    let result = c.from_residual.result in
    (refl, counts_behind result _ _ _ _ _ refl refl (counts_memory result _ _ c.from_residual.ensures.1 refl))

pub returns-in-Ok-End-clause-failures : goal.returns-in-Ok-End-clause-failures
returns-in-Ok-End-clause-failures g c =
    let counted = c.in_ok-write_next-in-Ok-End.ensures.sinks in
    inl (
      (c.in-Ok-End.ensures.failures ∙ c.passing.invariant.source, counted.0 ∙ c.passing.invariant.sink),
      counted.1 ∙ c.passing.invariant.errors,
    )

pub returns-in-Ok-End-clause-quiet : goal.returns-in-Ok-End-clause-quiet
returns-in-Ok-End-clause-quiet g c = λ plain.
    let quiet = c.in_ok-write_next-in-Ok-End.ensures.quiet (c.passing.invariant.plain plain) in (
      quiet.0 ∙ c.passing.invariant.quiet plain,
      (c.in-Ok-End.ensures.failures ∙ c.passing.invariant.source, quiet.1 ∙ c.passing.invariant.sink),
    )

pub returns-in-Ok-End-clause-plain : goal.returns-in-Ok-End-clause-plain
returns-in-Ok-End-clause-plain g c = λ plain.
    c.in_ok-write_next-in-Ok-End.ensures.plain (c.passing.invariant.plain plain)

pub returns-in-Lines-clause-failures : goal.returns-in-Lines-clause-failures
returns-in-Lines-clause-failures g c =
    inl (
      (c.in-Ok-Refused.ensures.failures ∙ c.passing.invariant.source, c.passing.invariant.sink),
      c.passing.invariant.errors,
    )

pub returns-in-Lines-clause-quiet : goal.returns-in-Lines-clause-quiet
returns-in-Lines-clause-quiet g c = λ plain. (
  c.passing.invariant.quiet plain,
  (c.in-Ok-Refused.ensures.failures ∙ c.passing.invariant.source, c.passing.invariant.sink),
)

pub returns-in-Lines-clause-plain : goal.returns-in-Lines-clause-plain
returns-in-Lines-clause-plain g c = c.passing.invariant.plain

pub returns-in-Blocks-clause-failures : goal.returns-in-Blocks-clause-failures
returns-in-Blocks-clause-failures g c =
    let counted = c.in_ok-write_next-in-Blocks.ensures.sinks in
    inl (
      (c.in-Ok-Refused.ensures.failures ∙ c.passing.invariant.source, counted.0 ∙ c.passing.invariant.sink),
      counted.1 ∙ c.passing.invariant.errors,
    )

pub returns-in-Blocks-clause-quiet : goal.returns-in-Blocks-clause-quiet
returns-in-Blocks-clause-quiet g c = λ plain.
    let quiet = c.in_ok-write_next-in-Blocks.ensures.quiet (c.passing.invariant.plain plain) in (
      quiet.0 ∙ c.passing.invariant.quiet plain,
      (c.in-Ok-Refused.ensures.failures ∙ c.passing.invariant.source, quiet.1 ∙ c.passing.invariant.sink),
    )

pub returns-in-Blocks-clause-plain : goal.returns-in-Blocks-clause-plain
returns-in-Blocks-clause-plain g c = λ plain.
    c.in_ok-write_next-in-Blocks.ensures.plain (c.passing.invariant.plain plain)

pub returns-in_err-write_next-in-Ok-Full-clause-received : goal.returns-in_err-write_next-in-Ok-Full-clause-received
returns-in_err-write_next-in-Ok-Full-clause-received g c modeled =
    let feed = c.args.self.now in
    hears_full (laws g (goal.at.returns-in_err-write_next-in-Ok-Full-clause-received g c).After-packing_law)
    feed.options.now.drops feed.options.now.peers.a feed.options.now.peers.b c.args.publisher.now c.passing.publisher
    c.fill.new.publisher c.write_next.new.publisher _ _ _ _ _ _ _ _ _ _ _ _ c.passing.number c.write_next.result
    c.from_residual-in_err-write_next-in-Ok-Full.result (c.passing.invariant.received modeled)
    (rw c.in-Ok-Full.field-0-is at c.in-Ok-Full.ensures.filled)
    (next_passed g.D.Datagrams.port (c.passing.number + 1) (spelled_some (next_datagram c.fill.new.publisher)) _
    c.write_next.new.self c.passing.invariant.only.same (c.write_next.ensures.passed modeled))
    c.from_residual-in_err-write_next-in-Ok-Full.ensures.0

pub returns-in_err-write_next-in-Ok-Full-clause-failures : goal.returns-in_err-write_next-in-Ok-Full-clause-failures
returns-in_err-write_next-in-Ok-Full-clause-failures g c =
    let result = c.from_residual-in_err-write_next-in-Ok-Full.result in
    counts_after result _ _ _ (g.K.Sink.failed c.passing.sink) _ _ (g.E.Sink.failed c.passing.errors) _
    (c.in-Ok-Full.ensures.failures ∙ c.passing.invariant.source) c.passing.invariant.sink c.passing.invariant.errors
    (two_same result c.in_err-write_next-in-Ok-Full.field-0.0 _ _ _ _ _ _
    c.from_residual-in_err-write_next-in-Ok-Full.ensures.1 refl refl
    c.in_err-write_next-in-Ok-Full.ensures.sinks)

pub returns-in_err-write_next-in-Ok-Full-clause-quiet : goal.returns-in_err-write_next-in-Ok-Full-clause-quiet
returns-in_err-write_next-in-Ok-Full-clause-quiet g c = λ plain.
    let result = c.from_residual-in_err-write_next-in-Ok-Full.result in
    let quiet = c.in_err-write_next-in-Ok-Full.ensures.quiet (c.passing.invariant.plain plain) in (
      quiet.0 ∙ c.passing.invariant.quiet plain,
      counts_behind result _ _ _ (g.K.Sink.failed c.passing.sink) _
          (c.in-Ok-Full.ensures.failures ∙ c.passing.invariant.source) c.passing.invariant.sink
          (counts_same result c.in_err-write_next-in-Ok-Full.field-0.0 _ _
          c.from_residual-in_err-write_next-in-Ok-Full.ensures.1 quiet.1),
    )

pub returns-in_err-write_next-in-Ok-Full-clause-live : goal.returns-in_err-write_next-in-Ok-Full-clause-live
returns-in_err-write_next-in-Ok-Full-clause-live g c = c.write_next.ensures.live ∙ c.passing.invariant.live

pub returns-in_err-write_next-in-Ok-End-clause-received : goal.returns-in_err-write_next-in-Ok-End-clause-received
returns-in_err-write_next-in-Ok-End-clause-received g c modeled =
    let feed = c.args.self.now in
    hears_last (laws g (goal.at.returns-in_err-write_next-in-Ok-End-clause-received g c).After-packing_law)
    feed.options.now.drops feed.options.now.peers.a feed.options.now.peers.b c.args.publisher.now c.passing.publisher
    c.fill.new.publisher c.write_next-in-Ok-End.new.publisher _ _ _ _ _ _ _ _ _ _ _ _ c.passing.number
    c.write_next-in-Ok-End.result c.from_residual-in_err-write_next-in-Ok-End.result
    (c.passing.invariant.received modeled) (rw c.in-Ok-End.field-0-is at c.in-Ok-End.ensures.filled)
    (next_passed g.D.Datagrams.port (c.passing.number + 1) (spelled_some (next_datagram c.fill.new.publisher)) _
    c.write_next-in-Ok-End.new.self c.passing.invariant.only.same (c.write_next-in-Ok-End.ensures.passed modeled))
    c.from_residual-in_err-write_next-in-Ok-End.ensures.0

pub returns-in_err-write_next-in-Ok-End-clause-failures : goal.returns-in_err-write_next-in-Ok-End-clause-failures
returns-in_err-write_next-in-Ok-End-clause-failures g c =
    let result = c.from_residual-in_err-write_next-in-Ok-End.result in
    counts_after result _ _ _ (g.K.Sink.failed c.passing.sink) _ _ (g.E.Sink.failed c.passing.errors) _
    (c.in-Ok-End.ensures.failures ∙ c.passing.invariant.source) c.passing.invariant.sink c.passing.invariant.errors
    (two_same result c.in_err-write_next-in-Ok-End.field-0.0 _ _ _ _ _ _
    c.from_residual-in_err-write_next-in-Ok-End.ensures.1 refl refl
    c.in_err-write_next-in-Ok-End.ensures.sinks)

pub returns-in_err-write_next-in-Ok-End-clause-quiet : goal.returns-in_err-write_next-in-Ok-End-clause-quiet
returns-in_err-write_next-in-Ok-End-clause-quiet g c = λ plain.
    let result = c.from_residual-in_err-write_next-in-Ok-End.result in
    let quiet = c.in_err-write_next-in-Ok-End.ensures.quiet (c.passing.invariant.plain plain) in (
      quiet.0 ∙ c.passing.invariant.quiet plain,
      counts_behind result _ _ _ (g.K.Sink.failed c.passing.sink) _
          (c.in-Ok-End.ensures.failures ∙ c.passing.invariant.source) c.passing.invariant.sink
          (counts_same result c.in_err-write_next-in-Ok-End.field-0.0 _ _
          c.from_residual-in_err-write_next-in-Ok-End.ensures.1 quiet.1),
    )

pub returns-in_err-write_next-in-Ok-End-clause-live : goal.returns-in_err-write_next-in-Ok-End-clause-live
returns-in_err-write_next-in-Ok-End-clause-live g c = c.write_next-in-Ok-End.ensures.live ∙ c.passing.invariant.live

pub returns-in-Ok-End-clause-received : goal.returns-in-Ok-End-clause-received
returns-in-Ok-End-clause-received g c modeled =
    let feed = c.args.self.now in
    hears_end (laws g (goal.at.returns-in-Ok-End-clause-received g c).After-packing_law) feed.options.now.drops
    feed.options.now.peers.a feed.options.now.peers.b c.args.publisher.now c.passing.publisher c.fill.new.publisher
    c.write_next-in-Ok-End.new.publisher _ _ _ _ _ (lines g.D.Datagrams.port c.write_next-in-Ok-End.new.self) _ _ _ _ _
    _
    c.passing.number c.in_ok-write_next-in-Ok-End.field-0
    (c.passing.invariant.received modeled) (rw c.in-Ok-End.field-0-is at c.in-Ok-End.ensures.filled)
    (next_passed g.D.Datagrams.port (c.passing.number + 1) (spelled_some (next_datagram c.fill.new.publisher)) _
    c.write_next-in-Ok-End.new.self c.passing.invariant.only.same (c.in_ok-write_next-in-Ok-End.ensures.passed modeled))
    c.write_next-in-Ok-End.ensures.sent

pub returns-in-Lines-clause-received : goal.returns-in-Lines-clause-received
returns-in-Lines-clause-received g c modeled =
    let feed = c.args.self.now in
    hears_refused (laws g (goal.at.returns-in-Lines-clause-received g c).After-packing_law) feed.options.now.drops
    feed.options.now.peers.a feed.options.now.peers.b c.args.publisher.now c.passing.publisher c.fill.new.publisher _ _ _
    c.in-Ok-Refused.refusal _ _ _ _ _ _ c.passing.number (c.passing.invariant.received modeled)
    (rw c.in-Ok-Refused.field-0-is at c.in-Ok-Refused.ensures.filled) c.in-Lines.is

pub returns-in-Err-clause-only : goal.returns-in-Err-clause-only
returns-in-Err-clause-only g c =
    let only = c.passing.invariant.only in
    record {
      same = record {
        ports = only.same.ports;
        options = only.same.options;
        buffer = only.same.buffer;
        listener = only.same.listener;
      };
      server = only.server;
      requests = only.requests;
      a = only.a;
      b = only.b;
    }

pub returns-in-Lines-clause-only : goal.returns-in-Lines-clause-only
returns-in-Lines-clause-only g c = c.passing.invariant.only

pub returns-in_err-write_next-in-Ok-Full-clause-only : goal.returns-in_err-write_next-in-Ok-Full-clause-only
returns-in_err-write_next-in-Ok-Full-clause-only g c = passes_twice c.passing.invariant.only c.write_next.ensures.only

pub returns-in_err-write_next-in-Ok-End-clause-only : goal.returns-in_err-write_next-in-Ok-End-clause-only
returns-in_err-write_next-in-Ok-End-clause-only g c = passes_twice c.passing.invariant.only c.write_next-in-Ok-End.ensures.only

pub returns-in-Ok-End-clause-only : goal.returns-in-Ok-End-clause-only
returns-in-Ok-End-clause-only g c = passes_twice c.passing.invariant.only c.write_next-in-Ok-End.ensures.only

pub returns-in-Lines-clause-bounded : goal.returns-in-Lines-clause-bounded
returns-in-Lines-clause-bounded g c = c.passing.invariant.bounded

pub returns-in-Ok-End-clause-bounded : goal.returns-in-Ok-End-clause-bounded
returns-in-Ok-End-clause-bounded g c = λ bounded.
    subst (λ (live : Bool). IsBounded live c.write_next-in-Ok-End.new.self.listener.now.printer.outgoing.text)
    c.passing.invariant.live c.in_ok-write_next-in-Ok-End.ensures.bounded

pub returns-in-Lines-clause-live : goal.returns-in-Lines-clause-live
returns-in-Lines-clause-live g c = c.passing.invariant.live

pub returns-in-Ok-End-clause-live : goal.returns-in-Ok-End-clause-live
returns-in-Ok-End-clause-live g c = c.in_ok-write_next-in-Ok-End.ensures.live ∙ c.passing.invariant.live

pub returns-in_err-write_next-in-Blocks-clause-received : goal.returns-in_err-write_next-in-Blocks-clause-received
returns-in_err-write_next-in-Blocks-clause-received g c modeled =
    let feed = c.args.self.now in
    hears_last_before (laws g (goal.at.returns-in_err-write_next-in-Blocks-clause-received g c).After-packing_law)
    feed.options.now.drops feed.options.now.peers.a feed.options.now.peers.b c.args.publisher.now c.passing.publisher
    c.fill.new.publisher c.write_next-in-Blocks.new.publisher _ _ _ c.in-Ok-Refused.refusal _ _ _ _ _ _ _ _ _
    c.passing.number
    c.write_next-in-Blocks.result c.from_residual-in_err-write_next-in-Blocks.result
    (c.passing.invariant.received modeled) (rw c.in-Ok-Refused.field-0-is at c.in-Ok-Refused.ensures.filled) c.in-Blocks.is
    (next_passed g.D.Datagrams.port (c.passing.number + 1) (spelled_some (next_datagram c.fill.new.publisher)) _
    c.write_next-in-Blocks.new.self c.passing.invariant.only.same (c.write_next-in-Blocks.ensures.passed modeled))
    c.from_residual-in_err-write_next-in-Blocks.ensures.0

pub returns-in_err-write_next-in-Blocks-clause-failures : goal.returns-in_err-write_next-in-Blocks-clause-failures
returns-in_err-write_next-in-Blocks-clause-failures g c =
    let result = c.from_residual-in_err-write_next-in-Blocks.result in
    counts_after result _ _ _ (g.K.Sink.failed c.passing.sink) _ _ (g.E.Sink.failed c.passing.errors) _
    (c.in-Ok-Refused.ensures.failures ∙ c.passing.invariant.source) c.passing.invariant.sink c.passing.invariant.errors
    (two_same result c.in_err-write_next-in-Blocks.field-0.0 _ _ _ _ _ _
    c.from_residual-in_err-write_next-in-Blocks.ensures.1 refl refl
    c.in_err-write_next-in-Blocks.ensures.sinks)

pub returns-in_err-write_next-in-Blocks-clause-quiet : goal.returns-in_err-write_next-in-Blocks-clause-quiet
returns-in_err-write_next-in-Blocks-clause-quiet g c = λ plain.
    let result = c.from_residual-in_err-write_next-in-Blocks.result in
    let quiet = c.in_err-write_next-in-Blocks.ensures.quiet (c.passing.invariant.plain plain) in (
      quiet.0 ∙ c.passing.invariant.quiet plain,
      counts_behind result _ _ _ (g.K.Sink.failed c.passing.sink) _
          (c.in-Ok-Refused.ensures.failures ∙ c.passing.invariant.source) c.passing.invariant.sink
          (counts_same result c.in_err-write_next-in-Blocks.field-0.0 _ _
          c.from_residual-in_err-write_next-in-Blocks.ensures.1 quiet.1),
    )

pub returns-in_err-write_next-in-Blocks-clause-live : goal.returns-in_err-write_next-in-Blocks-clause-live
returns-in_err-write_next-in-Blocks-clause-live g c = c.write_next-in-Blocks.ensures.live ∙ c.passing.invariant.live

pub returns-in_err-write_next-in-Blocks-clause-only : goal.returns-in_err-write_next-in-Blocks-clause-only
returns-in_err-write_next-in-Blocks-clause-only g c = passes_twice c.passing.invariant.only c.write_next-in-Blocks.ensures.only

pub returns-in-Blocks-clause-received : goal.returns-in-Blocks-clause-received
returns-in-Blocks-clause-received g c modeled =
    let feed = c.args.self.now in
    hears_before (laws g (goal.at.returns-in-Blocks-clause-received g c).After-packing_law) feed.options.now.drops
    feed.options.now.peers.a feed.options.now.peers.b c.args.publisher.now c.passing.publisher c.fill.new.publisher
    c.write_next-in-Blocks.new.publisher _ _ _ c.in-Ok-Refused.refusal _ _
    (lines g.D.Datagrams.port c.write_next-in-Blocks.new.self) _ _ _ _ _ _
    c.passing.number c.in_ok-write_next-in-Blocks.field-0
    (c.passing.invariant.received modeled) (rw c.in-Ok-Refused.field-0-is at c.in-Ok-Refused.ensures.filled) c.in-Blocks.is
    (next_passed g.D.Datagrams.port (c.passing.number + 1) (spelled_some (next_datagram c.fill.new.publisher)) _
    c.write_next-in-Blocks.new.self c.passing.invariant.only.same (c.in_ok-write_next-in-Blocks.ensures.passed modeled))
    c.write_next-in-Blocks.ensures.sent

pub returns-in-Blocks-clause-only : goal.returns-in-Blocks-clause-only
returns-in-Blocks-clause-only g c = passes_twice c.passing.invariant.only c.write_next-in-Blocks.ensures.only

pub returns-in-Blocks-clause-bounded : goal.returns-in-Blocks-clause-bounded
returns-in-Blocks-clause-bounded g c = λ bounded.
    subst (λ (live : Bool). IsBounded live c.write_next-in-Blocks.new.self.listener.now.printer.outgoing.text)
    c.passing.invariant.live c.in_ok-write_next-in-Blocks.ensures.bounded

pub returns-in-Blocks-clause-live : goal.returns-in-Blocks-clause-live
returns-in-Blocks-clause-live g c = c.in_ok-write_next-in-Blocks.ensures.live ∙ c.passing.invariant.live
