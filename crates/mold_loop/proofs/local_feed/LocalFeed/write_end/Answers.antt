use Rattle.std.proofs.Common.{◌∙◌, ℕ, Err, List, Result, refl, subst}
use Rattle.std.specs.Io.KnownBytes.{Appends}
use Rattle.mold_devices.specs.Devices.{AppendsPrefix}
use Rattle.mold_devices.proofs.WritingLemmas.{ends_front, ends_sink, ends_whole}
use Rattle.mold_devices.specs.declared.fault.CommandFault.{CommandFault}
use Rattle.mold_turns.proofs.FaultLemmas.{two_faults}
use Rattle.mold_turns.proofs.PrintingLemmas.{former_text}
use Rattle.mold_loop.specs.LocalFeed.{lines}
use Rattle.mold_loop.proofs.HeardLemmas.{rests_failed, rests_written}
use Rattle.mold_loop.proofs.WritingLemmas.{never_memory, plain_written}
use Rattle.mold_loop.proofs.local_feed.LocalFeed.write_end.Goals as goal

pub returns-in_default-clause-passed : goal.returns-in_default-clause-passed
returns-in_default-clause-passed g c modeled =
    let feed = c.args.self.now in
    let peers = feed.options.now.peers in
    let before = feed.listener.now.printer.outgoing.text in
    let after = c.pass_end.new.self.listener.now.printer.outgoing.text in
    let result : Result (Unit {0}) CommandFault = Err c.end_with.result in
    rests_failed peers.a peers.b c.pass_end.result result (g.E.Sink.held c.args.errors.now) _
    (c.pass_end.ensures.passed modeled) refl
    (subst (λ (text : List ℕ). AppendsPrefix (g.K.Sink.held c.args.sink.now) (g.K.Sink.held c.end_with.new.sink) text)
    (former_text before after _ c.pass_end.ensures.prints c.unwritten-told.ensures) (ends_front c.end_with.ensures.ends))
    refl

pub returns-in_default-clause-kept : goal.returns-in_default-clause-kept
returns-in_default-clause-kept g c = λ is.
    let before = c.args.self.now.listener.now.printer.outgoing.text in
    let after = c.pass_end.new.self.listener.now.printer.outgoing.text in
    subst (λ (text : List ℕ). Appends (g.K.Sink.held c.args.sink.now) (g.K.Sink.held c.end_with.new.sink) text)
    (former_text before after _ c.pass_end.ensures.prints c.unwritten-told.ensures) (ends_whole c.end_with.ensures.ends is)

pub returns-in_default-clause-only : goal.returns-in_default-clause-only
returns-in_default-clause-only g c =
    let only = c.pass_end.ensures.only in
    record {
      same = record {
        ports = only.same.ports;
        options = only.same.options;
        buffer = only.same.buffer;
        listener = only.same.listener;
      };
      server = only.server;
      requests = only.requests;
      a = only.a;
      b = only.b;
    }

pub returns-in_default-clause-sinks : goal.returns-in_default-clause-sinks
returns-in_default-clause-sinks g c = two_faults _ _ _ _ c.end_with.result (ends_sink c.end_with.ensures.ends) refl

pub returns-in_default-clause-quiet : goal.returns-in_default-clause-quiet
returns-in_default-clause-quiet g c = λ plain. (refl, ends_sink c.end_with.ensures.ends)

pub returns-clause-passed : goal.returns-clause-passed
returns-clause-passed g c modeled =
    let peers = c.args.self.now.options.now.peers in
    rests_written peers.a peers.b tt c.write_large.result (lines g.D.Datagrams.port c.args.self.now)
    (lines g.D.Datagrams.port c.pass_end.new.self) c.write_large.new.outgoing (c.in-Ok.ensures.passed modeled)
    c.write_large.ensures.writes

pub returns-clause-kept : goal.returns-clause-kept
returns-clause-kept g c = never_memory c.write_large.result _ c.write_large.ensures.fault

pub returns-clause-only : goal.returns-clause-only
returns-clause-only g c =
    let only = c.in-Ok.ensures.only in
    record {
      same = record {
        ports = only.same.ports;
        options = only.same.options;
        buffer = only.same.buffer;
        listener = only.same.listener;
      };
      server = only.server;
      requests = only.requests;
      a = only.a;
      b = only.b;
    }

pub returns-clause-plain : goal.returns-clause-plain
returns-clause-plain g c =
    plain_written c.write_large.result c.write_large.new.outgoing c.pass_end.ensures.keeps c.write_large.ensures.format
    c.write_large.ensures.said

pub returns-clause-quiet : goal.returns-clause-quiet
returns-clause-quiet g c = λ plain.
    c.write_large.ensures.quiet (c.pass_end.ensures.keeps.side plain.lines ∙ plain.none)
