use Rattle.std.proofs.Common.{◌∙◌, ℕ, Err, List, Result, refl, subst}
use Rattle.std.specs.Io.KnownBytes.{Appends}
use Rattle.mold_devices.specs.Devices.{AppendsPrefix}
use Rattle.mold_devices.proofs.WritingLemmas.{ends_front, ends_sink, ends_whole}
use Rattle.mold_devices.specs.declared.fault.CommandFault.{CommandFault}
use Rattle.mold_turns.proofs.FaultLemmas.{two_faults}
use Rattle.mold_turns.proofs.PrintingLemmas.{former_text}
use Rattle.mold_loop.specs.LocalFeed.{rounds}
use Rattle.mold_serve.specs.Serving.{service_of}
use Rattle.mold_loop.proofs.RepairLemmas.{round_failed, round_is, round_written}
use Rattle.mold_loop.proofs.WritingLemmas.{never_memory, plain_written}
use Rattle.mold_loop.proofs.local_feed.LocalFeed.write_round.Goals as goal

pub returns-in_default-clause-rests : goal.returns-in_default-clause-rests
returns-in_default-clause-rests g c modeled =
    let to = c.args.self.now.options.now.peers.server in
    let known = g.D.Datagrams.port in
    let service = service_of c.args.journal.now c.args.server.now in
    let start = rounds known c.args.server.now c.args.self.now in
    let made = rounds known c.round.new.server c.round.new.self in
    let done = c.round.ensures.requested modeled in
    let before = c.args.self.now.listener.now.printer.outgoing.text in
    let after = c.round.new.self.listener.now.printer.outgoing.text in
    let result : Result (Unit {0}) CommandFault = Err c.end_with.result in
    round_failed to service done.0 c.round.result result start made _ (g.E.Sink.held c.args.errors.now)
    (round_is c.round.result to service c.args.request.now done.0 start made c.requires.wanted done.1) refl refl
    (subst (λ (text : List ℕ). AppendsPrefix (g.K.Sink.held c.args.sink.now) (g.K.Sink.held c.end_with.new.sink) text)
    (former_text before after _ c.round.ensures.prints c.unwritten-told.ensures) (ends_front c.end_with.ensures.ends))
    refl

pub returns-in_default-clause-kept : goal.returns-in_default-clause-kept
returns-in_default-clause-kept g c = λ is.
    let before = c.args.self.now.listener.now.printer.outgoing.text in
    let after = c.round.new.self.listener.now.printer.outgoing.text in
    subst (λ (text : List ℕ). Appends (g.K.Sink.held c.args.sink.now) (g.K.Sink.held c.end_with.new.sink) text)
    (former_text before after _ c.round.ensures.prints c.unwritten-told.ensures) (ends_whole c.end_with.ensures.ends is)

pub returns-in_default-clause-only : goal.returns-in_default-clause-only
returns-in_default-clause-only g c =
    let only = c.round.ensures.only in
    record {
      same = record {
        ports = only.same.ports;
        options = only.same.options;
        buffer = only.same.buffer;
        listener = only.same.listener;
      };
      publisher = only.publisher;
      a = only.a;
      b = only.b;
    }

pub returns-in_default-clause-sinks : goal.returns-in_default-clause-sinks
returns-in_default-clause-sinks g c = two_faults _ _ _ _ c.end_with.result (ends_sink c.end_with.ensures.ends) refl

pub returns-in_default-clause-quiet : goal.returns-in_default-clause-quiet
returns-in_default-clause-quiet g c = λ plain. (refl, ends_sink c.end_with.ensures.ends)

pub returns-clause-rests : goal.returns-clause-rests
returns-clause-rests g c modeled =
    let to = c.args.self.now.options.now.peers.server in
    let known = g.D.Datagrams.port in
    let service = service_of c.args.journal.now c.args.server.now in
    let start = rounds known c.args.server.now c.args.self.now in
    let made = rounds known c.round.new.server c.round.new.self in
    let done = c.in-Ok.ensures.requested modeled in
    round_written to service done.0 tt c.write_large.result start made c.write_large.new.outgoing
    (round_is _ to service c.args.request.now done.0 start made c.requires.wanted done.1) c.write_large.ensures.writes

pub returns-clause-kept : goal.returns-clause-kept
returns-clause-kept g c = never_memory c.write_large.result _ c.write_large.ensures.fault

pub returns-clause-only : goal.returns-clause-only
returns-clause-only g c =
    let only = c.in-Ok.ensures.only in
    record {
      same = record {
        ports = only.same.ports;
        options = only.same.options;
        buffer = only.same.buffer;
        listener = only.same.listener;
      };
      publisher = only.publisher;
      a = only.a;
      b = only.b;
    }

pub returns-clause-plain : goal.returns-clause-plain
returns-clause-plain g c =
    plain_written c.write_large.result c.write_large.new.outgoing c.round.ensures.keeps c.write_large.ensures.format
    c.write_large.ensures.said

pub returns-clause-quiet : goal.returns-clause-quiet
returns-clause-quiet g c = λ plain.
    c.write_large.ensures.quiet (c.round.ensures.keeps.side plain.lines ∙ plain.none)
