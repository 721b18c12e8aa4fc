use Rattle.std.proofs.Common.{◌∙◌, List, ℕ, ap, refl, subst}
use Rattle.std.specs.Io.KnownBytes.{Appends}
use Rattle.mold_devices.specs.Devices.{AppendsPrefix}
use Rattle.mold_devices.proofs.WritingLemmas.{ends_front, ends_sink, ends_whole, not_memory}
use Rattle.mold_turns.specs.Outgoing.{OutgoingState}
use Rattle.mold_turns.proofs.FaultLemmas.{counts_same, two_faults, two_same}
use Rattle.mold_turns.proofs.PrintingLemmas.{former_text, front_more, front_none}
use Rattle.mold_loop.proofs.looping.print_last.Goals as goal

pub returns-in_default-clause-front : goal.returns-in_default-clause-front
returns-in_default-clause-front g c =
    front_more _ _ c.args.listener.now.printer.outgoing.text _
    (subst (λ (t : List ℕ). AppendsPrefix (g.K.Sink.held c.args.sink.now) (g.K.Sink.held c.end_with.new.sink) t)
    (former_text c.args.listener.now.printer.outgoing.text c.push_end.new.outgoing.text _ c.push_end.ensures.prints
    c.unwritten-told.ensures)
    (ends_front c.end_with.ensures.ends))

pub returns-in_default-clause-said_front : goal.returns-in_default-clause-said_front
returns-in_default-clause-said_front g c = front_none (g.E.Sink.held c.args.errors.now) _

pub returns-in_default-clause-kept : goal.returns-in_default-clause-kept
returns-in_default-clause-kept g c = λ is.
    subst (λ (t : List ℕ). Appends (g.K.Sink.held c.args.sink.now) (g.K.Sink.held c.end_with.new.sink) t)
    (former_text c.args.listener.now.printer.outgoing.text c.push_end.new.outgoing.text _ c.push_end.ensures.prints
    c.unwritten-told.ensures)
    (ends_whole c.end_with.ensures.ends is)

pub returns-in_default-clause-sinks : goal.returns-in_default-clause-sinks
returns-in_default-clause-sinks g c = two_faults _ _ _ _ c.end_with.result (ends_sink c.end_with.ensures.ends) refl

pub returns-in_default-clause-quiet : goal.returns-in_default-clause-quiet
returns-in_default-clause-quiet g c = λ plain. (refl, ends_sink c.end_with.ensures.ends)

pub returns-in_err-write_all-clause-front : goal.returns-in_err-write_all-clause-front
returns-in_err-write_all-clause-front g c =
    subst (λ (t : List ℕ). AppendsPrefix (g.K.Sink.held c.args.sink.now) (g.K.Sink.held c.write_all.new.sink) t)
    (ap (λ (o : OutgoingState). o.text) c.in-Ok.ensures.lines) c.write_all.ensures.front

pub returns-in_err-write_all-clause-said_front : goal.returns-in_err-write_all-clause-said_front
returns-in_err-write_all-clause-said_front g c =
    subst (λ (t : List ℕ). AppendsPrefix (g.E.Sink.held c.args.errors.now) (g.E.Sink.held c.write_all.new.errors) t)
    (ap (λ (o : OutgoingState). o.side) c.in-Ok.ensures.lines) c.write_all.ensures.said_front

pub returns-in_err-write_all-clause-kept : goal.returns-in_err-write_all-clause-kept
returns-in_err-write_all-clause-kept g c =
    not_memory c.from_residual.result c.in_err-write_all.field-0.0 _ c.from_residual.ensures.1
    c.in_err-write_all.ensures.fault

pub returns-in_err-write_all-clause-sinks : goal.returns-in_err-write_all-clause-sinks
returns-in_err-write_all-clause-sinks g c =
    two_same c.from_residual.result c.in_err-write_all.field-0.0 _ _ _ _ _ _ c.from_residual.ensures.1 refl refl
    c.in_err-write_all.ensures.sinks

pub returns-in_err-write_all-clause-quiet : goal.returns-in_err-write_all-clause-quiet
returns-in_err-write_all-clause-quiet g c = λ plain.
    let quiet = c.in_err-write_all.ensures.quiet (c.push_end.ensures.keeps.side plain.lines ∙ plain.none) in (
      quiet.0,
      counts_same c.from_residual.result c.in_err-write_all.field-0.0 _ _ c.from_residual.ensures.1 quiet.1,
    )

pub returns-clause-whole : goal.returns-clause-whole
returns-clause-whole g c = (
  subst (λ (t : List ℕ). Appends (g.K.Sink.held c.args.sink.now) (g.K.Sink.held c.write_all.new.sink) t)
      (ap (λ (o : OutgoingState). o.text) c.in-Ok.ensures.lines) c.in_ok-write_all.ensures.whole,
  c.in-Ok.ensures.status,
)

pub returns-clause-front : goal.returns-clause-front
returns-clause-front g c =
    subst (λ (t : List ℕ). AppendsPrefix (g.K.Sink.held c.args.sink.now) (g.K.Sink.held c.write_all.new.sink) t)
    (ap (λ (o : OutgoingState). o.text) c.in-Ok.ensures.lines) c.write_all.ensures.front

pub returns-clause-said : goal.returns-clause-said
returns-clause-said g c =
    subst (λ (t : List ℕ). Appends (g.E.Sink.held c.args.errors.now) (g.E.Sink.held c.write_all.new.errors) t)
    (ap (λ (o : OutgoingState). o.side) c.in-Ok.ensures.lines) c.in_ok-write_all.ensures.said

pub returns-clause-said_front : goal.returns-clause-said_front
returns-clause-said_front g c =
    subst (λ (t : List ℕ). AppendsPrefix (g.E.Sink.held c.args.errors.now) (g.E.Sink.held c.write_all.new.errors) t)
    (ap (λ (o : OutgoingState). o.side) c.in-Ok.ensures.lines) c.write_all.ensures.said_front

pub returns-clause-left : goal.returns-clause-left
returns-clause-left g c =
    let left = c.in_ok-write_all.ensures.left in
    record {
      text = left.text;
      side = left.side;
      failures = left.failures ∙ ap (λ (o : OutgoingState). o.failures) c.in-Ok.ensures.lines;
    }

pub returns-clause-quiet : goal.returns-clause-quiet
returns-clause-quiet g c = λ plain.
    c.in_ok-write_all.ensures.quiet (c.push_end.ensures.keeps.side plain.lines ∙ plain.none)
