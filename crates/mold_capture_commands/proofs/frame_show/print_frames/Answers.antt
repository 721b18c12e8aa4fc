use Rattle.std.proofs.Common.{◌∙◌, ℕ, ap, refl, subst, sym, take}
use Rattle.std.specs.Io.KnownBytes.{prepend_known}
use Rattle.mold_devices.specs.Devices.{AppendsPrefix}
use Rattle.mold_devices.proofs.WritingLemmas.{ends_front}
use Rattle.mold_capture_commands.proofs.ShowLemmas.{PrintedSoFar, moment, printed_all, printed_front, printed_more, printed_moved}
use Rattle.mold_capture_commands.specs.declared.frame_show.Unsent.{Unsent}
use Rattle.mold_capture_commands.proofs.frame_show.print_frames.Goals as goal

pub frames-preserved : goal.frames-preserved
frames-preserved g c =
    let next = rw c.in-Ok-Printed.field-0-is at c.in-Ok-Printed.ensures.next in
    record {
      printed =
          printed_moved c.args.filter.now (g.K.Sink.held c.args.sink.now)
          (moment (g.K.Sink.held c.frames.sink) c.print_next.new.unsent)
          (moment (g.K.Sink.held c.send_large.new.sink) (record c.print_next.new.unsent { text = c.send_large.new.text }))
          (g.S.Source.left c.args.source.now)
          (prepend_known c.print_next.new.reader.rest (g.S.Source.left c.print_next.new.source))
          c.print_next.new.reader.format
          (printed_more c.args.filter.now (g.K.Sink.held c.args.sink.now)
          (moment (g.K.Sink.held c.frames.sink) c.frames.unsent)
          (moment (g.K.Sink.held c.frames.sink) c.print_next.new.unsent)
          (g.S.Source.left c.args.source.now)
          (prepend_known c.frames.reader.rest (g.S.Source.left c.frames.source))
          (prepend_known c.print_next.new.reader.rest (g.S.Source.left c.print_next.new.source))
          c.frames.reader.format c.print_next.new.reader.format c.print_next.new.reader.frame c.frames.invariant.printed
          next.0 refl next.1.text next.1.refused)
          c.in_ok-send_large-in-Ok-Printed.ensures.moved refl;
      source = c.in-Ok-Printed.ensures.failures ∙ c.frames.invariant.source;
      sink = c.in_ok-send_large-in-Ok-Printed.ensures.failures ∙ c.frames.invariant.sink;
    }

pub returns-in_err-send_large-in-Ok-Printed-clause-front : goal.returns-in_err-send_large-in-Ok-Printed-clause-front
returns-in_err-send_large-in-Ok-Printed-clause-front g c =
    let next = rw c.in-Ok-Printed.field-0-is at c.in-Ok-Printed.ensures.next in
    printed_front c.args.filter.now (g.K.Sink.held c.args.sink.now) (g.K.Sink.held c.send_large.new.sink)
    (moment (g.K.Sink.held c.frames.sink) c.print_next.new.unsent)
    (g.S.Source.left c.args.source.now)
    (prepend_known c.print_next.new.reader.rest (g.S.Source.left c.print_next.new.source))
    c.print_next.new.reader.format
    (printed_more c.args.filter.now (g.K.Sink.held c.args.sink.now)
    (moment (g.K.Sink.held c.frames.sink) c.frames.unsent)
    (moment (g.K.Sink.held c.frames.sink) c.print_next.new.unsent)
    (g.S.Source.left c.args.source.now)
    (prepend_known c.frames.reader.rest (g.S.Source.left c.frames.source))
    (prepend_known c.print_next.new.reader.rest (g.S.Source.left c.print_next.new.source))
    c.frames.reader.format c.print_next.new.reader.format c.print_next.new.reader.frame c.frames.invariant.printed
    next.0 refl next.1.text next.1.refused)
    c.send_large.ensures.front

pub returns-in_err-send-in-Ok-Ended-clause-front : goal.returns-in_err-send-in-Ok-Ended-clause-front
returns-in_err-send-in-Ok-Ended-clause-front g c =
    let next = rw c.in-Ok-Ended.field-0-is at c.in-Ok-Ended.ensures.next in
    printed_front c.args.filter.now (g.K.Sink.held c.args.sink.now) (g.K.Sink.held c.send.new.sink)
    (moment (g.K.Sink.held c.frames.sink) c.frames.unsent)
    (g.S.Source.left c.args.source.now)
    (prepend_known c.frames.reader.rest (g.S.Source.left c.frames.source))
    c.frames.reader.format c.frames.invariant.printed
    (subst (λ (u : Unsent). AppendsPrefix (g.K.Sink.held c.frames.sink) (g.K.Sink.held c.send.new.sink) u.text.items)
    next.1 c.send.ensures.front)

pub returns-in-Ok-Ended-clause-front : goal.returns-in-Ok-Ended-clause-front
returns-in-Ok-Ended-clause-front g c =
    let next = rw c.in-Ok-Ended.field-0-is at c.in-Ok-Ended.ensures.next in
    printed_front c.args.filter.now (g.K.Sink.held c.args.sink.now) (g.K.Sink.held c.send.new.sink)
    (moment (g.K.Sink.held c.frames.sink) c.frames.unsent)
    (g.S.Source.left c.args.source.now)
    (prepend_known c.frames.reader.rest (g.S.Source.left c.frames.source))
    c.frames.reader.format c.frames.invariant.printed
    (subst (λ (u : Unsent). AppendsPrefix (g.K.Sink.held c.frames.sink) (g.K.Sink.held c.send.new.sink) u.text.items)
    next.1 c.send.ensures.front)

pub returns-in-Ok-Ended-clause-whole : goal.returns-in-Ok-Ended-clause-whole
returns-in-Ok-Ended-clause-whole g c =
    let next = rw c.in-Ok-Ended.field-0-is at c.in-Ok-Ended.ensures.next in
    printed_all c.args.filter.now (g.K.Sink.held c.args.sink.now) (g.K.Sink.held c.send.new.sink)
    (moment (g.K.Sink.held c.frames.sink) c.print_next.new.unsent)
    (g.S.Source.left c.args.source.now)
    (prepend_known c.frames.reader.rest (g.S.Source.left c.frames.source))
    c.frames.reader.format c.in-Ok-Ended.fault
    (subst (λ (u : Unsent). PrintedSoFar c.args.filter.now (g.K.Sink.held c.args.sink.now)
    (moment (g.K.Sink.held c.frames.sink) u)
    (g.S.Source.left c.args.source.now) c.frames.reader.format
    (prepend_known c.frames.reader.rest (g.S.Source.left c.frames.source)))
    (sym next.1) c.frames.invariant.printed)
    next.0 c.in_ok-send-in-Ok-Ended.ensures.whole

pub returns-in-Err-clause-front : goal.returns-in-Err-clause-front
returns-in-Err-clause-front g c =
    printed_front c.args.filter.now (g.K.Sink.held c.args.sink.now) (g.K.Sink.held c.end_with.new.sink)
    (moment (g.K.Sink.held c.frames.sink) c.frames.unsent)
    (g.S.Source.left c.args.source.now)
    (prepend_known c.frames.reader.rest (g.S.Source.left c.frames.source))
    c.frames.reader.format c.frames.invariant.printed
    (subst (AppendsPrefix (g.K.Sink.held c.frames.sink) (g.K.Sink.held c.end_with.new.sink))
    (ap (λ (n : ℕ). take n c.print_next.new.unsent.text.items) (c.len-printed.ensures ∙ c.frames.unsent.text.ok.0)
    ∙ c.in-Err.ensures.kept)
    (ends_front c.end_with.ensures.ends))
