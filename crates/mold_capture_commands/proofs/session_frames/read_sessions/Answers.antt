use Rattle.std.proofs.Common.{◌∙◌, ap, refl, subst, sym}
use Rattle.std.specs.Prelude.{None, Some}
use Rattle.std.specs.Io.KnownBytes.{prepend_known}
use Rattle.mold_pcap.specs.Reading.{ReaderState}
use Rattle.mold_capture_commands.specs.Filter.{found}
use Rattle.mold_capture_commands.specs.SessionState.{HasTarget, frame_counted}
use Rattle.mold_capture_commands.proofs.CheckLemmas.{found_frame}
use Rattle.mold_capture_commands.proofs.SessionLemmas.{counted_all, counted_more, counted_none, counted_part, found_target}
use Rattle.mold_capture_commands.proofs.session_frames.read_sessions.Goals as goal

pub take-requires : goal.take-requires
take-requires g c =
    subst HasTarget (sym (c.find.ensures ∙ ap (found c.args.filter.now) c.read_frame.ensures))
    (found_target c.args.filter.now _ (c.address_law.ensures c.link.result c.frame.result.now))

pub frames-init : goal.frames-init
frames-init g c =
    let begins = rw c.in_ok-reader.was at c.new.ensures in
    record {
      taken =
          counted_none c.args.filter.now c.args.sessions.now (g.S.Source.left c.args.source.now)
          c.in_ok-reader.reader.format c.in_ok-reader.reader.rest (ap (λ (r : ReaderState). r.format) begins)
          (ap (λ (r : ReaderState). r.rest) begins);
      failed = refl;
    }

pub frames-preserved : goal.frames-preserved
frames-preserved g c = record {
  taken =
      counted_more c.args.filter.now c.args.sessions.now c.frames.sessions c.take.new.self (g.S.Source.left c.args.source.now)
      (prepend_known c.frames.reader.rest (g.S.Source.left c.frames.source))
      (prepend_known c.advance.new.self.rest (g.S.Source.left c.advance.new.source)) c.frames.reader.format
      c.advance.new.self.format c.advance.new.self.frame c.frames.invariant.taken
      (rw c.in-Ok-true.field-0-test at c.in-Ok-true.ensures.frame)
      (c.in_ok-take-in-Ok-true.ensures
      ∙ ap (frame_counted c.frames.sessions)
      (found_frame c.args.filter.now c.advance.new.self.frame _ _ _ _ c.find.ensures c.read_frame.ensures c.link.ensures
      c.frame.ensures));
  failed = c.in-Ok-true.ensures.failures ∙ c.frames.invariant.failed;
}

pub returns-in-Ok-false-clause-taken : goal.returns-in-Ok-false-clause-taken
returns-in-Ok-false-clause-taken g c =
    counted_all c.args.filter.now c.args.sessions.now c.frames.sessions (g.S.Source.left c.args.source.now)
    (prepend_known c.frames.reader.rest (g.S.Source.left c.frames.source)) c.frames.reader.format None
    c.frames.invariant.taken (rw c.in-Ok-false.field-0-test at c.in-Ok-false.ensures.end)

pub returns-in-Err-Fault-clause-taken : goal.returns-in-Err-Fault-clause-taken
returns-in-Err-Fault-clause-taken g c =
    counted_all c.args.filter.now c.args.sessions.now c.frames.sessions (g.S.Source.left c.args.source.now)
    (prepend_known c.frames.reader.rest (g.S.Source.left c.frames.source)) c.frames.reader.format (Some c.in-Err-Fault.fault)
    c.frames.invariant.taken (rw c.in-Err-Fault.field-0-is at c.in-Err-Fault.ensures.fault)

pub returns-in-Err-Read-clause-part : goal.returns-in-Err-Read-clause-part
returns-in-Err-Read-clause-part g c =
    counted_part c.args.filter.now c.args.sessions.now c.frames.sessions (g.S.Source.left c.args.source.now)
    (prepend_known c.frames.reader.rest (g.S.Source.left c.frames.source)) c.frames.reader.format
    c.frames.invariant.taken
