use Rattle.std.proofs.Common.{◌∙◌, ap, refl}
use Rattle.std.specs.Prelude.{None, Some}
use Rattle.std.specs.Io.KnownBytes.{prepend_known}
use Rattle.mold_pcap.specs.Reading.{ReaderState}
use Rattle.mold_capture_commands.proofs.LocatedLemmas.{taken_all, taken_more, taken_none, taken_part}
use Rattle.mold_capture_commands.proofs.located_check.read_frames.Goals as goal

pub frames-init : goal.frames-init
frames-init g c =
    let begins = rw c.in_ok-reader.was at c.new.ensures in
    record {
      taken =
          taken_none g.J.Judge.judging c.args.filter.now c.args.check.now (g.S.Source.left c.args.source.now)
          c.in_ok-reader.reader.format c.in_ok-reader.reader.rest (ap (λ (r : ReaderState). r.format) begins)
          (ap (λ (r : ReaderState). r.rest) begins);
      failed = refl;
    }

pub frames-preserved : goal.frames-preserved
frames-preserved g c = record {
  taken =
      taken_more g.J.Judge.judging c.args.filter.now c.args.check.now c.frames.check c.take.new.self (g.S.Source.left c.args.source.now)
      (prepend_known c.frames.reader.rest (g.S.Source.left c.frames.source))
      (prepend_known c.advance.new.self.rest (g.S.Source.left c.advance.new.source)) c.frames.reader.format
      c.advance.new.self.format c.advance.new.self.frame c.frames.invariant.taken
      (rw c.in-Ok-true.field-0-test at c.in-Ok-true.ensures.frame)
      c.in_ok-take-in-Ok-true.ensures;
  failed = c.in-Ok-true.ensures.failures ∙ c.frames.invariant.failed;
}

pub returns-in-Ok-false-clause-taken : goal.returns-in-Ok-false-clause-taken
returns-in-Ok-false-clause-taken g c =
    taken_all g.J.Judge.judging c.args.filter.now c.args.check.now c.frames.check (g.S.Source.left c.args.source.now)
    (prepend_known c.frames.reader.rest (g.S.Source.left c.frames.source)) c.frames.reader.format None
    c.frames.invariant.taken (rw c.in-Ok-false.field-0-test at c.in-Ok-false.ensures.end)

pub returns-in-Err-Fault-clause-taken : goal.returns-in-Err-Fault-clause-taken
returns-in-Err-Fault-clause-taken g c =
    taken_all g.J.Judge.judging c.args.filter.now c.args.check.now c.frames.check (g.S.Source.left c.args.source.now)
    (prepend_known c.frames.reader.rest (g.S.Source.left c.frames.source)) c.frames.reader.format (Some c.in-Err-Fault.fault)
    c.frames.invariant.taken (rw c.in-Err-Fault.field-0-is at c.in-Err-Fault.ensures.fault)

pub returns-in-Err-Read-clause-part : goal.returns-in-Err-Read-clause-part
returns-in-Err-Read-clause-part g c =
    taken_part g.J.Judge.judging c.args.filter.now c.args.check.now c.frames.check (g.S.Source.left c.args.source.now)
    (prepend_known c.frames.reader.rest (g.S.Source.left c.frames.source)) c.frames.reader.format
    c.frames.invariant.taken
