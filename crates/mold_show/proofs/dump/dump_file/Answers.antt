use Rattle.std.proofs.Common.{◌∙◌, ℕ, List, Option, refl, subst}
use Rattle.std.specs.Prelude.{None, OnOk, Some}
use Rattle.std.specs.Io.KnownBytes.{Appends, prepend_known}
use Rattle.mold_devices.specs.Devices.{AppendsPrefix}
use Rattle.mold_show.specs.Dump.{CountsDump, CountsEnd, ended_errors}
use Rattle.mold_show.specs.declared.dump_fault.DumpFault.TheVariants.{File}
use Rattle.mold_show.proofs.DumpLemmas.{Dumping, ReaderLaws, dumping_blocks, dumping_more, dumping_moved, dumping_none}
use Rattle.mold_show.proofs.DumpLemmas.{gathered_front, unsent_errors}
use Rattle.mold_show.proofs.EndLemmas.{Ending, ended_contents, ended_errors_front, ended_front, ended_report, ended_whole}
use Rattle.mold_show.proofs.EndLemmas.{counts_write, ending_head, ending_refused, ending_whole}
use Rattle.mold_show.proofs.dump.dump_file.Given.{Over}
use Rattle.mold_show.proofs.dump.dump_file.Goals.{After-dump_blocks, After-one_file_law, In-Err-dump_next, In-Ok-false}
use Rattle.mold_show.proofs.dump.dump_file.Goals as goal

laws_of : (g : Over) (c : After-one_file_law g) → ReaderLaws
laws_of g c = record {
  one = c.contents_law.ensures.one;
  next = c.reader_law.ensures.next;
  blocks = c.reader_law.ensures.blocks;
  refused = c.reader_law.ensures.refused;
  front = c.reader_law.ensures.front;
  file = c.reader_law.ensures.file;
  files = record { one_file = c.one_file_law.ensures.one_file };
}

-- ---- a head that is refused

pub returns-in-Err-clause-contents : goal.returns-in-Err-clause-contents
returns-in-Err-clause-contents g c =
    let text = c.new-text.result.items in
    let known = g.S.Source.left c.args.source.now in
    ended_contents (laws_of g (goal.at.returns-in-Err-clause-contents g c).After-one_file_law) c.args.options known _ _ _
    text (Some (File c.in-Err.error)) c.end_dump.result
    (ending_head c.args.options known _ text c.in-Err.error c.new-text.ensures.items c.in-Err.ensures.refused)
    c.end_dump.ensures.told c.end_dump.ensures.whole

pub returns-in-Err-clause-whole : goal.returns-in-Err-clause-whole
returns-in-Err-clause-whole g c =
    let text = c.new-text.result.items in
    let known = g.S.Source.left c.args.source.now in
    ended_whole (laws_of g (goal.at.returns-in-Err-clause-whole g c).After-one_file_law) c.args.options known _ _ _
    text (Some (File c.in-Err.error)) c.end_dump.result
    (ending_head c.args.options known _ text c.in-Err.error c.new-text.ensures.items c.in-Err.ensures.refused)
    c.end_dump.ensures.told c.end_dump.ensures.whole

pub returns-in-Err-clause-report : goal.returns-in-Err-clause-report
returns-in-Err-clause-report g c =
    let text = c.new-text.result.items in
    let known = g.S.Source.left c.args.source.now in
    let held = g.K.Sink.held c.args.sink.now in
    ended_report (laws_of g (goal.at.returns-in-Err-clause-report g c).After-one_file_law) c.args.options known held held
    _ _ text (Some (File c.in-Err.error)) c.end_dump.result
    (ending_head c.args.options known held text c.in-Err.error c.new-text.ensures.items c.in-Err.ensures.refused)
    c.end_dump.ensures.told c.end_dump.ensures.report

pub returns-in-Err-clause-front : goal.returns-in-Err-clause-front
returns-in-Err-clause-front g c =
    let text = c.new-text.result.items in
    let known = g.S.Source.left c.args.source.now in
    ended_front (laws_of g (goal.at.returns-in-Err-clause-front g c).After-one_file_law) c.args.options known _ _ _
    text (Some (File c.in-Err.error))
    (ending_head c.args.options known _ text c.in-Err.error c.new-text.ensures.items c.in-Err.ensures.refused)
    c.end_dump.ensures.front

pub returns-in-Err-clause-errors : goal.returns-in-Err-clause-errors
returns-in-Err-clause-errors g c =
    let text = c.new-text.result.items in
    let known = g.S.Source.left c.args.source.now in
    let held = g.K.Sink.held c.args.sink.now in
    ended_errors_front (laws_of g (goal.at.returns-in-Err-clause-errors g c).After-one_file_law) c.args.options known
    held held _ _ text (Some (File c.in-Err.error))
    (ending_head c.args.options known held text c.in-Err.error c.new-text.ensures.items c.in-Err.ensures.refused)
    c.end_dump.ensures.errors

pub returns-in-Err-clause-failures : goal.returns-in-Err-clause-failures
returns-in-Err-clause-failures g c =
    c.end_dump.ensures.failures (g.S.Source.failed c.args.source.now) (g.S.Source.failed c.new.new.source)
    c.in-Err.ensures.failures

pub messages-init : goal.messages-init
messages-init g c = record {
  dumping = dumping_none c.args.options (g.S.Source.left c.args.source.now)
      (prepend_known c.in-Ok.reader.rest (g.S.Source.left c.new.new.source)) (g.K.Sink.held c.args.sink.now)
      c.in-Ok.reader c.new-text.result.items c.in-Ok.ensures.begun c.new-text.ensures.items;
  source = c.in-Ok.ensures.failures;
  sink = refl;
  held = refl;
  errors = refl;
}

-- ---- the end of the file

ended : (g : Over) (c : In-Ok-false g) → ReaderLaws → Ending c.args.options (g.S.Source.left c.args.source.now)
    (g.K.Sink.held c.args.sink.now) (g.K.Sink.held c.messages.sink) c.dump_next.new.text.items None
ended g c laws =
    ending_whole laws c.args.options (g.S.Source.left c.args.source.now)
    (prepend_known c.messages.reader.rest (g.S.Source.left c.messages.source)) (g.K.Sink.held c.args.sink.now)
    (g.K.Sink.held c.messages.sink) c.messages.reader c.dump_next.new.reader.head c.messages.text.items
    c.dump_next.new.text.items
    c.messages.invariant.dumping (rw c.in-Ok-false.field-0-test at c.in-Ok-false.ensures.end)
    (rw c.in-Ok-false.field-0-test at c.in-Ok-false.ensures.mark)

pub returns-in-Ok-false-clause-contents : goal.returns-in-Ok-false-clause-contents
returns-in-Ok-false-clause-contents g c =
    let at = goal.at.returns-in-Ok-false-clause-contents g c in
    ended_contents (laws_of g at.After-one_file_law) c.args.options (g.S.Source.left c.args.source.now) _ _ _
    c.dump_next.new.text.items None c.end_dump-in-Ok-false.result (ended g at.In-Ok-false (laws_of g at.After-one_file_law))
    c.end_dump-in-Ok-false.ensures.told c.end_dump-in-Ok-false.ensures.whole

pub returns-in-Ok-false-clause-whole : goal.returns-in-Ok-false-clause-whole
returns-in-Ok-false-clause-whole g c =
    let at = goal.at.returns-in-Ok-false-clause-whole g c in
    ended_whole (laws_of g at.After-one_file_law) c.args.options (g.S.Source.left c.args.source.now) _ _ _
    c.dump_next.new.text.items None c.end_dump-in-Ok-false.result (ended g at.In-Ok-false (laws_of g at.After-one_file_law))
    c.end_dump-in-Ok-false.ensures.told c.end_dump-in-Ok-false.ensures.whole

pub returns-in-Ok-false-clause-report : goal.returns-in-Ok-false-clause-report
returns-in-Ok-false-clause-report g c =
    let at = goal.at.returns-in-Ok-false-clause-report g c in
    ended_report (laws_of g at.After-one_file_law) c.args.options (g.S.Source.left c.args.source.now) _ _ _ _
    c.dump_next.new.text.items None c.end_dump-in-Ok-false.result (ended g at.In-Ok-false (laws_of g at.After-one_file_law))
    c.end_dump-in-Ok-false.ensures.told (subst
    (λ (h : Option (List ℕ)).
    OnOk c.end_dump-in-Ok-false.result (Appends h (g.E.Sink.held c.end_dump-in-Ok-false.new.errors) (ended_errors c.args.options.format None)))
    c.messages.invariant.held c.end_dump-in-Ok-false.ensures.report)

pub returns-in-Ok-false-clause-front : goal.returns-in-Ok-false-clause-front
returns-in-Ok-false-clause-front g c =
    let at = goal.at.returns-in-Ok-false-clause-front g c in
    ended_front (laws_of g at.After-one_file_law) c.args.options (g.S.Source.left c.args.source.now) _ _ _
    c.dump_next.new.text.items None (ended g at.In-Ok-false (laws_of g at.After-one_file_law)) c.end_dump-in-Ok-false.ensures.front

pub returns-in-Ok-false-clause-errors : goal.returns-in-Ok-false-clause-errors
returns-in-Ok-false-clause-errors g c =
    let at = goal.at.returns-in-Ok-false-clause-errors g c in
    ended_errors_front (laws_of g at.After-one_file_law) c.args.options (g.S.Source.left c.args.source.now) _ _ _ _
    c.dump_next.new.text.items None (ended g at.In-Ok-false (laws_of g at.After-one_file_law)) (subst
    (λ (h : Option (List ℕ)).
    AppendsPrefix h (g.E.Sink.held c.end_dump-in-Ok-false.new.errors) (ended_errors c.args.options.format None))
    c.messages.invariant.held c.end_dump-in-Ok-false.ensures.errors)

pub returns-in-Ok-false-clause-failures : goal.returns-in-Ok-false-clause-failures
returns-in-Ok-false-clause-failures g c =
    let old = g.S.Source.failed c.args.source.now in
    let new = g.S.Source.failed c.dump_next.new.source in
    subst
    (λ (n : ℕ).
    CountsDump c.args.options.format (old, new) (n, g.K.Sink.failed c.end_dump-in-Ok-false.new.sink)
    (g.E.Sink.failed c.args.errors.now, g.E.Sink.failed c.end_dump-in-Ok-false.new.errors)
    c.end_dump-in-Ok-false.result)
    c.messages.invariant.sink
    (subst
    (λ (n : ℕ).
    CountsDump c.args.options.format (old, new) (g.K.Sink.failed c.messages.sink, g.K.Sink.failed c.end_dump-in-Ok-false.new.sink)
    (n, g.E.Sink.failed c.end_dump-in-Ok-false.new.errors)
    c.end_dump-in-Ok-false.result)
    c.messages.invariant.errors
    (c.end_dump-in-Ok-false.ensures.failures old new (c.in-Ok-false.ensures.failures ∙ c.messages.invariant.source)))

-- ---- a file that is refused, an empty message, a read or an allocation that fails

refused : (g : Over) (c : In-Err-dump_next g) → ReaderLaws →
    Ending c.args.options (g.S.Source.left c.args.source.now)
    (g.K.Sink.held c.args.sink.now) (g.K.Sink.held c.messages.sink) c.dump_next.new.text.items
    (Some c.in-Err-dump_next.fault)
refused g c laws =
    ending_refused laws c.args.options (g.S.Source.left c.args.source.now)
    (prepend_known c.messages.reader.rest (g.S.Source.left c.messages.source))
    (prepend_known c.dump_next.new.reader.rest (g.S.Source.left c.dump_next.new.source))
    (g.K.Sink.held c.args.sink.now) (g.K.Sink.held c.messages.sink) c.messages.reader c.dump_next.new.reader
    c.messages.text.items c.dump_next.new.text.items c.in-Err-dump_next.fault c.messages.invariant.dumping
    c.in-Err-dump_next.ensures.refused c.in-Err-dump_next.ensures.kept

pub returns-in-Err-dump_next-clause-contents : goal.returns-in-Err-dump_next-clause-contents
returns-in-Err-dump_next-clause-contents g c =
    let at = goal.at.returns-in-Err-dump_next-clause-contents g c in
    let laws = laws_of g at.After-one_file_law in
    ended_contents laws c.args.options (g.S.Source.left c.args.source.now) _ _ _
    c.dump_next.new.text.items (Some c.in-Err-dump_next.fault) c.end_dump-in-Err-dump_next.result
    (refused g at.In-Err-dump_next laws) c.end_dump-in-Err-dump_next.ensures.told
    c.end_dump-in-Err-dump_next.ensures.whole

pub returns-in-Err-dump_next-clause-whole : goal.returns-in-Err-dump_next-clause-whole
returns-in-Err-dump_next-clause-whole g c =
    let at = goal.at.returns-in-Err-dump_next-clause-whole g c in
    let laws = laws_of g at.After-one_file_law in
    ended_whole laws c.args.options (g.S.Source.left c.args.source.now) _ _ _
    c.dump_next.new.text.items (Some c.in-Err-dump_next.fault) c.end_dump-in-Err-dump_next.result
    (refused g at.In-Err-dump_next laws) c.end_dump-in-Err-dump_next.ensures.told
    c.end_dump-in-Err-dump_next.ensures.whole

pub returns-in-Err-dump_next-clause-report : goal.returns-in-Err-dump_next-clause-report
returns-in-Err-dump_next-clause-report g c =
    let at = goal.at.returns-in-Err-dump_next-clause-report g c in
    let laws = laws_of g at.After-one_file_law in
    ended_report laws c.args.options (g.S.Source.left c.args.source.now) _ _ _ _
    c.dump_next.new.text.items (Some c.in-Err-dump_next.fault) c.end_dump-in-Err-dump_next.result
    (refused g at.In-Err-dump_next laws) c.end_dump-in-Err-dump_next.ensures.told
    (subst
    (λ (h : Option (List ℕ)).
    OnOk c.end_dump-in-Err-dump_next.result (Appends h (g.E.Sink.held c.end_dump-in-Err-dump_next.new.errors) (ended_errors c.args.options.format (Some c.in-Err-dump_next.fault))))
    c.messages.invariant.held c.end_dump-in-Err-dump_next.ensures.report)

pub returns-in-Err-dump_next-clause-front : goal.returns-in-Err-dump_next-clause-front
returns-in-Err-dump_next-clause-front g c =
    let at = goal.at.returns-in-Err-dump_next-clause-front g c in
    let laws = laws_of g at.After-one_file_law in
    ended_front laws c.args.options (g.S.Source.left c.args.source.now) _ _ _
    c.dump_next.new.text.items (Some c.in-Err-dump_next.fault) (refused g at.In-Err-dump_next laws)
    c.end_dump-in-Err-dump_next.ensures.front

pub returns-in-Err-dump_next-clause-errors : goal.returns-in-Err-dump_next-clause-errors
returns-in-Err-dump_next-clause-errors g c =
    let at = goal.at.returns-in-Err-dump_next-clause-errors g c in
    let laws = laws_of g at.After-one_file_law in
    ended_errors_front laws c.args.options (g.S.Source.left c.args.source.now) _ _ _ _
    c.dump_next.new.text.items (Some c.in-Err-dump_next.fault) (refused g at.In-Err-dump_next laws)
    (subst
    (λ (h : Option (List ℕ)).
    AppendsPrefix h (g.E.Sink.held c.end_dump-in-Err-dump_next.new.errors) (ended_errors c.args.options.format (Some c.in-Err-dump_next.fault)))
    c.messages.invariant.held c.end_dump-in-Err-dump_next.ensures.errors)

pub returns-in-Err-dump_next-clause-failures : goal.returns-in-Err-dump_next-clause-failures
returns-in-Err-dump_next-clause-failures g c =
    let old = g.S.Source.failed c.args.source.now in
    let new = g.S.Source.failed c.dump_next.new.source in
    subst
    (λ (n : ℕ).
    CountsDump c.args.options.format (old, new) (n, g.K.Sink.failed c.end_dump-in-Err-dump_next.new.sink)
    (g.E.Sink.failed c.args.errors.now, g.E.Sink.failed c.end_dump-in-Err-dump_next.new.errors)
    c.end_dump-in-Err-dump_next.result)
    c.messages.invariant.sink
    (subst
    (λ (n : ℕ).
    CountsDump c.args.options.format (old, new) (g.K.Sink.failed c.messages.sink, g.K.Sink.failed c.end_dump-in-Err-dump_next.new.sink)
    (n, g.E.Sink.failed c.end_dump-in-Err-dump_next.new.errors)
    c.end_dump-in-Err-dump_next.result)
    c.messages.invariant.errors
    (c.end_dump-in-Err-dump_next.ensures.failures old new
    (subst (λ (n : ℕ). CountsEnd n new (Some c.in-Err-dump_next.fault)) c.messages.invariant.source
    c.in-Err-dump_next.ensures.failures)))

-- ---- one more message

more : (g : Over) (c : After-dump_blocks g) → ReaderLaws →
    Dumping c.args.options (g.S.Source.left c.args.source.now)
    (prepend_known c.dump_next.new.reader.rest (g.S.Source.left c.dump_next.new.source))
    (g.K.Sink.held c.args.sink.now) (g.K.Sink.held c.messages.sink) c.dump_next.new.reader c.dump_next.new.text.items
more g c laws =
    dumping_more laws c.args.options
    (g.S.Source.left c.args.source.now)
    (prepend_known c.messages.reader.rest (g.S.Source.left c.messages.source))
    (prepend_known c.dump_next.new.reader.rest (g.S.Source.left c.dump_next.new.source))
    (g.K.Sink.held c.args.sink.now) (g.K.Sink.held c.messages.sink) c.messages.reader c.dump_next.new.reader
    c.messages.text.items c.dump_next.new.text.items c.messages.invariant.dumping
    (rw c.in-Ok-true.field-0-test at c.in-Ok-true.ensures.next)
    (rw c.in-Ok-true.field-0-test at c.in-Ok-true.ensures.text)
    (rw c.in-Ok-true.field-0-test at c.in-Ok-true.ensures.passes)

-- The blocks that were read with the message were taken, too.
more_blocks : (g : Over) (c : After-dump_blocks g) → ReaderLaws →
    Dumping c.args.options (g.S.Source.left c.args.source.now)
    (prepend_known c.dump_blocks.new.reader.rest (g.S.Source.left c.dump_next.new.source))
    (g.K.Sink.held c.args.sink.now) (g.K.Sink.held c.messages.sink) c.dump_blocks.new.reader
    c.dump_blocks.new.text.items
more_blocks g c laws =
    dumping_blocks laws c.args.options
    (g.S.Source.left c.args.source.now) (g.S.Source.left c.dump_next.new.source)
    (g.K.Sink.held c.args.sink.now) (g.K.Sink.held c.messages.sink) c.dump_next.new.reader c.dump_blocks.new.reader
    c.dump_next.new.text.items c.dump_blocks.new.text.items (more g c laws) c.dump_blocks.ensures

pub messages-preserved : goal.messages-preserved
messages-preserved g c = record {
  dumping = dumping_moved _ _ _ _ _ _ _ _ _ (more_blocks g (goal.at.messages-preserved g c).After-dump_blocks
      (laws_of g (goal.at.messages-preserved g c).After-one_file_law))
      c.in_ok-send_large.ensures.moved;
  source = c.in-Ok-true.ensures.failures ∙ c.messages.invariant.source;
  sink = c.in_ok-send_large.ensures.failures ∙ c.messages.invariant.sink;
  held = c.messages.invariant.held;
  errors = c.messages.invariant.errors;
}

pub returns-in_err-send_large-clause-front : goal.returns-in_err-send_large-clause-front
returns-in_err-send_large-clause-front g c =
    let at = goal.at.returns-in_err-send_large-clause-front g c in
    let so_far = more_blocks g at.After-dump_blocks (laws_of g at.After-one_file_law) in
    gathered_front c.args.options (g.S.Source.left c.args.source.now) _ _ _ so_far.messages
    c.dump_blocks.new.text.items so_far.gathered c.send_large.ensures.front

pub returns-in_err-send_large-clause-errors : goal.returns-in_err-send_large-clause-errors
returns-in_err-send_large-clause-errors g c =
    unsent_errors c.args.options (g.S.Source.left c.args.source.now) (g.E.Sink.held c.args.errors.now)
    (g.E.Sink.held c.messages.errors) c.messages.invariant.held

pub returns-in_err-send_large-clause-failures : goal.returns-in_err-send_large-clause-failures
returns-in_err-send_large-clause-failures g c =
    counts_write c.args.options.format c.from_residual.result c.in_err-send_large.field-0.0
    (g.S.Source.failed c.args.source.now, g.S.Source.failed c.dump_next.new.source)
    (g.K.Sink.failed c.args.sink.now, g.K.Sink.failed c.send_large.new.sink)
    (g.E.Sink.failed c.args.errors.now, g.E.Sink.failed c.messages.errors) (g.K.Sink.failed c.messages.sink)
    c.from_residual.ensures.1 c.in_err-send_large.ensures.fault c.in_err-send_large.ensures.failures
    c.messages.invariant.sink (c.in-Ok-true.ensures.failures ∙ c.messages.invariant.source)
    c.messages.invariant.errors
