use Rattle.std.proofs.Common.{sym, ◌∙◌}
use Rattle.std.proofs.lemmas.Result.{err_from_is_err_and}
use Rattle.std.specs.Io.KnownBytes.{prepend_known}
use Rattle.mold_session.specs.FileFault.{JournalFault}
use Rattle.mold_session.specs.Loading.{Refuses}
use Rattle.mold_session.proofs.FileLemmas.{passed_on, blocks_refused, from_start, head_from_start, count_off}
use Rattle.mold_session.proofs.FileLemmas.{file_spelled, records_refused, records_spelled}
use Rattle.mold_session.proofs.SavingLemmas.{are_file_messages}
use Rattle.mold_session.proofs.loading.load_file.Goals as goal

pub returns-in_err-head-clause-refused : goal.returns-in_err-head-clause-refused
returns-in_err-head-clause-refused g c =
    passed_on c.from_residual.result c.in_err-head.field-0.0
    (Refuses (JournalFault c.args.most) (g.S.Source.left c.args.source.now))
    (err_from_is_err_and c.from_residual.result c.from_residual.ensures.1)
    (from_start (g.S.Source.left c.args.source.now) c.new-piece.result c.args.most c.in_err-head.field-0.0
    c.new-piece.ensures (c.in_err-head.ensures.refused c.args.most))

pub returns-in_err-list-clause-refused : goal.returns-in_err-list-clause-refused
returns-in_err-list-clause-refused g c =
    let known = g.S.Source.left c.args.source.now in
    let left = prepend_known c.read_head.new.piece (g.S.Source.left c.read_head.new.source) in
    passed_on c.from_residual-in_err-list.result c.in_err-list.field-0.0 (Refuses (JournalFault c.args.most) known)
    (err_from_is_err_and c.from_residual-in_err-list.result c.from_residual-in_err-list.ensures.1)
    (blocks_refused known left c.in_ok-head.head c.args.most (sym c.has_records.ensures ∙ c.if-has_records.false)
    (head_from_start known left c.new-piece.result c.in_ok-head.head c.new-piece.ensures c.in_ok-head.ensures.read)
    c.in_err-list.field-0.0 c.in_err-list.ensures.refused)

pub returns-in_err-check_count-clause-refused : goal.returns-in_err-check_count-clause-refused
returns-in_err-check_count-clause-refused g c =
    let known = g.S.Source.left c.args.source.now in
    let left = prepend_known c.read_head.new.piece (g.S.Source.left c.read_head.new.source) in
    passed_on c.from_residual-in_err-check_count.result c.in_err-check_count.field-0.0
    (Refuses (JournalFault c.args.most) known)
    (err_from_is_err_and c.from_residual-in_err-check_count.result c.from_residual-in_err-check_count.ensures.1)
    (count_off known left c.in_ok-head.head c.args.most c.in_ok-list.list.messages c.len.result
    c.in_err-check_count.field-0.0
    (head_from_start known left c.new-piece.result c.in_ok-head.head c.new-piece.ensures c.in_ok-head.ensures.read)
    c.in_ok-list.ensures.whole c.in_ok-list.ensures.listed c.len.ensures c.in_err-check_count.ensures.refused)

pub returns-clause-whole : goal.returns-clause-whole
returns-clause-whole g c =
    let messages = c.in_ok-list.list.messages in
    file_spelled (g.S.Source.left c.args.source.now)
    (prepend_known c.read_head.new.piece (g.S.Source.left c.read_head.new.source)) c.in_ok-head.head messages
    c.len.result (sym c.has_records.ensures ∙ c.if-has_records.false)
    (head_from_start (g.S.Source.left c.args.source.now)
    (prepend_known c.read_head.new.piece (g.S.Source.left c.read_head.new.source)) c.new-piece.result c.in_ok-head.head
    c.new-piece.ensures c.in_ok-head.ensures.read)
    c.in_ok-list.ensures.whole (are_file_messages c.args.most messages c.ranges.most.fits c.in_ok-list.ensures.listed)
    c.in_ok-check_count.ensures.same c.len.ensures

pub returns-in_err-records-clause-refused : goal.returns-in_err-records-clause-refused
returns-in_err-records-clause-refused g c =
    let known = g.S.Source.left c.args.source.now in
    let left = prepend_known c.read_head.new.piece (g.S.Source.left c.read_head.new.source) in
    passed_on c.from_residual-in_err-records.result c.in_err-records.field-0.0 (Refuses (JournalFault c.args.most) known)
    (err_from_is_err_and c.from_residual-in_err-records.result c.from_residual-in_err-records.ensures.1)
    (records_refused known left c.in_ok-head.head c.args.most (sym c.has_records.ensures ∙ c.if-has_records.true)
    (head_from_start known left c.new-piece.result c.in_ok-head.head c.new-piece.ensures c.in_ok-head.ensures.read)
    c.in_err-records.field-0.0 c.in_err-records.ensures.refused)

pub returns-then-has_records-clause-whole : goal.returns-then-has_records-clause-whole
returns-then-has_records-clause-whole g c =
    let known = g.S.Source.left c.args.source.now in
    let left = prepend_known c.read_head.new.piece (g.S.Source.left c.read_head.new.source) in
    let messages = c.in_ok-records.records.messages in
    records_spelled known left c.in_ok-head.head messages c.in_ok-records.closed
    (sym c.has_records.ensures ∙ c.if-has_records.true)
    (head_from_start known left c.new-piece.result c.in_ok-head.head c.new-piece.ensures c.in_ok-head.ensures.read)
    c.in_ok-records.ensures.whole
    (are_file_messages c.args.most messages c.ranges.most.fits c.in_ok-records.ensures.listed)
