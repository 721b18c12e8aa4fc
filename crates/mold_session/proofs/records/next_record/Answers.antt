use Rattle.std.proofs.lemmas.Result.{err_from_is_err_and}
use Rattle.std.specs.Io.KnownBytes.{prepend_known}
use Rattle.mold_session.specs.FileFault.{RecordFault}
use Rattle.mold_session.specs.Loading.{Refuses}
use Rattle.mold_session.proofs.FileLemmas.{passed_on}
use Rattle.mold_session.proofs.RecordReadingLemmas.{record_refused}
use Rattle.mold_session.proofs.records.next_record.Goals as goal

pub returns-in_err-start_record-clause-refused : goal.returns-in_err-start_record-clause-refused
returns-in_err-start_record-clause-refused g c =
    let known = prepend_known c.args.piece.now (g.S.Source.left c.args.source.now) in
    passed_on c.from_residual.result c.in_err-start_record.field-0.0
    (Refuses (RecordFault c.args.most c.args.count) known)
    (err_from_is_err_and c.from_residual.result c.from_residual.ensures.1)
    (c.in_err-start_record.ensures.refused c.args.most)

pub returns-in_err-take_block-in-Message-clause-refused : goal.returns-in_err-take_block-in-Message-clause-refused
returns-in_err-take_block-in-Message-clause-refused g c =
    let known = prepend_known c.args.piece.now (g.S.Source.left c.args.source.now) in
    let mid = prepend_known c.start_record.new.piece (g.S.Source.left c.start_record.new.source) in
    passed_on c.from_residual-in_err-take_block-in-Message.result c.in_err-take_block-in-Message.field-0.0
    (Refuses (RecordFault c.args.most c.args.count) known)
    (err_from_is_err_and c.from_residual-in_err-take_block-in-Message.result
    c.from_residual-in_err-take_block-in-Message.ensures.1)
    (record_refused known mid c.args.most c.args.count c.in_err-take_block-in-Message.field-0.0
    (rw c.in-Message.is at c.in_ok-start_record.ensures.started) c.in_err-take_block-in-Message.ensures.refused)
