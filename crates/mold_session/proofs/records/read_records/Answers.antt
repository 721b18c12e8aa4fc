use Rattle.std.proofs.lemmas.Result.{err_from_is_err_and}
use Rattle.std.specs.Io.KnownBytes.{prepend_known}
use Rattle.mold_session.specs.FileFault.{RecordsFault}
use Rattle.mold_session.specs.Loading.{Refuses}
use Rattle.mold_session.proofs.FileLemmas.{passed_on}
use Rattle.mold_session.proofs.RecordReadingLemmas.{records_refused}
use Rattle.mold_session.proofs.records.read_records.Goals as goal

pub returns-in_err-closed-clause-refused : goal.returns-in_err-closed-clause-refused
returns-in_err-closed-clause-refused g c =
    let known = prepend_known c.args.piece.now (g.S.Source.left c.args.source.now) in
    passed_on c.from_residual.result c.in_err-closed.field-0.0 (Refuses (RecordsFault c.args.most) known)
    (err_from_is_err_and c.from_residual.result c.from_residual.ensures.1)
    (records_refused c.args.most c.len-count.result known
    (prepend_known c.messages.piece (g.S.Source.left c.messages.source)) c.messages.list.messages
    c.in_err-closed.field-0.0 c.messages.invariant.reads c.len-count.ensures c.in_err-closed.ensures.refused)
