use Rattle.std.proofs.Common.{◌∷◌, arith, subst, sym}
use Rattle.std.specs.Io.KnownBytes.{prepend_known}
use Rattle.mold_session.specs.FileFault.{RecordFault}
use Rattle.mold_session.specs.Loading.{Refuses}
use Rattle.mold_session.specs.declared.error.FileError.{FileError}
use Rattle.mold_session.proofs.RecordReadingLemmas.{block_missing, block_refused}
use Rattle.mold_session.proofs.records.take_block.Goals as goal

pub returns-in-Ok-false-clause-refused : goal.returns-in-Ok-false-clause-refused
returns-in-Ok-false-clause-refused g c =
    block_missing (prepend_known c.args.piece.now (g.S.Source.left c.args.source.now)) c.args.most c.args.count
    (omega (arith, c.requires, c.if-count-eq-MAX_MESSAGES.false)) (rw c.in-Ok-false.field-0-test at c.in-Ok-false.ensures.end)

pub returns-in-Err-clause-refused : goal.returns-in-Err-clause-refused
returns-in-Err-clause-refused g c =
    let known = prepend_known c.args.piece.now (g.S.Source.left c.args.source.now) in
    subst (λ (e : FileError). Refuses (λ rest. RecordFault c.args.most c.args.count (1 ∷ 0 ∷ rest)) known e)
    (sym c.record_fault.ensures)
    (block_refused known c.args.most c.args.count c.in-Err.error c.in-Err.ensures.refused)
