use Rattle.std.proofs.Common.{[]}
use Rattle.std.proofs.lemmas.Result.{err_from_is_err_and}
use Rattle.std.specs.Prelude.{Some}
use Rattle.mold_session.specs.Contents.{Gives}
use Rattle.mold_session.specs.Loading.{Refuses}
use Rattle.mold_session.proofs.FileLemmas.{passed_on, from_start}
use Rattle.mold_session.proofs.ReaderLemmas.{head_refused}
use Rattle.mold_session.proofs.reader.JournalReader.new.Goals as goal

pub returns-in_err-head-clause-refused : goal.returns-in_err-head-clause-refused
returns-in_err-head-clause-refused g c =
    let known = g.S.Source.left c.args.source.now in
    passed_on c.from_residual.result c.in_err-head.field-0.0 (Refuses (λ bytes why. Gives bytes [] (Some why)) known)
    (err_from_is_err_and c.from_residual.result c.from_residual.ensures.1)
    (head_refused known c.in_err-head.field-0.0 c.in_err-head.ensures.headed
    (from_start known c.new-piece.result 65535 c.in_err-head.field-0.0 c.new-piece.ensures
    (c.in_err-head.ensures.refused 65535)))
