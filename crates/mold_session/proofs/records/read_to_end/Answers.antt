use Rattle.mold_session.proofs.RecordReadingLemmas.{end_behind}
use Rattle.mold_session.proofs.records.read_to_end.Goals as goal

pub returns-clause-spent : goal.returns-clause-spent
returns-clause-spent g c =
    end_behind c.has_more.new.piece (g.S.Source.left c.has_more.new.source)
    (rw c.if-branch.false at c.in_ok-has_more.ensures.end)
