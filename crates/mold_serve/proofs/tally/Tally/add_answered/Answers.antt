use Rattle.mold_turns.proofs.PrintingLemmas.{begins_with_more}
use Rattle.mold_serve.proofs.tally.Tally.add_answered.Goals as goal

pub returns-in_err-push_line-clause-prints : goal.returns-in_err-push_line-clause-prints
returns-in_err-push_line-clause-prints c =
    begins_with_more c.push_line.result _ _ _ c.push_line.ensures.line c.push_line.ensures.kept

pub returns-clause-prints : goal.returns-clause-prints
returns-clause-prints c =
    begins_with_more c.push_line.result _ _ _ c.push_line.ensures.line c.push_line.ensures.kept
