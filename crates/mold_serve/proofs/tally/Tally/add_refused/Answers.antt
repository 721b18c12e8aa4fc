use Rattle.mold_turns.proofs.PrintingLemmas.{begins_with_more}
use Rattle.mold_serve.proofs.tally.Tally.add_refused.Goals as goal

pub returns-in_err-push_request_refused-clause-prints : goal.returns-in_err-push_request_refused-clause-prints
returns-in_err-push_request_refused-clause-prints c =
    begins_with_more c.push_request_refused.result _ _ _ c.push_request_refused.ensures.text c.push_request_refused.ensures.kept

pub returns-clause-prints : goal.returns-clause-prints
returns-clause-prints c =
    begins_with_more c.push_request_refused.result _ _ _ c.push_request_refused.ensures.text c.push_request_refused.ensures.kept
