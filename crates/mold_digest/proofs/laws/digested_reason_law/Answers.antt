use Rattle.mold_capture.specs.Refusal.{reason}
use Rattle.mold_digest.specs.Digested.{digested, digested_list}
use Rattle.mold_digest.proofs.ReasonLemmas.{conflict_back, reason_alike}
use Rattle.mold_digest.proofs.laws.digested_reason_law.Goals as goal

pub returns-clause-other : goal.returns-clause-other
returns-clause-other c key bytes list why fits fit plain =
    let alike = reason_alike c.reading_law.ensures.read c.reading_law.ensures.spelled key list bytes fits fit in
    (alike.same why plain, alike.back why plain)

pub returns-clause-none : goal.returns-clause-none
returns-clause-none c key bytes list fits fit =
    (reason_alike c.reading_law.ensures.read c.reading_law.ensures.spelled key list bytes fits fit).none

pub returns-clause-conflict : goal.returns-clause-conflict
returns-clause-conflict c key bytes list number fits fit =
    conflict_back (reason list bytes) (reason (digested_list key list) (digested key bytes))
    (reason_alike c.reading_law.ensures.read c.reading_law.ensures.spelled key list bytes fits fit) number
