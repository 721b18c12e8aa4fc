use Rattle.mold_check.proofs.FaultLemmas.{digested_fault}
use Rattle.mold_check.proofs.digested.DigestedJudge.fault_law.Goals as goal

pub returns : goal.returns
returns g c = digested_fault g.J.Judge.judging c.fault_law.ensures
