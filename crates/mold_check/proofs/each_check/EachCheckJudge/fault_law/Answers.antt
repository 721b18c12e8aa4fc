use Rattle.mold_check.proofs.FaultLemmas.{each_fault}
use Rattle.mold_check.proofs.each_check.EachCheckJudge.fault_law.Goals as goal

pub returns : goal.returns
returns g c = each_fault g.J.Judge.judging c.fault_law.ensures
