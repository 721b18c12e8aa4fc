use Rattle.mold_check.proofs.FaultLemmas.{digest_fault}
use Rattle.mold_check.proofs.digest_check.DigestCheckJudge.fault_law.Goals as goal

pub returns : goal.returns
returns c = digest_fault
