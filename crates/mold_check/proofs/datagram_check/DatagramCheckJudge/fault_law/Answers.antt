use Rattle.mold_check.proofs.FaultLemmas.{datagram_fault}
use Rattle.mold_check.proofs.datagram_check.DatagramCheckJudge.fault_law.Goals as goal

pub returns : goal.returns
returns c = datagram_fault
