use Rattle.mold_pcap.proofs.CutLemmas.{cut_first}
use Rattle.mold_pcap.proofs.laws.cut_law.Goals as goal

pub returns : goal.returns
returns c = cut_first
