use Rattle.mold_pcap.proofs.ClassicLemmas.{records_read}
use Rattle.mold_pcap.proofs.laws.classic_law.Goals as goal

pub returns : goal.returns
returns c = records_read
