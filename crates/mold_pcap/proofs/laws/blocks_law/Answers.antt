use Rattle.mold_pcap.proofs.BlockLemmas.{blocks_read}
use Rattle.mold_pcap.proofs.laws.blocks_law.Goals as goal

pub returns : goal.returns
returns c = blocks_read
