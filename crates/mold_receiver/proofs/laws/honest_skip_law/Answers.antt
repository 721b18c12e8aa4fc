use Rattle.mold_receiver.proofs.HonestSkipLemmas.{skips_honestly}
use Rattle.mold_receiver.proofs.laws.honest_skip_law.Goals as goal

pub returns : goal.returns
returns c v to published closed honest ahead within = skips_honestly v to published closed honest ahead within
