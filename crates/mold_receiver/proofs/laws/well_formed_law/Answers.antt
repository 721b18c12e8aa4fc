use Rattle.mold_receiver.proofs.HonestSkipLemmas.{skips_well}
use Rattle.mold_receiver.proofs.WellLemmas.{receives_well}
use Rattle.mold_receiver.proofs.laws.well_formed_law.Goals as goal

pub returns-clause-received : goal.returns-clause-received
returns-clause-received c = receives_well

pub returns-clause-skipped : goal.returns-clause-skipped
returns-clause-skipped c = skips_well
