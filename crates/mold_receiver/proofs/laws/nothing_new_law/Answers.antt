use Rattle.mold_receiver.proofs.HonestSkipLemmas.{skipped_had}
use Rattle.mold_receiver.proofs.LawLemmas.{handed_had, stored_had}
use Rattle.mold_receiver.proofs.laws.nothing_new_law.Goals as goal

pub returns-clause-handed : goal.returns-clause-handed
returns-clause-handed c = handed_had

pub returns-clause-stored : goal.returns-clause-stored
returns-clause-stored c = stored_had

pub returns-clause-skipped : goal.returns-clause-skipped
returns-clause-skipped c = skipped_had
