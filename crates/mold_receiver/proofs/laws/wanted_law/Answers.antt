use Rattle.mold_receiver.proofs.LawLemmas.{gap_is, wanted_is, wanted_none}
use Rattle.mold_receiver.proofs.laws.wanted_law.Goals as goal

pub returns-clause-asks : goal.returns-clause-asks
returns-clause-asks c = wanted_is

pub returns-clause-gap : goal.returns-clause-gap
returns-clause-gap c = gap_is

pub returns-clause-none : goal.returns-clause-none
returns-clause-none c = wanted_none
