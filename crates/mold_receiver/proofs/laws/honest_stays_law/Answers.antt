use Rattle.std.proofs.Common.{None}
use Rattle.mold_receiver.proofs.HonestLemmas.{honest_published, honest_closed, honest_fresh}
use Rattle.mold_receiver.proofs.laws.honest_stays_law.Goals as goal

pub returns-clause-published : goal.returns-clause-published
returns-clause-published c v published message honest = honest_published v published message honest

pub returns-clause-closed : goal.returns-clause-closed
returns-clause-closed c v published honest = honest_closed v published honest

pub returns-clause-fresh : goal.returns-clause-fresh
returns-clause-fresh c session next window published closed first ahead few =
    honest_fresh None session next window published closed tt first ahead few

pub returns-clause-within : goal.returns-clause-within
returns-clause-within c = honest_fresh
