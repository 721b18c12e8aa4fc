use Rattle.mold_repair.proofs.ReadyLemmas.{given_up_asked}
use Rattle.mold_repair.proofs.laws.given_up_law.Goals as goal

pub returns : goal.returns
returns c = given_up_asked c.attempts_law.ensures
