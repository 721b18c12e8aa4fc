use Rattle.mold_wiring.proofs.RateLemmas.{least, one}
use Rattle.mold_wiring.proofs.laws.request_rate_law.Goals as goal

pub returns-clause-least : goal.returns-clause-least
returns-clause-least c = least

pub returns-clause-one : goal.returns-clause-one
returns-clause-one c = one
