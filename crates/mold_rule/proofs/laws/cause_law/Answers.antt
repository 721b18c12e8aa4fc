use Rattle.mold_rule.proofs.RefusalLemmas.{never_memory}
use Rattle.mold_rule.proofs.laws.cause_law.Goals as goal

pub returns : goal.returns
returns c = never_memory
