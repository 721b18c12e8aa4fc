use Rattle.mold_words.proofs.NameLemmas.{taken-own}
use Rattle.mold_words.proofs.laws.own_command_law.Goals as goal

pub returns : goal.returns
returns c = taken-own
