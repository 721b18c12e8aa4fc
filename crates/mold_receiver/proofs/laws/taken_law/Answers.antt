use Rattle.mold_receiver.proofs.LawLemmas.{is_taken}
use Rattle.mold_receiver.proofs.laws.taken_law.Goals as goal

pub returns : goal.returns
returns c v bytes r is = is_taken v bytes r is
