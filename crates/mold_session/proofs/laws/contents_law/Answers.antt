use Rattle.mold_session.proofs.ContentsLemmas.{one_contents}
use Rattle.mold_session.proofs.SomeContentsLemmas.{some_contents}
use Rattle.mold_session.proofs.laws.contents_law.Goals as goal

pub returns : goal.returns
returns c = record { some = some_contents; one = one_contents }
