use Rattle.mold_show.proofs.DumpLawLemmas.{dump_published}
use Rattle.mold_show.proofs.laws.dump_law.Goals as goal

pub returns : goal.returns
returns c = dump_published c.contents_law.ensures.one
