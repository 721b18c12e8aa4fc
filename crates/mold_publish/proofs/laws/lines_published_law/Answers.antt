use Rattle.mold_devices.specs.Lines.{lines_of}
use Rattle.mold_publish.proofs.PublishingLemmas.{lines_same}
use Rattle.mold_publish.proofs.laws.lines_published_law.Goals as goal

pub returns-clause-lines : goal.returns-clause-lines
returns-clause-lines c = lines_same

pub returns-clause-input : goal.returns-clause-input
returns-clause-input c journal input = lines_same journal (lines_of input)
