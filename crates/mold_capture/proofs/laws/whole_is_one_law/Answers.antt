use Rattle.mold_capture.proofs.SumLemmas.{one_whole, whole_received, received_whole}
use Rattle.mold_capture.proofs.laws.whole_is_one_law.Goals as goal

pub returns-clause-one : goal.returns-clause-one
returns-clause-one c = one_whole c.reading_law.ensures.read

pub returns-clause-received : goal.returns-clause-received
returns-clause-received c = whole_received c.reading_law.ensures.read

pub returns-clause-whole : goal.returns-clause-whole
returns-clause-whole c = λ list count consistent. received_whole c.reading_law.ensures.read list consistent count
