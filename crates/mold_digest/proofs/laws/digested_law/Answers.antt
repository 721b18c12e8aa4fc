use Rattle.mold_digest.proofs.DigestedLemmas.{digested_err, digested_spelled, length-digest}
use Rattle.mold_digest.specs.Digested.{digested, digested_packet}
use Rattle.mold_digest.proofs.laws.digested_law.Goals as goal

pub returns-clause-length : goal.returns-clause-length
returns-clause-length c = length-digest

pub returns-clause-spelled : goal.returns-clause-spelled
returns-clause-spelled c = digested_spelled c.reading_law.ensures.read

pub returns-clause-read : goal.returns-clause-read
returns-clause-read c key bytes packet fits is =
    c.reading_law.ensures.read (digested_packet key packet) (digested key bytes)
    (digested_spelled c.reading_law.ensures.read key bytes packet
    (c.reading_law.ensures.spelled packet bytes fits is))

pub returns-clause-fault : goal.returns-clause-fault
returns-clause-fault c = digested_err
