use Rattle.mold_wire.proofs.ReadingLemmas.{reading-spelled, reading-fault}
use Rattle.mold_wire.proofs.RequestLemmas.{request_reading-spelled, request_reading-fault}
use Rattle.mold_wire.proofs.MeaningLemmas.{read_is_spelled, refused_is_fault}
use Rattle.mold_wire.proofs.MeaningLemmas.{request_read_is_spelled, request_refused_is_fault}
use Rattle.mold_wire.proofs.laws.reading_law.Goals as goal

pub returns-clause-read : goal.returns-clause-read
returns-clause-read c packet bytes spells = reading-spelled packet bytes spells

pub returns-clause-spelled : goal.returns-clause-spelled
returns-clause-spelled c packet bytes fits read = read_is_spelled packet bytes fits read

pub returns-clause-fault : goal.returns-clause-fault
returns-clause-fault c error bytes fits = (
  λ read. refused_is_fault error bytes fits read,
  λ fault. reading-fault error bytes fits fault,
)

pub returns-clause-request_read : goal.returns-clause-request_read
returns-clause-request_read c request bytes spells = request_reading-spelled request bytes spells

pub returns-clause-request_spelled : goal.returns-clause-request_spelled
returns-clause-request_spelled c request bytes fits read = request_read_is_spelled request bytes fits read

pub returns-clause-request_fault : goal.returns-clause-request_fault
returns-clause-request_fault c error bytes = (
  λ read. request_refused_is_fault error bytes read,
  λ fault. request_reading-fault error bytes fault,
)
