use Rattle.mold_durable.proofs.FaultLemmas.{only_device}
use Rattle.mold_durable.proofs.laws.one_session_law.Goals as goal

pub returns-clause-no_fault : goal.returns-clause-no_fault
returns-clause-no_fault c = λ most session messages closed bytes error small spelled each fault.
    only_device most session messages closed bytes spelled
    (λ why found. c.one_file_law.ensures.no_fault_3 most session messages closed bytes why small spelled each found)
    error fault
