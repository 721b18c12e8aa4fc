use Rattle.mold_session.proofs.RecordLawLemmas.{no_fault_of_3, one_journal_3, one_version_1, one_version_2}
use Rattle.mold_session.proofs.laws.one_file_law.Goals as goal

pub returns-clause-one_journal_3 : goal.returns-clause-one_journal_3
returns-clause-one_journal_3 c = one_journal_3

pub returns-clause-one_version_1 : goal.returns-clause-one_version_1
returns-clause-one_version_1 c = one_version_1

pub returns-clause-one_version_2 : goal.returns-clause-one_version_2
returns-clause-one_version_2 c = one_version_2

pub returns-clause-no_fault_3 : goal.returns-clause-no_fault_3
returns-clause-no_fault_3 c = no_fault_of_3
