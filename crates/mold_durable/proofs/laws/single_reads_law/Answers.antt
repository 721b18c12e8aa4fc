use Rattle.mold_durable.proofs.StepwiseLemmas.{few_told, stepwise_writes, whole_read}
use Rattle.mold_durable.proofs.laws.single_reads_law.Goals as goal

pub returns-clause-writes : goal.returns-clause-writes
returns-clause-writes c = λ session messages named listed. stepwise_writes session messages named listed

pub returns-clause-alike : goal.returns-clause-alike
returns-clause-alike c = λ session messages moment one two at count buffer named within reads.
    whole_read session messages named moment within one two at count buffer reads

pub returns-clause-few : goal.returns-clause-few
returns-clause-few c = λ session messages told moment front. few_told moment messages told front
