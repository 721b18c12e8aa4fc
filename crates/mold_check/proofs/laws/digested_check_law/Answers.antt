use Rattle.mold_check.proofs.DigestLemmas.{digested_all, digested_status, digested_text, outcome_or_conflict}
use Rattle.mold_check.proofs.laws.digested_check_law.Goals as goal
use Rattle.mold_check.specs.CheckLines.{outcome_of}
use Rattle.mold_check.specs.DigestCheck.{digest_judging}
use Rattle.mold_check.specs.EachCheck.{each_judging}
use Rattle.mold_digest.specs.Digested.{digested_list}

pub returns-clause-text : goal.returns-clause-text
returns-clause-text c = digested_text

pub returns-clause-status : goal.returns-clause-status
returns-clause-status c = digested_status

pub returns-clause-outcome : goal.returns-clause-outcome
returns-clause-outcome c = λ key list fits digests.
    outcome_or_conflict (outcome_of (digested_list key list)) (outcome_of list) (c.outcome_law.ensures.one list)
    (c.lines_outcome_law.ensures.datagrams list fits)
    (c.digested_outcome_law.ensures.found key list (outcome_of (digested_list key list)) fits
    (c.lines_outcome_law.ensures.datagrams (digested_list key list) digests))

pub returns-clause-each : goal.returns-clause-each
returns-clause-each c = λ key list.
    digested_all (each_judging digest_judging) key (each_judging digest_judging).begins list
