use Rattle.mold_check.proofs.DigitLemmas.{spelled_bytes}
use Rattle.mold_check.proofs.LawLemmas.{outcome_is}
use Rattle.mold_check.proofs.laws.lines_outcome_law.Goals as goal
use Rattle.mold_check.specs.CheckLines.{datagrams_of}

pub returns-clause-datagrams : goal.returns-clause-datagrams
returns-clause-datagrams c =
    outcome_is (record {
      none = c.reason_law.ensures.none;
      accepted = c.reason_law.ensures.accepted;
      refused = c.reason_law.ensures.refused;
      after = c.after_law.ensures;
      received = c.whole_is_one_law.ensures.received;
      whole = c.whole_is_one_law.ensures.whole;
      lacking = c.lacking_law.ensures.none;
    })

pub returns-clause-lines : goal.returns-clause-lines
returns-clause-lines c = λ lines.
    outcome_is (record {
      none = c.reason_law.ensures.none;
      accepted = c.reason_law.ensures.accepted;
      refused = c.reason_law.ensures.refused;
      after = c.after_law.ensures;
      received = c.whole_is_one_law.ensures.received;
      whole = c.whole_is_one_law.ensures.whole;
      lacking = c.lacking_law.ensures.none;
    }) (datagrams_of lines) (spelled_bytes lines)
