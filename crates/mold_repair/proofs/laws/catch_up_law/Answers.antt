use Rattle.std.proofs.Common.{sym}
use Rattle.mold_repair.proofs.CatchUpLemmas.{brings_first, catches_up, caught_up}
use Rattle.mold_repair.proofs.laws.catch_up_law.Goals as goal

pub returns-clause-response : goal.returns-clause-response
returns-clause-response c old new step o is published closed limit honest takes low =
    brings_first (record {
      takes = c.honest_take_law.ensures;
      read = c.reading_law.ensures.read;
      taken = c.taken_law.ensures;
      through = c.through_law.ensures;
    }) limit old new step o is published closed honest takes low

pub returns-clause-fewer : goal.returns-clause-fewer
returns-clause-fewer c old new steps os limit ran well =
    catches_up (record {
      taken = c.taken_law.ensures;
      received = c.well_formed_law.ensures.received;
      gave_up = c.well_formed_law.ensures.skipped;
      keeps = c.having_law.ensures.received;
      keeps_skipped = c.having_law.ensures.skipped;
    }) limit old new steps os ran well

pub returns-clause-done : goal.returns-clause-done
returns-clause-done c old new steps os limit ran well enough =
    caught_up (record {
      taken = c.taken_law.ensures;
      received = c.well_formed_law.ensures.received;
      gave_up = c.well_formed_law.ensures.skipped;
      keeps = c.having_law.ensures.received;
      keeps_skipped = c.having_law.ensures.skipped;
    }) limit old new steps os ran well enough

pub returns-clause-known : goal.returns-clause-known
returns-clause-known c v well = sym (c.missing_law.ensures.lacking v well)
