use Rattle.mold_repair.proofs.FrugalLemmas.{is_frugal, run_room}
use Rattle.mold_repair.proofs.laws.frugal_law.Goals as goal

pub returns-clause-frugal : goal.returns-clause-frugal
returns-clause-frugal c old new steps os ran well empty room =
    is_frugal (record {
      receiver = record {
        taken = c.taken_law.ensures;
        received = c.well_formed_law.ensures.received;
        gave_up = c.well_formed_law.ensures.skipped;
        keeps = c.having_law.ensures.received;
        keeps_skipped = c.having_law.ensures.skipped;
      };
      came = c.having_law.ensures.came;
    }) c.frugal_law.ensures old new steps os ran well empty room

pub returns-clause-room : goal.returns-clause-room
returns-clause-room c =
    run_room (record {
      taken = c.taken_law.ensures;
      received = c.well_formed_law.ensures.received;
      gave_up = c.well_formed_law.ensures.skipped;
      keeps = c.having_law.ensures.received;
      keeps_skipped = c.having_law.ensures.skipped;
    }) c.room_law.ensures.whole
