use Rattle.mold_repair.proofs.NeededLemmas.{are_needed}
use Rattle.mold_repair.proofs.laws.needed_law.Goals as goal

pub returns : goal.returns
returns c old new steps os ran well none =
    are_needed (record {
      once = record {
        receiver = record {
          taken = c.taken_law.ensures;
          received = c.well_formed_law.ensures.received;
          gave_up = c.well_formed_law.ensures.skipped;
          keeps = c.having_law.ensures.received;
          keeps_skipped = c.having_law.ensures.skipped;
        };
        came = c.having_law.ensures.came;
      };
      dropped = c.room_law.ensures.dropped;
      handed = c.nothing_new_law.ensures.handed;
      stored = c.nothing_new_law.ensures.stored;
      skips = c.nothing_new_law.ensures.skipped;
    }) old new steps os ran well none
