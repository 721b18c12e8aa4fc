use Rattle.std.proofs.Common.{◌+◌, ◌-◌, ◌≤◌, false, length}
use Rattle.mold_durable.specs.MessageTaker.{HasTaken}
use Rattle.mold_durable.specs.Reading.{AreSkipped}
use Rattle.mold_durable.proofs.records.skip_records.Given as goal

-- The records before offset `at` were read, and their messages were taken. Each record has a byte or more.
abbrev pub invariant-records : goal.invariant-records
invariant-records g l =
    AreSkipped (HasTaken g.T.MessageTaker.holds false l.fn.taker l.taker) l.most l.start l.count l.at l.bytes
    × (l.count ≤ l.start + l.at)

abbrev pub decreases-records : goal.decreases-records
decreases-records g l = length l.bytes - l.at
