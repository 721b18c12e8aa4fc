use Rattle.std.proofs.Common.{◌≡◌, ◌<◌, ◌^◌, ◌-◌, false}
use Rattle.mold_durable.specs.MessageTaker.{HasTaken}
use Rattle.mold_durable.specs.Reading.{HasRead}
use Rattle.mold_durable.specs.Storage.{OnlyReads}
use Rattle.mold_durable.proofs.recovery.read_records.Given as goal

-- The records before offset `end` were read, and their messages were taken.
abbrev pub invariant-pieces : goal.invariant-pieces
invariant-pieces g l = record {
  read : OnlyReads g.S.Storage.shows g.S.Storage.may_leave g.S.Storage.moment g.S.Storage.left_since l.fn.storage l.storage;
  found : HasRead (g.S.Storage.shows l.fn.storage) (HasTaken g.T.MessageTaker.holds false l.fn.taker l.taker) l.most
      l.count l.end;
  near : l.end < 2 ^ 63;
  failures : g.S.Storage.failed l.storage ≡ g.S.Storage.failed l.fn.storage;
}

abbrev pub decreases-pieces : goal.decreases-pieces
decreases-pieces g l = 9223372036854775808 - l.end
