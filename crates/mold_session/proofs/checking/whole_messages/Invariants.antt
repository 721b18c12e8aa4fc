use Rattle.std.proofs.Common.{◌≤◌, length}
use Rattle.mold_session.specs.Checking.{HasPassed}
use Rattle.mold_session.proofs.checking.whole_messages.Given as goal

-- The messages before the remaining bytes were passed.
abbrev pub invariant-passed : goal.invariant-passed
invariant-passed g l = record {
  passed : HasPassed g.T.LengthTaker.takes l.fn.version l.fn.most l.count l.fn.bytes l.rest l.fn.taker l.taker;
  few : l.count ≤ l.fn.limit;
}

abbrev pub decreases-passed : goal.decreases-passed
decreases-passed g l = length l.rest
