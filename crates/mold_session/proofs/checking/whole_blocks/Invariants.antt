use Rattle.std.proofs.Common.{◌≤◌, length}
use Rattle.mold_session.specs.Checking.{HasCounted}
use Rattle.mold_wire.specs.declared.block.TheConstants.{MAX_MESSAGE}
use Rattle.mold_session.proofs.checking.whole_blocks.Given as goal

-- The blocks before the remaining bytes were counted.
abbrev pub invariant-counted : goal.invariant-counted
invariant-counted l = record {
  counted : HasCounted MAX_MESSAGE l.count l.fn.bytes l.rest;
  few : l.count ≤ l.fn.limit;
}

abbrev pub decreases-counted : goal.decreases-counted
decreases-counted l = length l.rest
