use Rattle.std.proofs.Common.{length}
use Rattle.mold_session.specs.Checking.{HasCounted}
use Rattle.mold_session.proofs.checking.count_messages.Given as goal

-- The blocks before the remaining bytes were counted.
abbrev pub invariant-messages : goal.invariant-messages
invariant-messages l = HasCounted l.fn.most l.count l.fn.bytes l.rest

abbrev pub decreases-messages : goal.decreases-messages
decreases-messages l = length l.rest
