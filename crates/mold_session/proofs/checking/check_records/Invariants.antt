use Rattle.std.proofs.Common.{length}
use Rattle.mold_session.specs.Checking.{HasCountedRecords}
use Rattle.mold_session.proofs.checking.check_records.Given as goal

-- The records before the remaining bytes were counted.
abbrev pub invariant-messages : goal.invariant-messages
invariant-messages l = HasCountedRecords l.fn.most l.count l.fn.bytes l.rest

abbrev pub decreases-messages : goal.decreases-messages
decreases-messages l = length l.rest
