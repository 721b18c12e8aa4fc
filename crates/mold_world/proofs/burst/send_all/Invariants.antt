use Rattle.std.proofs.Common.{length}
use Rattle.mold_session.specs.Answer.{planned}
use Rattle.mold_world.proofs.BurstLemmas.{Goes, SentSoFar}
use Rattle.mold_world.proofs.burst.send_all.Given as goal

-- A part of the plan is sent, and the rest remains.
abbrev pub invariant-loop : goal.invariant-loop
invariant-loop l = Goes l.fn.server l.server l.fn.plan l.plan
    × SentSoFar l.fn.sent.messages (planned l.fn.journal.messages l.fn.server.limit l.fn.plan) l.sent.messages
    (planned l.fn.journal.messages l.fn.server.limit l.plan)

abbrev pub decreases-loop : goal.decreases-loop
decreases-loop l = length (planned l.fn.journal.messages l.fn.server.limit l.plan)
