use Rattle.std.proofs.Common.{length}
use Rattle.mold_rounds.proofs.StartLemmas.{IsRounding}
use Rattle.mold_rounds.proofs.rounding.take_round.Given as goal
use Rattle.mold_session.specs.Answer.{planned}

abbrev pub invariant-loop : goal.invariant-loop
invariant-loop l =
    IsRounding l.fn.receiver l.fn.batch l.journal l.fn.server l.receiver l.batch l.plan l.server

abbrev pub decreases-loop : goal.decreases-loop
decreases-loop l = length (planned l.journal.messages l.fn.server.limit l.plan)
