use Rattle.std.proofs.Common.{ap}
use Rattle.std.proofs.lemmas.Result.{on_ok_weaker}
use Rattle.mold_turns.specs.Outgoing.{OutgoingState}
use Rattle.mold_serve.specs.Tally.{with_outgoing}
use Rattle.mold_follow.proofs.serving.push_served.Goals as goal

pub returns-clause-line : goal.returns-clause-line
returns-clause-line c =
    on_ok_weaker c.push_line.result
    (λ added. ap (λ (outgoing : OutgoingState). with_outgoing outgoing c.args.tally.now) added)
    (rw c.failures.ensures at c.push_line.ensures.line)
