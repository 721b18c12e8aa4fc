use Rattle.std.proofs.Common.{ap}
use Rattle.std.proofs.lemmas.Result.{on_ok_weaker}
use Rattle.mold_turns.proofs.PrintingLemmas.{begins_with_more}
use Rattle.mold_turns.specs.Outgoing.{OutgoingState}
use Rattle.mold_serve.specs.Tally.{with_outgoing}
use Rattle.mold_serve.proofs.tally.Tally.push_last.Goals as goal

pub returns-clause-line : goal.returns-clause-line
returns-clause-line c =
    on_ok_weaker c.push_line.result
    (λ added. ap (λ (outgoing : OutgoingState). with_outgoing outgoing c.args.self.now) added)
    (rw c.failures.ensures at c.push_line.ensures.line)

pub returns-clause-prints : goal.returns-clause-prints
returns-clause-prints c =
    begins_with_more c.push_line.result _ _ _ c.push_line.ensures.line c.push_line.ensures.kept
