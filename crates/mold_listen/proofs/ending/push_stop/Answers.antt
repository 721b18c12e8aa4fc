use Rattle.std.proofs.Common.{ap}
use Rattle.std.proofs.lemmas.Result.{on_ok_weaker}
use Rattle.mold_turns.specs.Outgoing.{OutgoingState}
use Rattle.mold_turns.proofs.PrintingLemmas.{begins_pushed}
use Rattle.mold_listen.proofs.ending.push_stop.Goals as goal

pub returns-clause-prints : goal.returns-clause-prints
returns-clause-prints c =
    begins_pushed c.push_note.result _ _ _
    (on_ok_weaker c.push_note.result (λ is. ap (λ (o : OutgoingState). o.text) is) c.push_note.ensures.note)
    c.push_note.ensures.kept
