use Rattle.std.proofs.Common.{ap}
use Rattle.std.proofs.lemmas.Result.{on_ok_weaker}
use Rattle.mold_turns.specs.Outgoing.{OutgoingState}
use Rattle.mold_turns.proofs.PrintingLemmas.{begins_pushed}
use Rattle.mold_receiver.specs.Origin.{line_of}
use Rattle.mold_listen.proofs.ListenLemmas.{taken_ok}
use Rattle.mold_listen.proofs.printer.Printer.take.Goals as goal

pub returns-in-Ok-clause-taken : goal.returns-in-Ok-clause-taken
returns-in-Ok-clause-taken c =
    on_ok_weaker c.print_handed.result
    (λ written.
    taken_ok (line_of c.args.origin) c.args.bytes.now c.args.arbiter.now c.take_from.new.self c.clear.new.self c.take_from.new.batch
    c.in-Ok.field-0 c.args.self.now.outgoing c.print_handed.new.outgoing c.clear.ensures c.in-Ok.ensures.taken written)
    c.print_handed.ensures.text

pub returns-in-Ok-clause-prints : goal.returns-in-Ok-clause-prints
returns-in-Ok-clause-prints c =
    begins_pushed c.print_handed.result _ _ _
    (on_ok_weaker c.print_handed.result (λ is. ap (λ (o : OutgoingState). o.text) is) c.print_handed.ensures.text)
    c.print_handed.ensures.kept

pub returns-in-Err-clause-prints : goal.returns-in-Err-clause-prints
returns-in-Err-clause-prints c =
    begins_pushed c.print_refused.result _ _ _
    (on_ok_weaker c.print_refused.result (λ is. ap (λ (o : OutgoingState). o.text) is) c.print_refused.ensures.text)
    c.print_refused.ensures.kept
