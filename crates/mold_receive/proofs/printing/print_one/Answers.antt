use Rattle.std.proofs.Common.{List, ap, ℕ, ◌∙◌, subst}
use Rattle.std.specs.Prelude.{take}
use Rattle.mold_devices.specs.Devices.{AppendsPrefix}
use Rattle.mold_devices.proofs.WritingLemmas.{ends_front}
use Rattle.mold_turns.specs.Outgoing.{OutgoingState}
use Rattle.mold_receive.proofs.PrintingLemmas.{front_before, moves_none}
use Rattle.mold_receive.proofs.printing.print_one.Goals as goal

pub returns-in_default-clause-front : goal.returns-in_default-clause-front
returns-in_default-clause-front g c =
    front_before _ _ _ _
    (subst (λ (t : List ℕ). AppendsPrefix (g.K.Sink.held c.args.sink.now) (g.K.Sink.held c.end_with.new.sink) t)
    (ap (λ (n : ℕ). take n c.print_message.new.outgoing.text) c.unwritten-before.ensures
    ∙ c.in_default.ensures.kept)
    (ends_front c.end_with.ensures.ends))

pub returns-then-unwritten-lt-LARGE-clause-moved : goal.returns-then-unwritten-lt-LARGE-clause-moved
returns-then-unwritten-lt-LARGE-clause-moved g c =
    moves_none _ _ _ (ap (λ (o : OutgoingState). o.text) c.in-Ok.ensures.text)
