use Rattle.std.proofs.Common.{List, append-nil, refl, subst, sym, ◌∙◌, ℕ}
use Rattle.std.specs.Prelude.{None}
use Rattle.mold_devices.specs.Devices.{AppendsPrefix}
use Rattle.mold_devices.proofs.WritingLemmas.{ends_front}
use Rattle.mold_repair.specs.Run.{delivers}
use Rattle.mold_repair.specs.declared.step.RepairStep.TheVariants.{Take}
use Rattle.mold_turns.proofs.PrintingLemmas.{former_text}
use Rattle.mold_turns.proofs.RunLemmas.{begins_whole}
use Rattle.mold_receive.proofs.CallLemmas.{printed_batch, printed_fault}
use Rattle.mold_receive.proofs.feed_receiver.FeedReceiver.take.Goals as goal

pub returns-in_default-clause-called : goal.returns-in_default-clause-called
returns-in_default-clause-called g c =
    let old = c.args.self.now in
    let new = c.deliver.new.self in
    printed_fault old.outgoing.format (Take (g.D.PortSet.state old.ports).now c.args.origin c.args.datagram)
    old.repairer new.repairer new.batch (delivers old.repairer new.repairer None None) old.outgoing.text _ _ _ _ _
    (c.deliver.ensures.taken, refl) c.deliver.ensures.options
    (subst (λ (t : List ℕ). AppendsPrefix (g.K.Sink.held c.args.sink.now) (g.K.Sink.held c.end_with.new.sink) t)
    (former_text new.outgoing.text _ _ (begins_whole _) c.unwritten-len.ensures ∙ c.deliver.ensures.text)
    (ends_front c.end_with.ensures.ends))
    c.requires.going

pub returns-clause-called : goal.returns-clause-called
returns-clause-called g c =
    let old = c.args.self.now in
    let new = c.deliver.new.self in
    printed_batch old.outgoing.format new.outgoing.format
    (Take (g.D.PortSet.state old.ports).now c.args.origin c.args.datagram) old.repairer new.repairer new.batch
    (delivers old.repairer new.repairer None None) old.outgoing.text new.outgoing.text _ _ _ _ _
    (c.deliver.ensures.taken, refl) c.deliver.ensures.options
    (c.deliver.ensures.text ∙ sym (append-nil old.outgoing.text)) c.deliver.ensures.format c.print_batch.ensures.moved
    c.print_batch.ensures.full c.print_batch.ensures.front c.print_batch.ensures.cut
