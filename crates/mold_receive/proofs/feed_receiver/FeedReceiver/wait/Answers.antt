use Rattle.std.proofs.Common.{ℕ, append-nil, sym, subst, ◌∙◌}
use Rattle.std.specs.Prelude.{None, false}
use Rattle.mold_repair.specs.Run.{HasWaited, delivers, nothing}
use Rattle.mold_repair.specs.declared.step.RepairStep.TheVariants.{Pass}
use Rattle.mold_receive.proofs.CallLemmas.{asked_one, called, poll_printed}
use Rattle.mold_receive.proofs.feed_receiver.FeedReceiver.wait.Goals as goal

pub returns-clause-asked : goal.returns-clause-asked
returns-clause-asked g c = λ lines servers.
    let old = c.args.self.now.repairer in
    let new = c.pass.new.repairer in
    let outgoing = c.args.self.now.outgoing in
    asked_one lines servers outgoing.format _ _ None false _ _ tt
    (called outgoing.format (Pass (g.D.PortSet.state c.args.self.now.ports).now) old new nothing
    (delivers old new None None) outgoing.text outgoing.text
    (subst (λ (t : ℕ). HasWaited old new t nothing (delivers old new None None)) c.now.ensures.value
    c.pass.ensures.waited)
    c.pass.ensures.options (poll_printed outgoing.format outgoing.text))
    (λ is. c.wait.ensures.given is ∙ sym (append-nil _)) (λ is. c.wait.ensures.sent is ∙ sym (append-nil _))
