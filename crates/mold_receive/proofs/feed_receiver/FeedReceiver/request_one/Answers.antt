use Rattle.std.proofs.Common.{◌≡◌, ℕ, append-nil, sym, refl, subst, ◌∙◌}
use Rattle.std.proofs.lemmas.Option.{slice_get_past, slice_get_read}
use Rattle.std.specs.Prelude.{None, false, is_err}
use Rattle.mold_repair.specs.Run.{HasPolledOnce, delivers, nothing}
use Rattle.mold_repair.specs.declared.step.RepairStep.TheVariants.{Poll}
use Rattle.mold_receive.proofs.CallLemmas.{asked_one, called, poll_printed, sent_none, sent_nowhere, sent_to}
use Rattle.mold_receive.proofs.feed_receiver.FeedReceiver.request_one.Goals as goal

pub returns-in_default-clause-asked : goal.returns-in_default-clause-asked
returns-in_default-clause-asked g c =
    let old = c.args.self.now.repairer in
    let new = c.poll.new.repairer in
    let outgoing = c.args.self.now.outgoing in
    asked_one _ _ outgoing.format _ _ c.poll.result false _ _ tt
    (called outgoing.format (Poll (g.D.PortSet.state c.args.self.now.ports).now) old new nothing
    (delivers old new c.poll.result None) outgoing.text outgoing.text
    (subst (λ (t : ℕ). HasPolledOnce old new t nothing (delivers old new c.poll.result None)) c.now.ensures.value
    c.poll.ensures.polled)
    c.poll.ensures.options (poll_printed outgoing.format outgoing.text))
    (λ is. sym (append-nil _)) (λ is. sent_none _ _ _ c.poll.result c.in_default.is)

pub returns-in_default-get-clause-asked : goal.returns-in_default-get-clause-asked
returns-in_default-get-clause-asked g c =
    let old = c.args.self.now.repairer in
    let new = c.poll.new.repairer in
    let outgoing = c.args.self.now.outgoing in
    let servers = c.args.options.now.servers.items in
    let items : c.deref.result.now ≡ servers = c.deref.ensures.value in
    let past = rw items at c.in_default-get.ensures.lookup.3 in
    asked_one _ _ outgoing.format _ _ c.poll.result false _ _ tt
    (called outgoing.format (Poll (g.D.PortSet.state c.args.self.now.ports).now) old new nothing
    (delivers old new c.poll.result None) outgoing.text outgoing.text
    (subst (λ (t : ℕ). HasPolledOnce old new t nothing (delivers old new c.poll.result None)) c.now.ensures.value
    c.poll.ensures.polled)
    c.poll.ensures.options (poll_printed outgoing.format outgoing.text))
    (λ is. sym (append-nil _))
    (λ is.
    sent_nowhere _ _ servers c.poll.result c.in-Some.ask c.in-Some.is
    (slice_get_past servers c.in-Some.ask.server past))

pub returns-in-Some-get-clause-asked : goal.returns-in-Some-get-clause-asked
returns-in-Some-get-clause-asked g c =
    let old = c.args.self.now.repairer in
    let new = c.poll.new.repairer in
    let outgoing = c.args.self.now.outgoing in
    let servers = c.args.options.now.servers.items in
    let items : c.deref.result.now ≡ servers = c.deref.ensures.value in
    let here = slice_get_read servers _ c.in-Some.ask.server c.in-Some-get.server.now refl
    (rw items at c.in-Some-get.ensures.lookup.3.0) (rw items at c.in-Some-get.ensures.lookup.1)
    in
    asked_one _ _ outgoing.format _ _ c.poll.result (is_err c.send.result) _ _ tt
    (called outgoing.format (Poll (g.D.PortSet.state c.args.self.now.ports).now) old new nothing
    (delivers old new c.poll.result None) outgoing.text outgoing.text
    (subst (λ (t : ℕ). HasPolledOnce old new t nothing (delivers old new c.poll.result None)) c.now.ensures.value
    c.poll.ensures.polled)
    c.poll.ensures.options (poll_printed outgoing.format outgoing.text))
    (λ is. c.send.ensures.given is ∙ sym (append-nil _))
    (λ is.
    sent_to _ _ (is_err c.send.result) _ servers c.poll.result c.in-Some.ask c.in-Some-get.server.now _ _
    (c.send.ensures.sent is) c.in-Some.is here refl c.encode.ensures.spelled)
