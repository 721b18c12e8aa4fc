use Rattle.std.proofs.Common.{◌∙◌, None, Some, ap, refl, sym}
use Rattle.mold_receiver.specs.Arbiter.{Arbitration}
use Rattle.mold_receiver.specs.View.{View}
use Rattle.mold_repair.specs.Polls.{ask_of}
use Rattle.mold_wire.specs.declared.session.Session.{Session}
use Rattle.mold_repair.proofs.PollLemmas.{polled_none, polled_some, returned_some}
use Rattle.mold_repair.proofs.TakingLemmas.{advanced_by}
use Rattle.mold_repair.proofs.repairer.Repairer.poll.Goals as goal

pub returns-then-self-eq0-clause-polled : goal.returns-then-self-eq0-clause-polled
returns-then-self-eq0-clause-polled c =
    let old = c.args.self.now in
    let known = c.known.ensures ∙ ap (λ (v : View). v.known) c.receiver.ensures in
    let took = advanced_by c.args.now c.known.result old.arbiter.view old.pacer c.advance.new.self known
    c.advance.ensures.options c.advance.ensures.state c.advance.ensures.flights in
    polled_none old.options old.arbiter.view old.pacer c.advance.new.self c.send_all.new.self.pacer c.args.now
    None took c.if-self-eq0.true refl c.send_all.ensures.sent

pub returns-in_err-sent-clause-polled : goal.returns-in_err-sent-clause-polled
returns-in_err-sent-clause-polled c =
    let old = c.args.self.now in
    let known = c.known.ensures ∙ ap (λ (v : View). v.known) c.receiver.ensures in
    let took = advanced_by c.args.now c.known.result old.arbiter.view old.pacer c.advance.new.self known
    c.advance.ensures.options c.advance.ensures.state c.advance.ensures.flights in
    polled_some old.options old.arbiter.view old.pacer c.advance.new.self c.send.new.self.pacer c.args.now
    c.from_residual.result None took c.if-self-eq0.false c.in_err-sent.ensures.sent c.from_residual.ensures

pub returns-clause-polled : goal.returns-clause-polled
returns-clause-polled c =
    let old = c.args.self.now in
    let known = c.known.ensures ∙ ap (λ (v : View). v.known) c.receiver.ensures in
    let took = advanced_by c.args.now c.known.result old.arbiter.view old.pacer c.advance.new.self known
    c.advance.ensures.options c.advance.ensures.state c.advance.ensures.flights in
    polled_some old.options old.arbiter.view old.pacer c.advance.new.self c.send.new.self.pacer c.args.now
    _ (Some c.in_ok-sent.sent) took c.if-self-eq0.false c.in_ok-sent.ensures.sent
    (ap (λ (s : Session). Some (ask_of s c.in_ok-sent.sent)) (c.session.ensures ∙ ap (λ (v : View). v.session) c.receiver-2.ensures
    ∙ ap (λ (a : Arbitration). a.view.session) c.send.ensures.arbiter)
    ∙ sym (returned_some old.arbiter.view.session old.options.servers c.in_ok-sent.sent c.if-self-eq0.false))
