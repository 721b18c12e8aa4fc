use Rattle.std.proofs.Common.{◌≡◌, ◌∙◌, ap, inl, inr, refl, Some}
use Rattle.std.specs.Borrow.{MutBor}
use Rattle.mold_receiver.specs.declared.line.Line.TheVariants.{B}
use Rattle.mold_listen.specs.Listening.{progress, with_next_receipt, after_lines, listener, state}
use Rattle.mold_turns.proofs.OutgoingLemmas.{keeps_both}
use Rattle.mold_turns.proofs.RunLemmas.{begins_trans}
use Rattle.mold_listen.proofs.TurnLemmas.{has_turned, turned_cut}
use Rattle.mold_listen.proofs.feed_listener.FeedListener.take_turn.Goals as goal

pub returns-in_err-receive_on-clause-turned : goal.returns-in_err-receive_on-clause-turned
returns-in_err-receive_on-clause-turned g c = λ t.
    turned_cut c.args.server c.args.burst c.from_residual.result (state g.D.Datagrams.port c.args.self.now)
    (listener (g.D.Datagrams.port c.receive_on.new.port) (g.D.Datagrams.port c.args.self.now.b.now)
    (g.D.Datagrams.port c.args.self.now.requests.now) c.receive_on.new.arbiter c.receive_on.new.printer.outgoing)
    c.from_residual.ensures.0 refl

pub returns-in_err-receive_on-2-clause-turned : goal.returns-in_err-receive_on-2-clause-turned
returns-in_err-receive_on-2-clause-turned g c = λ t.
    turned_cut c.args.server c.args.burst c.from_residual-in_err-receive_on-2.result
    (state g.D.Datagrams.port c.args.self.now)
    (listener (g.D.Datagrams.port c.receive_on.new.port) (g.D.Datagrams.port c.receive_on-2.new.port)
    (g.D.Datagrams.port c.args.self.now.requests.now) c.receive_on-2.new.arbiter c.receive_on-2.new.printer.outgoing)
    c.from_residual-in_err-receive_on-2.ensures.0 refl

pub returns-clause-turned : goal.returns-clause-turned
returns-clause-turned g c = λ t.
    let before = state g.D.Datagrams.port c.args.self.now in
    let after = state g.D.Datagrams.port c.ask.new.self in
    let mid = progress c.receive_on-2.new.arbiter c.receive_on-2.new.printer.outgoing in
    let is_mid : mid ≡ after_lines before =
    c.in_ok-receive_on-2.ensures.received t ∙ ap (with_next_receipt (Some B) before.b) (c.in_ok-receive_on.ensures.received t) in
    has_turned c.args.server c.args.burst c.ask.result before after mid is_mid
    (ap (λ (p : MutBor _). g.D.Datagrams.port p.now) c.ask.ensures.a ∙ c.receive_on.ensures.port t)
    (ap (λ (p : MutBor _). g.D.Datagrams.port p.now) c.ask.ensures.b ∙ c.receive_on-2.ensures.port t) (c.ask.ensures.asked t)

pub returns-in_err-receive_on-2-clause-prints : goal.returns-in_err-receive_on-2-clause-prints
returns-in_err-receive_on-2-clause-prints g c = begins_trans c.receive_on.ensures.prints c.receive_on-2.ensures.prints

pub returns-clause-prints : goal.returns-clause-prints
returns-clause-prints g c =
    begins_trans (begins_trans c.receive_on.ensures.prints c.receive_on-2.ensures.prints) c.ask.ensures.prints

pub returns-in_err-receive_on-clause-b : goal.returns-in_err-receive_on-clause-b
returns-in_err-receive_on-clause-b g c = λ t. inl refl

pub returns-in_err-receive_on-2-clause-b : goal.returns-in_err-receive_on-2-clause-b
returns-in_err-receive_on-2-clause-b g c = λ t. inr (c.receive_on-2.ensures.port t)

pub returns-clause-b : goal.returns-clause-b
returns-clause-b g c = λ t.
    inr (ap (λ (p : MutBor _). g.D.Datagrams.port p.now) c.ask.ensures.b ∙ c.receive_on-2.ensures.port t)

pub returns-in_err-receive_on-2-clause-keeps : goal.returns-in_err-receive_on-2-clause-keeps
returns-in_err-receive_on-2-clause-keeps g c = keeps_both c.receive_on.ensures.keeps c.receive_on-2.ensures.keeps

pub returns-clause-keeps : goal.returns-clause-keeps
returns-clause-keeps g c =
    keeps_both (keeps_both c.receive_on.ensures.keeps c.receive_on-2.ensures.keeps) c.ask.ensures.keeps
