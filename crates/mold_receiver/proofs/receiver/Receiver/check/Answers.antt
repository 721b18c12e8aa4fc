use Rattle.std.proofs.Common.{◌≡◌, ℕ, ap, subst, ◌∙◌}
use Rattle.std.specs.Prelude.{Option, None, Some}
use Rattle.mold_wire.specs.Packet.{messages_of}
use Rattle.mold_rule.specs.Refusals.{refusal_of}
use Rattle.mold_receiver.specs.Receive.{refusal}
use Rattle.mold_receiver.specs.View.{View, view_over}
use Rattle.mold_receiver.proofs.NothingLemmas.{known_no_conflict}
use Rattle.mold_receiver.proofs.receiver.Receiver.check.Goals as goal

pub returns-then-self-packet-clause-taken : goal.returns-then-self-packet-clause-taken
returns-then-self-packet-clause-taken c =
    let f = c.self.inside in
    let v = view_over f.room f.session f.next f.known f.ended f.slots in
    let p = c.args.packet.now in
    subst (λ (w : View). refusal w p ≡ None) c.self.view_is
    (ap (λ (o : Option ℕ). refusal_of (Some f.session.0) f.known f.ended o p)
    (known_no_conflict v p.sequence (messages_of p.body) c.self.invariant c.if-self-packet.true)
    ∙ c.in_ok-top.ensures.passed None)
