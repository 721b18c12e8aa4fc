use Rattle.std.proofs.Common.{ap, ◌∙◌, Option}
use Rattle.mold_rule.specs.declared.refusal.Refusal.{Refusal}
use Rattle.mold_receiver.specs.Receive.{decide, receive_read, reception}
use Rattle.mold_receiver.proofs.receiver.Receiver.accept_quickly.Goals as goal

pub returns-in-Some-clause-taken : goal.returns-in-Some-clause-taken
returns-in-Some-clause-taken c =
    let v = c.args.self.now in
    let p = c.in_ok-packet.packet in
    let taken = c.in-Some.ensures.taken in
    record {
      reception = reception v p;
      received = ap (receive_read v) c.in_ok-packet.ensures.exact
          ∙ ap (λ (o : Option Refusal). decide o (reception v p)) c.in-Ok.ensures.taken;
      view = taken.0;
      batch = c.in-Some.ensures.handed;
      told = taken.1;
    }
