use Rattle.std.proofs.Common.{◌≡◌, sym, ap, ◌∙◌, refl, inl, Option}
use Rattle.std.specs.Prelude.{Ok}
use Rattle.mold_wire.specs.Reading.{reading}
use Rattle.mold_rule.specs.declared.refusal.Refusal.{Refusal}
use Rattle.mold_receiver.specs.Receive.{receive_read, decide, reception}
use Rattle.mold_receiver.proofs.receiver.Receiver.accept.Goals as goal

pub returns-in-Ok-take_packet-clause-taken : goal.returns-in-Ok-take_packet-clause-taken
returns-in-Ok-take_packet-clause-taken c =
    let v = c.args.self.now in
    let p = c.in-Ok.packet in
    let read : reading c.args.bytes.now ≡ Ok p = sym c.decode.ensures.exact ∙ c.in-Ok.is in
    record {
      reception = reception v p;
      received = ap (receive_read v) read
          ∙ ap (λ (o : Option Refusal). decide o (reception v p)) (rw c.in_ok-top.was at c.check.ensures.taken);
      view = c.in-Ok-take_packet.ensures.taken.0;
      batch = c.in-Ok-take_packet.ensures.handed;
      told = c.in-Ok-take_packet.ensures.taken.1;
    }

pub returns-in-Err-take_packet-clause-refused : goal.returns-in-Err-take_packet-clause-refused
returns-in-Err-take_packet-clause-refused c =
    let v = c.args.self.now in
    let p = c.in-Ok.packet in
    let read : reading c.args.bytes.now ≡ Ok p = sym c.decode.ensures.exact ∙ c.in-Ok.is in
    inl (
      refl,
      record {
        reception = reception v p;
        received = ap (receive_read v) read
            ∙ ap (λ (o : Option Refusal). decide o (reception v p)) (rw c.in_ok-top.was at c.check.ensures.taken);
        some = c.in-Err-take_packet.ensures.needed;
      },
    )
