use Rattle.std.proofs.Common.{◌≡◌, sym, ap, ◌∙◌, refl, inl, Option}
use Rattle.std.specs.Prelude.{Ok}
use Rattle.mold_wire.specs.Reading.{reading}
use Rattle.mold_rule.specs.declared.refusal.Refusal.{Refusal}
use Rattle.mold_receiver.specs.Receive.{decide, receive_read, reception}
use Rattle.mold_receiver.proofs.OwnLemmas.{is_copied_behind, is_own}
use Rattle.mold_receiver.proofs.receiver.Receiver.hear_top.Goals as goal

pub returns-in-Ok-hear_packet-clause-heard : goal.returns-in-Ok-hear_packet-clause-heard
returns-in-Ok-hear_packet-clause-heard c =
    let v = c.args.self.now in
    let p = c.in-Ok.packet in
    let read : reading c.args.bytes.now ≡ Ok p = sym c.decode.ensures.exact ∙ c.in-Ok.is in
    let taken = c.in-Ok-hear_packet.ensures.taken in
    record {
      reception = reception v p;
      received = ap (receive_read v) read
          ∙ ap (λ (o : Option Refusal). decide o (reception v p)) (rw c.in_ok-checked.was at c.check.ensures.taken);
      view = taken.0;
      delivers = is_own v p c.args.bytes.now _ _ _ read c.in-Ok.ensures.spelled c.in-Ok-hear_packet.ensures.own taken.1;
    }

pub returns-in-Err-hear_packet-clause-refused : goal.returns-in-Err-hear_packet-clause-refused
returns-in-Err-hear_packet-clause-refused c =
    let v = c.args.self.now in
    let p = c.in-Ok.packet in
    let read : reading c.args.bytes.now ≡ Ok p = sym c.decode.ensures.exact ∙ c.in-Ok.is in
    inl (
      refl,
      is_copied_behind v p c.args.bytes.now read
          (ap (receive_read v) read
          ∙ ap (λ (o : Option Refusal). decide o (reception v p)) (rw c.in_ok-checked.was at c.check.ensures.taken))
          c.in-Err-hear_packet.ensures.needed,
    )
