use Rattle.std.proofs.Common.{◌≡◌, [], arith, ap, ◌∙◌, Option}
use Rattle.std.proofs.lemmas.List.{nil_from_length}
use Rattle.mold_rule.specs.declared.refusal.Refusal.{Refusal}
use Rattle.mold_receiver.specs.Batch.{handed_from}
use Rattle.mold_receiver.specs.Receive.{decide, receive_read, reception}
use Rattle.mold_receiver.proofs.OwnLemmas.{is_own}
use Rattle.mold_receiver.proofs.receiver.Receiver.hear_quickly.Goals as goal

pub hear_usual-requires-clause-empty : goal.hear_usual-requires-clause-empty
hear_usual-requires-clause-empty c =
    let none : c.args.batch.now.messages ≡ [] = nil_from_length c.args.batch.now.messages (omega arith) in
    c.len.ensures.numbered ∙ ap (handed_from c.args.batch.now.first) none

pub returns-in-Some-clause-heard : goal.returns-in-Some-clause-heard
returns-in-Some-clause-heard c =
    let v = c.args.self.now in
    let p = c.in_ok-packet.packet in
    let read = c.in_ok-packet.ensures.exact in
    let taken = c.in-Some.ensures.taken in
    record {
      reception = reception v p;
      received = ap (receive_read v) read
          ∙ ap (λ (o : Option Refusal). decide o (reception v p)) c.in-Ok.ensures.taken;
      view = taken.0;
      delivers = is_own v p c.args.bytes.now _ _ _ read c.in_ok-packet.ensures.spelled c.in-Some.ensures.own taken.1;
    }
