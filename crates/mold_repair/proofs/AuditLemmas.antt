-- What a datagram delivers, as the audit sees it.
use Rattle.std.proofs.Common.{◌≡◌, ℕ, ◌+◌, ◌-◌, ◌≤◌, List, [], ◌∷◌, length, length-append, drop, ap, subst, ◌∙◌, arith}
use Rattle.std.specs.Prelude.{Option}
use Rattle.std.proofs.lemmas.List.{length-drop}
use Rattle.mold_audit.specs.Kept.{HasNoted}
use Rattle.mold_audit.specs.declared.audit.Audit.{Audit}
use Rattle.mold_receiver.specs.Arbiter.{Arbitration, HasArbitrated, arbitrated}
use Rattle.mold_receiver.specs.Batch.{Handed, followed_by}
use Rattle.mold_receiver.specs.Receive.{Reception}
use Rattle.mold_receiver.specs.Store.{Message}
use Rattle.mold_receiver.specs.View.{View}
use Rattle.mold_receiver.specs.declared.line.Line.{Line}
use Rattle.mold_receiver.specs.declared.taken.Taken.{Taken}
use Rattle.mold_repair.proofs.LawLemmas.{TakenLaw, taken_view}

-- The messages that a datagram delivered are the last ones of the batch, and end just before `next`.
pub record IsDelivered (old new : Arbitration) (before after : Handed) (handed : ℕ) : Type 0 where
  pub next : old.view.next + handed ≡ new.view.next
  pub long : length after.messages ≡ length before.messages + handed

longer : (batch : Handed) (next : ℕ) (messages : List Message) →
    length (followed_by batch next messages).messages ≡ length batch.messages + length messages
longer batch next [] = omega arith
longer batch next (message ∷ messages) = length-append batch.messages (message ∷ messages)

pub is_delivered : TakenLaw → (line : Option Line) (old new : Arbitration) (bytes : List ℕ) (before after : Handed)
    (taken : Taken) → HasArbitrated line old bytes before new after taken →
    IsDelivered old new before after taken.handed
is_delivered law line old new bytes before after taken has =
    let v = old.view in
    let r = has.reception in
    let packet = law v bytes r has.received in
    let view = ap (λ (a : Arbitration). a.view) (has.arbitration ∙ ap (arbitrated line bytes old) has.received)
    ∙ taken_view line bytes old r in
    let first = ap (λ (x : Reception). v.next + length x.handed) packet.taken in
    let last = ap (λ (x : Reception). x.view.next) packet.taken in
    let next = ap (λ (w : View). w.next) view in
    let told = ap (λ (t : Taken). t.handed) has.told in
    let counted = ap (λ (x : Reception). x.taken.handed) packet.taken in
    let count : taken.handed ≡ length r.handed = omega (arith, told, counted, first) in
    record {
      next = omega (arith, count, first, last, next);
      long = ap (λ (h : Handed). length h.messages) has.batch ∙ longer before v.next r.handed ∙ omega (arith, count);
    }

-- What was noted of the last messages of the batch is noted of what the datagram delivered.
pub noted_last : (a b : Audit) (old new : Arbitration) (before after : Handed) (handed : ℕ) →
    IsDelivered old new before after handed →
    HasNoted a b (new.view.next - handed) (drop (length after.messages - handed) after.messages) →
    HasNoted a b old.view.next (drop (length before.messages) after.messages)
noted_last a b old new before after handed is noted =
    let first : new.view.next - handed ≡ old.view.next = omega (arith, is.next) in
    let from : length after.messages - handed ≡ length before.messages = omega (arith, is.long) in
    subst (λ (n : ℕ). HasNoted a b n (drop (length before.messages) after.messages)) first
    (subst (λ (n : ℕ). HasNoted a b (new.view.next - handed) (drop n after.messages)) from noted)

-- No number above those delivered was noted.
pub noted_within : (a b : Audit) (old new : Arbitration) (before after : Handed) (handed : ℕ) →
    IsDelivered old new before after handed →
    b.next ≤ old.view.next + length (drop (length before.messages) after.messages) → b.next ≤ new.view.next
noted_within a b old new before after handed is low =
    omega (arith, low, is.next, is.long, length-drop (length before.messages) after.messages)
