-- The next message follows a repairer's batch after a datagram, too.
use Rattle.std.proofs.Common.{◌≡◌, ℕ, ◌+◌, List, length, Result, Ok, Err, Option, None, Some, IfOk, IfErr, OnErr, refl, sym, ap, subst, ◌∙◌, inl, inr}
use Rattle.mold_receiver.specs.Arbiter.{Arbitration, HasArbitrated, HasRefused, arbitrated}
use Rattle.mold_receiver.specs.Batch.{Follows, Handed, followed_by}
use Rattle.mold_receiver.specs.Receive.{IsTakenPacket, Reception, receive}
use Rattle.mold_receiver.specs.Store.{Message}
use Rattle.mold_receiver.specs.View.{View}
use Rattle.mold_receiver.specs.declared.line.Line.{Line}
use Rattle.mold_receiver.specs.declared.taken.Taken.{Taken}
use Rattle.mold_rule.specs.declared.refusal.Refusal.{Refusal}

-- The view after a datagram is the same on each line.
taken_view : (line : Option Line) (bytes : List ℕ) (old : Arbitration) (r : Reception) → (arbitrated line bytes old (Ok r)).view ≡ r.view
taken_view None bytes old r = refl
taken_view (Some line) bytes old r = refl

refused_view : (line : Option Line) (bytes : List ℕ) (old : Arbitration) (e : Refusal) → (arbitrated line bytes old (Err e)).view ≡ old.view
refused_view None bytes old e = refl
refused_view (Some line) bytes old e = refl

module _ (taken : (v : View) (bytes : List ℕ) (r : Reception) → receive v bytes ≡ Ok r → IsTakenPacket v bytes r)
    (follows : (batch : Handed) (next : ℕ) (messages : List Message) → Follows batch next → Follows (followed_by batch next messages) (next + length messages)) where
  -- The new next number is the old one plus the number of delivered messages.
  next_is : (v : View) (bytes : List ℕ) (r : Reception) → receive v bytes ≡ Ok r → r.view.next ≡ v.next + length r.handed
  next_is v bytes r is =
      let t = taken v bytes r is in
      ap (λ (x : Reception). x.view.next) t.taken ∙ sym (ap (λ (x : Reception). v.next + length x.handed) t.taken)

  pub follows_datagram : (line : Option Line) (bytes : List ℕ) (old new : Arbitration) (before after : Handed) (result : Result Taken Refusal)
      → Follows before old.view.next → IfOk result (λ t. HasArbitrated line old bytes before new after t)
      → IfErr result (λ e. HasRefused line old bytes new e) → OnErr result (after ≡ before) → Follows after new.view.next
  follows_datagram line bytes old new before after (Ok t) follow has refused same =
      let view : new.view ≡ has.reception.view =
      ap (λ (a : Arbitration). a.view) (has.arbitration ∙ ap (arbitrated line bytes old) has.received) ∙ taken_view line bytes old has.reception in
      let next : old.view.next + length has.reception.handed ≡ new.view.next =
      sym (ap (λ (v : View). v.next) view ∙ next_is old.view bytes has.reception has.received) in
      subst (λ (b : Handed). Follows b new.view.next) (sym has.batch)
      (subst (λ n. Follows (followed_by before old.view.next has.reception.handed) n) next (follows before old.view.next has.reception.handed follow))
  follows_datagram line bytes old new before after (Err e) follow taken has same =
      let view : new.view ≡ old.view = elim has [
        | inl lacked ↦ ap (λ (a : Arbitration). a.view) lacked.2
        | inr found ↦
            ap (λ (a : Arbitration). a.view) (found.1 ∙ ap (arbitrated line bytes old) found.0) ∙ refused_view line bytes old e
      ] in
      subst (λ (b : Handed). Follows b new.view.next) (sym same)
      (subst (λ (v : View). Follows before v.next) (sym view) follow)
