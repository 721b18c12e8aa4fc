-- What a receiver has, it has after each step.
use Rattle.std.proofs.Common.{◌≡◌, ℕ, ◌≤◌, List}
use Rattle.std.proofs.Common.{IfErr, IfOk, MatchOption, Option, None, Some, Result, Ok, Err}
use Rattle.std.proofs.Common.{ap, ◌∙◌, refl, sym, subst, arith, inl, inr}
use Rattle.mold_pacing.specs.declared.gap.Gap.{Gap}
use Rattle.mold_pacing.specs.declared.pacer.Pacer.{Pacer}
use Rattle.mold_receiver.specs.Arbiter.{Arbitration, HasArbitrated, HasRefused, arbitrated}
use Rattle.mold_receiver.specs.Batch.{Handed}
use Rattle.mold_receiver.specs.Having.{HasAllOf}
use Rattle.mold_receiver.specs.Origin.{line_of}
use Rattle.mold_receiver.specs.Receive.{Reception, receive, view_after}
use Rattle.mold_receiver.specs.Skip.{skipped}
use Rattle.mold_receiver.specs.View.{View, IsWellFormed}
use Rattle.mold_receiver.specs.declared.line.Line.{Line as TheLine}
use Rattle.mold_receiver.specs.declared.taken.Taken.{Taken}
use Rattle.mold_repair.specs.GivingUp.{IsKept, IsLost}
use Rattle.mold_repair.specs.Origin.{receiver_origin}
use Rattle.mold_repair.specs.Run.{HasStepped, nothing}
use Rattle.mold_repair.specs.declared.outcome.Outcome.{Outcome}
use Rattle.mold_repair.specs.declared.repairer.Repairer.{Repairer}
use Rattle.mold_repair.specs.declared.step.RepairStep.{RepairStep}
use Rattle.mold_repair.specs.declared.step.RepairStep.TheVariants.{Lost, Pass, Poll, Take}
use Rattle.mold_repair.proofs.LawLemmas.{TakenLaw, refused_view, taken_view}
use Rattle.mold_rule.specs.declared.refusal.Refusal.{Refusal}
use Rattle.mold_wire.specs.declared.packet.Packet.{Packet}

-- The laws of the receiver that are used.
pub record ReceiverLaws : Type 0 where
  pub taken : TakenLaw
  pub received : (v : View) (bytes : List ℕ) (r : Reception) → IsWellFormed v → receive v bytes ≡ Ok r → IsWellFormed r.view
  pub gave_up : (v : View) (to : ℕ) → IsWellFormed v → v.next ≤ to → to ≤ v.known → IsWellFormed (skipped v to)
  pub keeps : (v : View) (p : Packet) → IsWellFormed v → HasAllOf v (view_after v p)
  pub keeps_skipped : (v : View) (to : ℕ) → IsWellFormed v → v.next ≤ to → to ≤ v.known → HasAllOf v (skipped v to)

-- The new view has what the old one has.
pub record Continues (v w : View) : Type 0 where
  pub well_formed : IsWellFormed w
  pub ahead : v.next ≤ w.next
  pub has : HasAllOf v w
  pub room : w.room ≡ v.room

same_view : (v w : View) → IsWellFormed v → w ≡ v → Continues v w
same_view v w well same =
    subst (Continues v) (sym same) (record { well_formed = well; ahead = omega arith; has = λ number has. has; room = refl })

pub taken_on : ReceiverLaws → (v : View) (bytes : List ℕ) (r : Reception) → IsWellFormed v → receive v bytes ≡ Ok r →
    Continues v r.view
taken_on laws v bytes r well is =
    let packet = laws.taken v bytes r is in
    let same = ap (λ (x : Reception). x.view) packet.taken in
    let next = ap (λ (w : View). w.next) same in
    record {
      well_formed = laws.received v bytes r well is;
      ahead = omega (arith, next);
      has = subst (HasAllOf v) (sym same) (laws.keeps v packet.packet well);
      room = ap (λ (w : View). w.room) same;
    }

result_on : ReceiverLaws → (old new : Arbitration) (line : Option TheLine) (bytes : List ℕ) (handed : Handed)
    (r : Result Taken Refusal) → IfOk r (λ t. HasArbitrated line old bytes nothing new handed t)
    → IfErr r (λ e. HasRefused line old bytes new e) → IsWellFormed old.view → Continues old.view new.view
result_on laws old new line bytes handed (Ok t) has refused well =
    let view = ap (λ (a : Arbitration). a.view) (has.arbitration ∙ ap (arbitrated line bytes old) has.received)
    ∙ taken_view line bytes old has.reception in
    subst (Continues old.view) (sym view) (taken_on laws old.view bytes has.reception well has.received)
result_on laws old new line bytes handed (Err e) taken has well =
    let view : new.view ≡ old.view = elim has [
      | inl memory ↦ ap (λ (a : Arbitration). a.view) memory.2
      | inr rule ↦
          ap (λ (a : Arbitration). a.view) (rule.1 ∙ ap (arbitrated line bytes old) rule.0) ∙ refused_view line bytes old e
    ] in
    same_view old.view new.view well view

lost_on : ReceiverLaws → (old new : Arbitration) (handed : Handed) (give_up : ℕ) (p q : Pacer) (lost : Option Gap)
    → MatchOption lost (IsKept give_up old new nothing handed p q) (IsLost give_up old new nothing handed p q)
    → IsWellFormed old.view → Continues old.view new.view
lost_on laws old new handed give_up p q None kept well =
    same_view old.view new.view well (ap (λ (a : Arbitration). a.view) kept.arbiter)
lost_on laws old new handed give_up p q (Some gap) gave well =
    let v = old.view in
    let low : v.next ≤ gap.end = omega (arith, gave.given_up.first, gave.given_up.some) in
    let high = gave.given_up.missing.0 in
    subst (Continues v) (sym (ap (λ (a : Arbitration). a.view) gave.arbiter)) (record {
      well_formed = laws.gave_up v gap.end well low high;
      ahead = omega (arith, low);
      has = laws.keeps_skipped v gap.end well low high;
      room = refl;
    })

pub goes_on : ReceiverLaws → (old new : Repairer) (step : RepairStep) (o : Outcome) (handed : Handed) →
    HasStepped old new step handed o → IsWellFormed old.arbiter.view → Continues old.arbiter.view new.arbiter.view
goes_on laws old new (Take time origin datagram) o handed did well =
    let t = did.0 in
    result_on laws old.arbiter new.arbiter (line_of (receiver_origin origin)) datagram.now handed t.result t.taken
    t.refused well
goes_on laws old new (Poll time) o handed did well =
    same_view old.arbiter.view new.arbiter.view well (ap (λ (a : Arbitration). a.view) did.arbiter)
goes_on laws old new (Lost time) o handed (inl did) well =
    lost_on laws old.arbiter new.arbiter handed old.options.give_up did.gave.between new.pacer o.lost did.gave.gave well
goes_on laws old new (Lost time) o handed (inr did) well =
    same_view old.arbiter.view new.arbiter.view well (ap (λ (a : Arbitration). a.view) did.arbiter)
goes_on laws old new (Pass time) o handed did well =
    same_view old.arbiter.view new.arbiter.view well (ap (λ (a : Arbitration). a.view) did.arbiter)
