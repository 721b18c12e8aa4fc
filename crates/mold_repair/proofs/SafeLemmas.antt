-- What a repairer delivers is what was published.
use Rattle.std.proofs.Common.{◌≡◌, ◌⊎◌, ℕ, zero, suc, ◌+◌, ◌-◌, ◌≤◌, Bool, List, [], ◌∷◌, ◌++◌, length, length-append}
use Rattle.std.proofs.Common.{IfErr, IfOk, MatchOption, OnErr, Option, None, Some, Result, Ok, Err}
use Rattle.std.proofs.Common.{refl, ap, ◌∙◌, sym, subst, arith, inl, inr}
use Rattle.std.specs.Prelude.{slice_get}
use Rattle.mold_pacing.specs.declared.gap.Gap.{Gap}
use Rattle.mold_pacing.specs.declared.pacer.Pacer.{Pacer}
use Rattle.mold_receiver.specs.Arbiter.{Arbitration, HasArbitrated, HasRefused, arbitrated}
use Rattle.mold_receiver.specs.Batch.{Handed, followed_by}
use Rattle.mold_receiver.specs.Honest.{IsHonest, IsSkippedHonestly, IsTakenHonestly}
use Rattle.mold_receiver.specs.Origin.{line_of}
use Rattle.mold_receiver.specs.Receive.{Reception, receive}
use Rattle.mold_receiver.specs.Skip.{skipped_run}
use Rattle.mold_receiver.specs.Store.{Message}
use Rattle.mold_receiver.specs.View.{View}
use Rattle.mold_receiver.specs.declared.line.Line.{Line as TheLine}
use Rattle.mold_receiver.specs.declared.taken.Taken.{Taken}
use Rattle.mold_repair.specs.GivingUp.{IsKept, IsLost}
use Rattle.mold_repair.specs.Origin.{receiver_origin}
use Rattle.mold_repair.specs.Run.{HasStepped, IsRepaired, after_lost, nothing}
use Rattle.mold_repair.specs.Safe.{AreHarmless, ArePieces, AreWithoutLoss, IsHarmless, IsPiece, all_delivered}
use Rattle.mold_repair.specs.declared.outcome.Outcome.{Outcome}
use Rattle.mold_repair.specs.declared.repairer.Repairer.{Repairer}
use Rattle.mold_repair.specs.declared.step.RepairStep.{RepairStep}
use Rattle.mold_repair.specs.declared.step.RepairStep.TheVariants.{Lost, Pass, Poll, Take}
use Rattle.mold_repair.proofs.LawLemmas.{TakenLaw, has_moved, refused_view, taken_view}
use Rattle.mold_rule.specs.declared.refusal.Refusal.{Refusal}
use Rattle.mold_wire.specs.Block.{IsBytes}
use Rattle.mold_wire.specs.Packet.{Spells}
use Rattle.mold_wire.specs.Reading.{reading}
use Rattle.mold_wire.specs.Truth.{IsTruePacket, published_at}
use Rattle.mold_wire.specs.declared.packet.Packet.{Packet}
use Rattle.mold_wire.specs.declared.session.Session.{Session}

-- The laws of the crates below that are used.
pub record LowerLaws : Type 0 where
  pub spelled : (packet : Packet) (bytes : List ℕ) → IsBytes bytes → reading bytes ≡ Ok packet → Spells packet bytes
  pub taken : TakenLaw
  pub takes : (v : View) (packet : Packet) (bytes : List ℕ) (published : List Message) (closed : Bool) →
      IsHonest v published closed → Spells packet bytes → packet.session ≡ v.session →
      IsTruePacket packet published closed → IsTakenHonestly v bytes published closed
  pub skips : (v : View) (to : ℕ) (published : List Message) (closed : Bool) →
      IsHonest v published closed → v.next ≤ to → to ≤ v.known → IsSkippedHonestly v to published closed

same_ok : {x y : Reception} → ◌≡◌ {A = Result Reception Refusal} (Ok x) (Ok y) → x ≡ y
same_ok e = cc

none_some : {X : Type 0} {x : X} → ◌≡◌ {A = Option X} None (Some x) → ⊥
none_some e = cc

-- Each of the messages was published with its number, from `first` on.
abbrev Each : List Message → ℕ → List Message → Type 0
Each published first messages = (i : ℕ) (m : Message) → slice_get messages i ≡ Some m →
    published_at published (first + i) ≡ Some m

accepts : LowerLaws → (v : View) (session : Session) (bytes : List ℕ) (r : Reception) (published : List Message)
    (closed : Bool) → IsHonest v published closed → v.session ≡ session → IsHarmless session published closed bytes
    → receive v bytes ≡ Ok r → IsHonest r.view published closed × Each published v.next r.handed
accepts laws v session bytes r published closed honest own (inl told) is =
    let took = laws.takes v told.packet bytes published closed honest told.spelled (told.session ∙ sym own) told.so in
    let same = same_ok (sym took.received ∙ is) in (
      subst (λ (x : Reception). IsHonest x.view published closed) same took.honest,
      subst (λ (x : Reception). Each published v.next x.handed) same took.handed,
    )
accepts laws v session bytes r published closed honest own (inr foreign) is =
    let packet = laws.taken v bytes r is in
    absurd (foreign.1 packet.packet (laws.spelled packet.packet bytes foreign.0 packet.read) (packet.session ∙ own))

-- The receiver stays honest, and what was delivered from `first` on was published.
pub record StaysSafe (published : List Message) (closed : Bool) (new : Repairer) (first : ℕ) (handed : Handed) :
    Type 0 where
  pub honest : IsHonest new.arbiter.view published closed
  pub each : Each published first handed.messages

none_each : (published : List Message) (first : ℕ) → Each published first []
none_each published first i m is = absurd (none_some is)

alone : (first : ℕ) (messages : List Message) → (followed_by nothing first messages).messages ≡ messages
alone first [] = refl
alone first (m ∷ ms) = refl

safe_still : (published : List Message) (closed : Bool) (old new : Repairer) (first : ℕ) (handed : Handed) →
    IsHonest old.arbiter.view published closed → new.arbiter.view ≡ old.arbiter.view → handed ≡ nothing →
    StaysSafe published closed new first handed
safe_still published closed old new first handed honest same empty = record {
  honest = subst (λ (v : View). IsHonest v published closed) (sym same) honest;
  each = subst (λ (h : Handed). Each published first h.messages) (sym empty) (none_each published first);
}

safe_batch : (published : List Message) (closed : Bool) (new : Repairer) (first : ℕ) (handed : Handed)
    (messages : List Message) → IsHonest new.arbiter.view published closed → Each published first messages →
    handed ≡ followed_by nothing first messages → StaysSafe published closed new first handed
safe_batch published closed new first handed messages honest each is = record {
  honest = honest;
  each = subst (Each published first) (sym (ap (λ (h : Handed). h.messages) is ∙ alone first messages)) each;
}

safe_taken : LowerLaws → (published : List Message) (closed : Bool) (session : Session) (old new : Repairer)
    (line : Option TheLine) (bytes : List ℕ) (handed : Handed) (t : Taken)
    → HasArbitrated line old.arbiter bytes nothing new.arbiter handed t → IsHonest old.arbiter.view published closed
    → old.arbiter.view.session ≡ session → IsHarmless session published closed bytes
    → StaysSafe published closed new old.arbiter.view.next handed
safe_taken laws published closed session old new line bytes handed t has honest own harmless =
    let v = old.arbiter.view in
    let r = has.reception in
    let view = ap (λ (a : Arbitration). a.view) (has.arbitration ∙ ap (arbitrated line bytes old.arbiter) has.received)
    ∙ taken_view line bytes old.arbiter r in
    let both = accepts laws v session bytes r published closed honest own harmless has.received in
    safe_batch published closed new v.next handed r.handed
    (subst (λ (w : View). IsHonest w published closed) (sym view) both.0) both.1 has.batch

safe_result : LowerLaws → (published : List Message) (closed : Bool) (session : Session) (old new : Repairer)
    (line : Option TheLine) (bytes : List ℕ) (handed : Handed) (r : Result Taken Refusal)
    → IfOk r (λ t. HasArbitrated line old.arbiter bytes nothing new.arbiter handed t)
    → IfErr r (λ e. HasRefused line old.arbiter bytes new.arbiter e) → OnErr r (handed ≡ nothing)
    → IsHonest old.arbiter.view published closed → old.arbiter.view.session ≡ session
    → IsHarmless session published closed bytes → StaysSafe published closed new old.arbiter.view.next handed
safe_result laws published closed session old new line bytes handed (Ok t) taken refused batch honest own harmless =
    safe_taken laws published closed session old new line bytes handed t taken honest own harmless
safe_result laws published closed session old new line bytes handed (Err e) taken refused batch honest own harmless =
    let view : new.arbiter.view ≡ old.arbiter.view = elim refused [
      | inl memory ↦ ap (λ (a : Arbitration). a.view) memory.2
      | inr rule ↦
          ap (λ (a : Arbitration). a.view) (rule.1 ∙ ap (arbitrated line bytes old.arbiter) rule.0)
          ∙ refused_view line bytes old.arbiter e
    ] in
    safe_still published closed old new old.arbiter.view.next handed honest view batch

safe_lost : LowerLaws → (published : List Message) (closed : Bool) (old new : Repairer) (handed : Handed)
    (give_up : ℕ) (p q : Pacer) (lost : Option Gap)
    → MatchOption lost (IsKept give_up old.arbiter new.arbiter nothing handed p q)
    (IsLost give_up old.arbiter new.arbiter nothing handed p q) → IsHonest old.arbiter.view published closed
    → StaysSafe published closed new (after_lost old.arbiter.view.next lost) handed
safe_lost laws published closed old new handed give_up p q None kept honest =
    safe_still published closed old new old.arbiter.view.next handed honest
    (ap (λ (a : Arbitration). a.view) kept.arbiter) kept.batch
safe_lost laws published closed old new handed give_up p q (Some gap) gave honest =
    let v = old.arbiter.view in
    let gone = laws.skips v gap.end published closed honest
    (omega (arith, gave.given_up.first, gave.given_up.some)) gave.given_up.missing.0 in
    safe_batch published closed new gap.end handed (skipped_run v gap.end)
    (subst (λ (w : View). IsHonest w published closed) (sym (ap (λ (a : Arbitration). a.view) gave.arbiter)) gone.honest)
    gone.handed gave.batch

first_is : (published : List Message) (closed : Bool) (new : Repairer) (handed : Handed) (first : ℕ) (o : Outcome)
    → o.delivered.first ≡ first → StaysSafe published closed new first handed
    → StaysSafe published closed new o.delivered.first handed
first_is published closed new handed first o is safe =
    subst (λ n. StaysSafe published closed new n handed) (sym is) safe

pub safe_step : LowerLaws → (published : List Message) (closed : Bool) (session : Session) (old new : Repairer)
    (step : RepairStep) (o : Outcome) (handed : Handed) → HasStepped old new step handed o
    → IsHonest old.arbiter.view published closed → old.arbiter.view.session ≡ session
    → AreHarmless session published closed (step ∷ []) → StaysSafe published closed new o.delivered.first handed
safe_step laws published closed session old new (Take time origin datagram) o handed did honest own harmless =
    let t = did.0 in
    first_is published closed new handed old.arbiter.view.next o (ap (λ (x : Outcome). x.delivered.first) did.1)
    (safe_result laws published closed session old new (line_of (receiver_origin origin)) datagram.now handed t.result
    t.taken t.refused t.batch honest own harmless.0)
safe_step laws published closed session old new (Poll time) o handed did honest own harmless =
    safe_still published closed old new o.delivered.first handed honest (ap (λ (a : Arbitration). a.view) did.arbiter)
    did.batch
safe_step laws published closed session old new (Lost time) o handed (inl did) honest own harmless =
    first_is published closed new handed (after_lost old.arbiter.view.next o.lost) o
    (ap (λ (x : Outcome). x.delivered.first) did.returned)
    (safe_lost laws published closed old new handed old.options.give_up did.gave.between new.pacer o.lost did.gave.gave
    honest)
safe_step laws published closed session old new (Lost time) o handed (inr did) honest own harmless =
    safe_still published closed old new o.delivered.first handed honest (ap (λ (a : Arbitration). a.view) did.arbiter)
    did.batch
safe_step laws published closed session old new (Pass time) o handed did honest own harmless =
    safe_still published closed old new o.delivered.first handed honest (ap (λ (a : Arbitration). a.view) did.arbiter)
    did.batch

harmless_parts : (session : Session) (published : List Message) (closed : Bool) (step : RepairStep)
    (steps : List RepairStep) → AreHarmless session published closed (step ∷ steps)
    → AreHarmless session published closed (step ∷ []) × AreHarmless session published closed steps
harmless_parts session published closed (Take time origin datagram) steps all = ((all.0, tt), all.1)
harmless_parts session published closed (Poll time) steps all = (tt, all)
harmless_parts session published closed (Lost time) steps all = (tt, all)
harmless_parts session published closed (Pass time) steps all = (tt, all)

-- A run of a repairer is safe.
pub record IsSafe (published : List Message) (closed : Bool) (old new : Repairer) (steps : List RepairStep)
    (os : List Outcome) (ran : IsRepaired old new steps os) : Type 0 where
  pub honest : IsHonest new.arbiter.view published closed
  pub pieces : ArePieces published old new steps os ran

module _ (laws : LowerLaws) (published : List Message) (closed : Bool) (session : Session) where
  pub is_safe : (old new : Repairer) (steps : List RepairStep) (os : List Outcome) (ran : IsRepaired old new steps os)
      → IsHonest old.arbiter.view published closed → old.arbiter.view.session ≡ session
      → AreHarmless session published closed steps → IsSafe published closed old new steps os ran
  is_safe old new [] [] ran honest own harmless = record {
    honest = subst (λ (r : Repairer). IsHonest r.arbiter.view published closed) (sym ran) honest;
    pieces = tt;
  }
  is_safe old new [] (o ∷ os) ran honest own harmless = absurd ran
  is_safe old new (step ∷ steps) [] ran honest own harmless = absurd ran
  is_safe old new (step ∷ steps) (o ∷ os) ran honest own harmless =
      let next = ran.0 in
      let is = ran.1 in
      let parts = harmless_parts session published closed step steps harmless in
      let moved = has_moved laws.taken old next step o is.handed is.stepped in
      let first = ap (λ (g : Gap). g.first) moved.delivered in
      let last = ap (λ (g : Gap). g.end) moved.delivered in
      let sent = ap (λ (h : Handed). length h.messages) moved.batch
      ∙ ap length (alone (after_lost old.arbiter.view.next o.lost) moved.messages) in
      let one = safe_step laws published closed session old next step o is.handed is.stepped honest own parts.0 in
      let rest = is_safe next new steps os ran.2 one.honest (moved.session ∙ own) parts.1 in
      record {
        honest = rest.honest;
        pieces = (
          record { counted = omega (arith, first, last, moved.counted, sent); each = one.each },
          rest.pieces,
        );
      }

get_both : (xs ys : List Message) (i : ℕ) (m : Message) → slice_get (xs ++ ys) i ≡ Some m →
    (slice_get xs i ≡ Some m) ⊎ ((length xs ≤ i) × (slice_get ys (i - length xs) ≡ Some m))
get_both [] ys i m is =
    let at : i ≡ i - 0 = omega arith in inr (omega arith, subst (λ n. slice_get ys n ≡ Some m) at is)
get_both (x ∷ xs) ys zero m is = inl is
get_both (x ∷ xs) ys (suc i) m is =
    elim (get_both xs ys i m is) [
      | inl here ↦ inl here
      | inr there ↦
          let at : i - length xs ≡ suc i - suc (length xs) = omega arith in
          inr (omega (arith, there.0), subst (λ n. slice_get ys n ≡ Some m) at there.1)
    ]

-- Two pieces that follow each other are one.
joins : (published : List Message) (first mid end : ℕ) (xs ys : List Message) → IsPiece published first mid xs →
    IsPiece published mid end ys → IsPiece published first end (xs ++ ys)
joins published first mid end xs ys one two = record {
  counted = omega (arith, one.counted, two.counted, length-append xs ys);
  each = λ i m is.
      elim (get_both xs ys i m is) [
        | inl here ↦ one.each i m here
        | inr there ↦
            let at : mid + (i - length xs) ≡ first + i = omega (arith, there.0, one.counted) in
            subst (λ n. published_at published n ≡ Some m) at (two.each (i - length xs) m there.1)
      ];
}

-- Without a loss, the pieces of a run are one.
pub one_piece : TakenLaw → (published : List Message) (old new : Repairer) (steps : List RepairStep) (os : List Outcome)
    (ran : IsRepaired old new steps os) → ArePieces published old new steps os ran → AreWithoutLoss os
    → IsPiece published old.arbiter.view.next new.arbiter.view.next (all_delivered old new steps os ran)
one_piece law published old new [] [] ran pieces kept =
    let same = ap (λ (r : Repairer). r.arbiter.view.next) ran in
    record { counted = omega (arith, same); each = none_each published old.arbiter.view.next }
one_piece law published old new [] (o ∷ os) ran pieces kept = absurd ran
one_piece law published old new (step ∷ steps) [] ran pieces kept = absurd ran
one_piece law published old new (step ∷ steps) (o ∷ os) ran pieces kept =
    let next = ran.0 in
    let is = ran.1 in
    let moved = has_moved law old next step o is.handed is.stepped in
    let first = ap (λ (g : Gap). g.first) moved.delivered ∙ ap (after_lost old.arbiter.view.next) kept.0 in
    let last = ap (λ (g : Gap). g.end) moved.delivered in
    joins published old.arbiter.view.next next.arbiter.view.next new.arbiter.view.next is.handed.messages
    (all_delivered next new steps os ran.2)
    (subst (λ n. IsPiece published old.arbiter.view.next n is.handed.messages) last
    (subst (λ n. IsPiece published n o.delivered.end is.handed.messages) first pieces.0))
    (one_piece law published next new steps os ran.2 pieces.1 kept.1)

-- The same after a first step that may have given up messages.
pub piece_from : TakenLaw → (published : List Message) (old new : Repairer) (step : RepairStep) (steps : List RepairStep)
    (o : Outcome) (os : List Outcome) (ran : IsRepaired old new (step ∷ steps) (o ∷ os))
    → ArePieces published old new (step ∷ steps) (o ∷ os) ran → AreWithoutLoss os
    → IsPiece published o.delivered.first new.arbiter.view.next (all_delivered old new (step ∷ steps) (o ∷ os) ran)
piece_from law published old new step steps o os ran pieces kept =
    let next = ran.0 in
    let is = ran.1 in
    let moved = has_moved law old next step o is.handed is.stepped in
    let last = ap (λ (g : Gap). g.end) moved.delivered in
    joins published o.delivered.first next.arbiter.view.next new.arbiter.view.next is.handed.messages
    (all_delivered next new steps os ran.2)
    (subst (λ n. IsPiece published o.delivered.first n is.handed.messages) last pieces.0)
    (one_piece law published next new steps os ran.2 pieces.1 kept)
