-- Each delivery leaves fewer messages missing.
use Rattle.std.proofs.Common.{◌≡◌, ◌⊎◌, ℕ, zero, suc, ◌+◌, ◌-◌, ◌<◌, ◌≤◌, min, Bool, true, false, cond, ltb}
use Rattle.std.proofs.Common.{List, [], ◌∷◌, Option, None, Some, Result, Ok, Err}
use Rattle.std.proofs.Common.{refl, ap, ◌∙◌, sym, subst, arith, inl, inr, nat_lt, IfErr, IfOk, IfSome}
use Rattle.std.specs.Prelude.{is_none, is_some}
use Rattle.std.specs.FinMap as finite
use Rattle.std.proofs.lemmas.Bool.{true≢false, cases_lt, cond-false, cond-true, le-ltb, lt-ltb}
use Rattle.mold_pacing.specs.declared.gap.Gap.{Gap}
use Rattle.mold_receiver.specs.Arbiter.{Arbitration, HasArbitrated, HasRefused, arbitrated}
use Rattle.mold_receiver.specs.Batch.{Handed}
use Rattle.mold_receiver.specs.Having.{HasAllOf}
use Rattle.mold_receiver.specs.Honest.{IsHonest, IsTakenHonestly}
use Rattle.mold_receiver.specs.Origin.{line_of}
use Rattle.mold_receiver.specs.Receive.{Reception, receive, view_after}
use Rattle.mold_receiver.specs.Store.{Message}
use Rattle.mold_receiver.specs.View.{View, IsWellFormed}
use Rattle.mold_receiver.specs.Wanted.{lacks}
use Rattle.mold_receiver.specs.declared.line.Line.{Line as TheLine}
use Rattle.mold_receiver.specs.declared.taken.Taken.{Taken}
use Rattle.mold_repair.specs.CatchUp.{BringsFirst, RanOutOfMemory, TakesFirst, count_deliveries, missing_below}
use Rattle.mold_repair.specs.Origin.{receiver_origin}
use Rattle.mold_repair.specs.Run.{IsRepaired, IsStepOf, after_lost, nothing}
use Rattle.mold_repair.specs.declared.outcome.Outcome.{Outcome}
use Rattle.mold_repair.specs.declared.repairer.Repairer.{Repairer}
use Rattle.mold_repair.specs.declared.step.RepairStep.{RepairStep}
use Rattle.mold_repair.specs.declared.step.RepairStep.TheVariants.{Lost, Pass, Poll, Take}
use Rattle.mold_repair.proofs.LawLemmas.{TakenLaw, has_moved, taken_view}
use Rattle.mold_repair.proofs.ProgressLemmas.{Continues, ReceiverLaws, goes_on}
use Rattle.mold_rule.specs.Ranges.{lacking}
use Rattle.mold_rule.specs.declared.refusal.Refusal.{Refusal}
use Rattle.mold_rule.specs.declared.refusal.Refusal.TheVariants.{Memory}
use Rattle.mold_wire.specs.Packet.{Spells, top_of}
use Rattle.mold_wire.specs.Reading.{reading}
use Rattle.mold_wire.specs.Truth.{IsTruePacket}
use Rattle.mold_wire.specs.declared.error.DecodeError.{DecodeError}
use Rattle.mold_wire.specs.declared.packet.Packet.{Packet}

counts_none : (f : ℕ → Bool) (low : ℕ) → lacking f low 0 ≡ 0
unfolding lacking
counts_none f low = refl

counts_one : (f : ℕ → Bool) (low count : ℕ) → lacking f low (suc count) ≡ cond (f low) 1 0 + lacking f (suc low) count
unfolding lacking
counts_one f low count = refl

at_most : (a b : Bool) → (b ≡ true → a ≡ true) → cond b 1 0 ≤ cond a 1 0
at_most true true more = omega arith
at_most true false more = omega arith
at_most false true more = absurd (true≢false (sym (more refl)))
at_most false false more = omega arith

fewer : (f g : ℕ → Bool) (count low : ℕ) → ((q : ℕ) → low ≤ q → g q ≡ true → f q ≡ true) →
    lacking g low count ≤ lacking f low count
fewer f g zero low each = omega (arith, counts_none f low, counts_none g low)
fewer f g (suc count) low each =
    let rest = fewer f g count (suc low) (λ q from is. each q (omega (arith, from)) is) in
    let here = at_most (f low) (g low) (each low (omega arith)) in
    omega (arith, counts_one f low count, counts_one g low count, here, rest)

-- Fewer of the later numbers are missing.
later : (f : ℕ → Bool) (more low count : ℕ) → lacking f (low + more) (count - more) ≤ lacking f low count
later f zero low count =
    let at : low + 0 ≡ low = omega arith in
    let left : count - 0 ≡ count = omega arith in
    let same : lacking f (low + 0) (count - 0) ≡ lacking f low count = (λ i. lacking f (at i) (left i)) in
    omega (arith, same)
later f (suc more) low zero =
    let left : 0 - suc more ≡ 0 = omega arith in
    let none = ap (lacking f (low + suc more)) left ∙ counts_none f (low + suc more) in
    omega (arith, none)
later f (suc more) low (suc count) =
    let at : low + suc more ≡ suc low + more = omega arith in
    let left : suc count - suc more ≡ count - more = omega arith in
    let same : lacking f (low + suc more) (suc count - suc more) ≡ lacking f (suc low + more) (count - more) =
    (λ i. lacking f (at i) (left i)) in
    omega (arith, same, later f more (suc low) count, counts_one f low count)

none_at : (o : Option Message) → is_none o ≡ true → is_some o ≡ true → ⊥
none_at None none some = true≢false (sym some)
none_at (Some m) none some = true≢false (sym none)

none_is : (o : Option Message) → (is_some o ≡ true → ⊥) → is_none o ≡ true
none_is None never = refl
none_is (Some m) never = absurd (never refl)

lacked_before : (v w : View) → HasAllOf v w → (q : ℕ) → w.next ≤ q → lacks w.store q ≡ true → lacks v.store q ≡ true
lacked_before v w has q from lacked =
    none_is (finite.get v.store q) (λ some.
    elim (has q (inr some)) [
      | inl below ↦ omega (arith, below, from)
      | inr there ↦ none_at (finite.get w.store q) lacked there
    ])

next_lacked : (v : View) → IsWellFormed v → lacks v.store v.next ≡ true
next_lacked v well =
    elim (finite.get v.store v.next) as (λ o. finite.get v.store v.next ≡ o → is_none (finite.get v.store v.next) ≡ true) [
      | None ↦ λ e. ap is_none e
      | Some m ↦ λ e. let lies = well.stored v.next m e in absurd (omega (arith, lies.0))
    ] refl

-- What is missing after a step was missing before.
stays : (v w : View) (limit : ℕ) → Continues v w → missing_below w limit ≤ missing_below v limit
stays v w limit on =
    let more = w.next - v.next in
    let at : v.next + more ≡ w.next = omega (arith, on.ahead) in
    let left : limit - v.next - more ≡ limit - w.next = omega (arith, on.ahead) in
    let same : lacking (lacks v.store) (v.next + more) (limit - v.next - more) ≡ lacking (lacks v.store) w.next
    (limit - w.next) = (λ i. lacking (lacks v.store) (at i) (left i)) in
    omega (
      arith,
      later (lacks v.store) more v.next (limit - v.next),
      same,
      fewer (lacks v.store) (lacks w.store) (limit - w.next) w.next (λ q from is. lacked_before v w on.has q from is),
    )

-- If `next` moves, at least one message less is missing.
falls : (v w : View) (limit : ℕ) → IsWellFormed v → Continues v w → v.next < w.next → v.next < limit →
    missing_below w limit < missing_below v limit
falls v w limit well on moves below =
    let more = w.next - suc v.next in
    let count = limit - suc v.next in
    let at : suc v.next + more ≡ w.next = omega (arith, moves) in
    let left : count - more ≡ limit - w.next = omega (arith, moves, below) in
    let all : limit - v.next ≡ suc count = omega (arith, below) in
    let same : lacking (lacks v.store) (suc v.next + more) (count - more) ≡ lacking (lacks v.store) w.next
    (limit - w.next) = (λ i. lacking (lacks v.store) (at i) (left i)) in
    let first = ap (lacking (lacks v.store) v.next) all ∙ counts_one (lacks v.store) v.next count
    ∙ ap (λ b. cond b 1 0 + lacking (lacks v.store) (suc v.next) count) (next_lacked v well) in
    omega (
      arith,
      first,
      later (lacks v.store) more (suc v.next) count,
      same,
      fewer (lacks v.store) (lacks w.store) (limit - w.next) w.next (λ q from is. lacked_before v w on.has q from is),
    )

counted : (v w : View) (limit first end : ℕ) → IsWellFormed v → Continues v w → v.next ≤ first → end ≡ w.next →
    cond (nat_lt first (min limit end)) 1 0 + missing_below w limit ≤ missing_below v limit
counted v w limit first end well on low last =
    elim (cases_lt first (min limit end)) [
      | inl some ↦
          let one : cond (ltb first (min limit end)) 1 0 ≡ 1 = cond-true {A = ℕ} (ltb first (min limit end)) 1 0 (lt-ltb first (min limit end) some) in
          let less = falls v w limit well on (omega (arith, some, low, last)) (omega (arith, some, low)) in
          omega (arith, one, less)
      | inr none ↦
          let zero : cond (ltb first (min limit end)) 1 0 ≡ 0 = cond-false {A = ℕ} (ltb first (min limit end)) 1 0 (le-ltb first (min limit end) none) in
          omega (arith, zero, stays v w limit on)
    ]

after_first : (next : ℕ) (lost : Option Gap) → IfSome lost (λ gap. (gap.first ≡ next) × (gap.first < gap.end)) →
    next ≤ after_lost next lost
after_first next None is = omega arith
after_first next (Some gap) is = omega (arith, is.0, is.1)

pub catches_up : ReceiverLaws → (limit : ℕ) (old new : Repairer) (steps : List RepairStep) (os : List Outcome) →
    IsRepaired old new steps os → IsWellFormed old.arbiter.view →
    count_deliveries limit os + missing_below new.arbiter.view limit ≤ missing_below old.arbiter.view limit
catches_up laws limit old new [] [] ran well =
    let same = ap (λ (r : Repairer). missing_below r.arbiter.view limit) ran in omega (arith, same)
catches_up laws limit old new [] (o ∷ os) ran well = absurd ran
catches_up laws limit old new (step ∷ steps) [] ran well = absurd ran
catches_up laws limit old new (step ∷ steps) (o ∷ os) ran well =
    let next = ran.0 in
    let is = ran.1 in
    let v = old.arbiter.view in
    let w = next.arbiter.view in
    let moved = has_moved laws.taken old next step o is.handed is.stepped in
    let on = goes_on laws old next step o is.handed is.stepped well in
    let first = ap (λ (g : Gap). g.first) moved.delivered in
    let last = ap (λ (g : Gap). g.end) moved.delivered in
    let low = after_first v.next o.lost moved.lost in
    let one = counted v w limit o.delivered.first o.delivered.end well on (omega (arith, low, first)) last in
    omega (arith, one, catches_up laws limit next new steps os ran.2 on.well_formed)

-- While `next` is below the limit, a message below it is missing.
pub some_missing : (v : View) (limit : ℕ) → IsWellFormed v → missing_below v limit ≡ 0 → limit ≤ v.next
some_missing v limit well none =
    elim (cases_lt v.next limit) [
      | inr passed ↦ passed
      | inl below ↦
          let count = limit - suc v.next in
          let all : limit - v.next ≡ suc count = omega (arith, below) in
          let first = ap (lacking (lacks v.store) v.next) all ∙ counts_one (lacks v.store) v.next count
          ∙ ap (λ b. cond b 1 0 + lacking (lacks v.store) (suc v.next) count) (next_lacked v well) in
          omega (arith, first, none)
    ]

pub stays_well : ReceiverLaws → (old new : Repairer) (steps : List RepairStep) (os : List Outcome) →
    IsRepaired old new steps os → IsWellFormed old.arbiter.view → IsWellFormed new.arbiter.view
stays_well laws old new [] [] ran well = subst (λ (r : Repairer). IsWellFormed r.arbiter.view) (sym ran) well
stays_well laws old new [] (o ∷ os) ran well = absurd ran
stays_well laws old new (step ∷ steps) [] ran well = absurd ran
stays_well laws old new (step ∷ steps) (o ∷ os) ran well =
    let on = goes_on laws old ran.0 step o ran.1.handed ran.1.stepped well in
    stays_well laws ran.0 new steps os ran.2 on.well_formed

pub caught_up : ReceiverLaws → (limit : ℕ) (old new : Repairer) (steps : List RepairStep) (os : List Outcome) →
    IsRepaired old new steps os → IsWellFormed old.arbiter.view →
    missing_below old.arbiter.view limit ≤ count_deliveries limit os → limit ≤ new.arbiter.view.next
caught_up laws limit old new steps os ran well enough =
    some_missing new.arbiter.view limit (stays_well laws old new steps os ran well)
    (omega (arith, enough, catches_up laws limit old new steps os ran well))

err_ok : {x : Refusal} {y : Reception} → ◌≡◌ {A = Result Reception Refusal} (Err x) (Ok y) → ⊥
err_ok e = cc

same_ok : {x y : Reception} → ◌≡◌ {A = Result Reception Refusal} (Ok x) (Ok y) → x ≡ y
same_ok e = cc

-- The laws of the crates below that are used for a true datagram.
pub record TrueLaws : Type 0 where
  pub takes : (v : View) (packet : Packet) (bytes : List ℕ) (published : List Message) (closed : Bool) →
      IsHonest v published closed → Spells packet bytes → packet.session ≡ v.session →
      IsTruePacket packet published closed → IsTakenHonestly v bytes published closed
  pub read : (packet : Packet) (bytes : List ℕ) → Spells packet bytes → reading bytes ≡ Ok packet
  pub taken : TakenLaw
  pub through : (v : View) (p : Packet) → IsWellFormed v → p.sequence ≤ v.next → top_of p ≤ (view_after v p).next

ok_packet : {x y : Packet} → ◌≡◌ {A = Result Packet DecodeError} (Ok x) (Ok y) → x ≡ y
ok_packet e = cc

-- A datagram with the first missing message is accepted, and delivers it.
accepted : TrueLaws → (v : View) (published : List Message) (closed : Bool) (bytes : List ℕ) →
    IsHonest v published closed → BringsFirst v published closed bytes
    → (r : Reception) × ((receive v bytes ≡ Ok r) × (v.next < r.view.next))
accepted laws v published closed bytes honest brings =
    let told = brings.truth in
    let took = laws.takes v told.packet bytes published closed honest told.spelled told.session told.so in
    let packet = laws.taken v bytes took.reception took.received in
    let same = ok_packet (sym packet.read ∙ laws.read told.packet bytes told.spelled) in
    let through = laws.through v told.packet honest.well_formed brings.begins in
    let next = ap (λ (x : Reception). x.view.next) packet.taken ∙ ap (λ (p : Packet). (view_after v p).next) same in
    (took.reception, (took.received, omega (arith, next, through, brings.some)))

result_first : TrueLaws → (old new : Arbitration) (line : Option TheLine) (bytes : List ℕ) (handed : Handed)
    (published : List Message) (closed : Bool) (r : Result Taken Refusal)
    → IfOk r (λ t. HasArbitrated line old bytes nothing new handed t)
    → IfErr r (λ e. HasRefused line old bytes new e) → IsHonest old.view published closed
    → BringsFirst old.view published closed bytes → (old.view.next < new.view.next) ⊎ (r ≡ Err Memory)
result_first laws old new line bytes handed published closed (Ok t) has refused honest brings =
    let there = accepted laws old.view published closed bytes honest brings in
    let view = ap (λ (a : Arbitration). a.view) (has.arbitration ∙ ap (arbitrated line bytes old) has.received)
    ∙ taken_view line bytes old has.reception in
    let same = same_ok (sym has.received ∙ there.1.0) in
    let next = ap (λ (w : View). w.next) view ∙ ap (λ (x : Reception). x.view.next) same in
    inl (omega (arith, next, there.1.1))
result_first laws old new line bytes handed published closed (Err e) taken has honest brings =
    elim has [
      | inl memory ↦ inr (ap Err memory.0)
      | inr rule ↦
          let there = accepted laws old.view published closed bytes honest brings in
          absurd (err_ok (sym rule.0 ∙ there.1.0))
    ]

one_delivery : (limit : ℕ) (o : Outcome) → o.delivered.first < limit → o.delivered.first < o.delivered.end →
    count_deliveries limit (o ∷ []) ≡ 1
one_delivery limit o low some =
    let within : o.delivered.first < min limit o.delivered.end = omega (arith, low, some) in
    let one = cond-true {A = ℕ} (ltb o.delivered.first (min limit o.delivered.end)) 1 0
    (lt-ltb o.delivered.first (min limit o.delivered.end) within) in
    omega (arith, one)

pub brings_first : TrueLaws → (limit : ℕ) (old new : Repairer) (step : RepairStep) (o : Outcome)
    (is : IsStepOf old new step o) (published : List Message) (closed : Bool)
    → IsHonest old.arbiter.view published closed → TakesFirst old.arbiter.view published closed step
    → old.arbiter.view.next < limit → (count_deliveries limit (o ∷ []) ≡ 1) ⊎ RanOutOfMemory old new step o is
brings_first laws limit old new (Take time origin datagram) o is published closed honest brings low =
    let t = is.stepped.0 in
    let first = ap (λ (x : Outcome). x.delivered.first) is.stepped.1 in
    let last = ap (λ (x : Outcome). x.delivered.end) is.stepped.1 in
    elim (result_first laws old.arbiter new.arbiter (line_of (receiver_origin origin)) datagram.now is.handed published
    closed t.result t.taken t.refused honest brings) [
      | inl moves ↦ inl (one_delivery limit o (omega (arith, first, low)) (omega (arith, first, last, moves)))
      | inr memory ↦ inr memory
    ]
brings_first laws limit old new (Poll time) o is published closed honest brings low = absurd brings
brings_first laws limit old new (Lost time) o is published closed honest brings low = absurd brings
brings_first laws limit old new (Pass time) o is published closed honest brings low = absurd brings
