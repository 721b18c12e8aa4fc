-- How many messages were given up.
use Rattle.std.proofs.Common.{◌≡◌, ℕ, ◌+◌, ◌-◌, ◌<◌, ◌^◌, List, [], ◌∷◌, Option, None, Some}
use Rattle.std.proofs.Common.{refl, ap, ◌∙◌, sym, subst, arith, inl, inr}
use Rattle.std.specs.Io.Iter.{u64_saturate}
use Rattle.mold_pacing.specs.declared.gap.Gap.{Gap}
use Rattle.mold_receiver.specs.Batch.{Handed}
use Rattle.mold_receiver.specs.declared.line.Line.{Line as TheLine}
use Rattle.mold_receiver.specs.declared.line.Line.TheVariants.{A, B}
use Rattle.mold_receiver.specs.declared.taken.Taken.{Taken}
use Rattle.mold_repair.specs.Laws.{all_lost, count_numbers, with_gap}
use Rattle.mold_repair.specs.Run.{HasStepped, IsRepaired}
use Rattle.mold_repair.specs.Stats.{counted_contradiction, counted_line, counted_lost, counted_poll}
use Rattle.mold_repair.specs.Stats.{counted_taken}
use Rattle.mold_repair.specs.declared.ask.Ask.{Ask}
use Rattle.mold_repair.specs.declared.origin.RepairOrigin.{RepairOrigin}
use Rattle.mold_repair.specs.declared.origin.RepairOrigin.TheVariants.{Line, Server}
use Rattle.mold_repair.specs.declared.outcome.Outcome.{Outcome}
use Rattle.mold_repair.specs.declared.repairer.Repairer.{Repairer}
use Rattle.mold_repair.specs.declared.stats.RepairCounts.{RepairCounts}
use Rattle.mold_repair.specs.declared.step.RepairStep.{RepairStep}
use Rattle.mold_repair.specs.declared.step.RepairStep.TheVariants.{Lost, Pass, Poll, Take}

-- Only a loss changes the count.
pub contradicted_lost : (found : Option ℕ) (c : RepairCounts) → (counted_contradiction found c).lost ≡ c.lost
contradicted_lost None c = refl
contradicted_lost (Some number) c = refl

line_lost : (line : TheLine) (taken : Taken) (c : RepairCounts) → (counted_line line taken c).lost ≡ c.lost
line_lost A taken c = grind (arith)
line_lost B taken c = grind (arith)

pub taken_lost : (origin : RepairOrigin) (taken : Taken) (c : RepairCounts) →
    (counted_taken origin taken c).lost ≡ c.lost
taken_lost (Line line) taken c = line_lost line taken c
taken_lost (Server server) taken c = grind (arith)

poll_lost : (ask : Option Ask) (c : RepairCounts) → (counted_poll ask c).lost ≡ c.lost
poll_lost None c = refl
poll_lost (Some ask) c = refl

-- A step that gave up nothing.
none_counted : (o : Outcome) (c : RepairCounts) → o.lost ≡ None → c.lost ≡ (counted_lost o.lost c).lost
none_counted o c none = sym (ap (λ (lost : Option Gap). (counted_lost lost c).lost) none)

step_counted : (old new : Repairer) (step : RepairStep) (handed : Handed) (o : Outcome) →
    HasStepped old new step handed o → new.counts.lost ≡ (counted_lost o.lost old.counts).lost
step_counted old new (Take time origin datagram) handed o did =
    did.0.given_up ∙ none_counted o old.counts (ap (λ (x : Outcome). x.lost) did.1)
step_counted old new (Poll time) handed o did =
    ap (λ (c : RepairCounts). c.lost) did.counts ∙ poll_lost o.ask old.counts
    ∙ none_counted o old.counts (ap (λ (x : Outcome). x.lost) did.returned)
step_counted old new (Lost time) handed o (inl did) = ap (λ (c : RepairCounts). c.lost) did.counts
step_counted old new (Lost time) handed o (inr did) =
    ap (λ (c : RepairCounts). c.lost) did.counts
    ∙ none_counted o old.counts (ap (λ (x : Outcome). x.lost) did.returned)
step_counted old new (Pass time) handed o did =
    ap (λ (c : RepairCounts). c.lost) did.counts
    ∙ none_counted o old.counts (ap (λ (x : Outcome). x.lost) did.returned)

-- The count after a step, and then after others.
saturated : (a b c : ℕ) → u64_saturate (u64_saturate (a + b) + c) ≡ u64_saturate (a + (b + c))
saturated a b c = grind (arith)

below : (a : ℕ) → a < 2 ^ 64 → u64_saturate (a + 0) ≡ a
below a few = grind (arith, few)

limited : (a : ℕ) → u64_saturate a < 2 ^ 64
limited a = grind (arith)

more_counted : (lost : Option Gap) (gaps : List Gap) (c : RepairCounts) → c.lost < 2 ^ 64 →
    (u64_saturate ((counted_lost lost c).lost + count_numbers gaps)
    ≡ u64_saturate (c.lost + count_numbers (with_gap lost gaps))) × ((counted_lost lost c).lost < 2 ^ 64)
more_counted None gaps c few = (refl, few)
more_counted (Some gap) gaps c few =
    (saturated c.lost (gap.end - gap.first) (count_numbers gaps), limited (c.lost + (gap.end - gap.first)))

pub lost_counted : (old new : Repairer) (steps : List RepairStep) (os : List Outcome) → IsRepaired old new steps os →
    old.counts.lost < 2 ^ 64 → new.counts.lost ≡ u64_saturate (old.counts.lost + count_numbers (all_lost os))
lost_counted old new [] [] ran few =
    ap (λ (r : Repairer). r.counts.lost) ran ∙ sym (below old.counts.lost few)
lost_counted old new [] (o ∷ os) ran few = absurd ran
lost_counted old new (step ∷ steps) [] ran few = absurd ran
lost_counted old new (step ∷ steps) (o ∷ os) ran few =
    let next = ran.0 in
    let one : next.counts.lost ≡ (counted_lost o.lost old.counts).lost =
    step_counted old next step ran.1.handed o ran.1.stepped in
    let more = more_counted o.lost (all_lost os) old.counts few in
    lost_counted next new steps os ran.2 (subst (λ (n : ℕ). n < 2 ^ 64) (sym one) more.1)
    ∙ ap (λ (n : ℕ). u64_saturate (n + count_numbers (all_lost os))) one
    ∙ more.0
