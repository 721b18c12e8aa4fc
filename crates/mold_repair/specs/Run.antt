-- Runs of a repairer.
use Rattle.std.specs.Prelude.{◌≡◌, ◌⊎◌, ℕ, ◌^◌, Bool, List, [], ◌∷◌, max, nat_lt, Option, None, Some, Result}
use Rattle.std.specs.Prelude.{IfErr, IfOk, OnErr, OnOk}
use Rattle.mold_pacing.specs.declared.gap.Gap.{Gap}
use Rattle.mold_receiver.specs.Arbiter.{HasArbitrated, HasRefused}
use Rattle.mold_receiver.specs.Batch.{Handed}
use Rattle.mold_receiver.specs.Origin.{line_of}
use Rattle.mold_receiver.specs.declared.taken.Taken.{Taken}
use Rattle.mold_repair.specs.Came.{range}
use Rattle.mold_repair.specs.Header.{head}
use Rattle.mold_repair.specs.GivingUp.{HasGivenUp}
use Rattle.mold_repair.specs.Origin.{receiver_origin}
use Rattle.mold_repair.specs.Polls.{HasPolled}
use Rattle.mold_repair.specs.Stats.{counted_lost, counted_poll}
use Rattle.mold_repair.specs.Taking.{HasLearned, HasPassed, taken_steps}
use Rattle.mold_repair.specs.Timing.{IsTimed}
use Rattle.mold_repair.specs.declared.ask.Ask.{Ask}
use Rattle.mold_repair.specs.declared.origin.RepairOrigin.{RepairOrigin}
use Rattle.mold_repair.specs.declared.outcome.Outcome.{Outcome}
use Rattle.mold_repair.specs.declared.repairer.Repairer.{Repairer}
use Rattle.mold_repair.specs.declared.step.RepairStep.{RepairStep}
use Rattle.mold_repair.specs.declared.step.RepairStep.TheVariants.{Take, Poll, Lost, Pass}
use Rattle.mold_rule.specs.declared.refusal.Refusal.{Refusal}
use Rattle.mold_wire.specs.Reading.{reading}

-- The time of a step.
abbrev pub time_of : RepairStep → ℕ
time_of (Take time origin datagram) = time
time_of (Poll time) = time
time_of (Lost time) = time
time_of (Pass time) = time

-- Whether a repairer may take the step: its time is below 2^62.
abbrev pub can_step : RepairStep → Bool
can_step step = nat_lt (time_of step) (2 ^ 62)

-- A batch with no messages.
abbrev pub nothing : Handed
nothing = record { first = 0; messages = [] }

-- The number after the messages that were given up, or `next` if none were.
abbrev pub after_lost : ℕ → Option Gap → ℕ
after_lost next None = next
after_lost next (Some gap) = gap.end

-- What a step returned. It delivered the messages from the old `next` on, without those that were given up.
abbrev pub delivers : Repairer → Repairer → Option Ask → Option Gap → Outcome
delivers old new ask lost = record {
  ask = ask;
  lost = lost;
  delivered = range (after_lost old.arbiter.view.next lost) new.arbiter.view.next;
}

-- A datagram was taken: it is accepted or refused as the arbiter does it, and the pacer learned of it.
pub record HasTaken (old new : Repairer) (time : ℕ) (origin : RepairOrigin) (bytes : List ℕ) (handed : Handed) :
    Type 0 where
  pub result : Result Taken Refusal
  pub taken : IfOk result
      (λ taken. HasArbitrated (line_of (receiver_origin origin)) old.arbiter bytes nothing new.arbiter handed taken)
  pub refused : IfErr result
      (λ refused. HasRefused (line_of (receiver_origin origin)) old.arbiter bytes new.arbiter refused)
  pub batch : OnErr result (handed ≡ nothing)
  pub learned : OnOk result (HasLearned old.pacer new.pacer
      (taken_steps old.options time origin bytes old.arbiter.view new.arbiter.view new.delays old.pacer))
  pub timed : OnOk result (IsTimed old.options (max old.pacer.state.now time) origin (head (reading bytes))
      old.delays new.delays)
  pub passed : OnErr result (HasPassed time old.arbiter.view old.pacer new.pacer)
  pub given_up : new.counts.lost ≡ old.counts.lost

-- A poll returned this request, or none.
pub record HasPolledOnce (old new : Repairer) (time : ℕ) (handed : Handed) (outcome : Outcome) : Type 0 where
  pub polled : HasPolled old.options old.arbiter.view old.pacer new.pacer time outcome.ask
  pub returned : outcome ≡ delivers old new outcome.ask None
  pub arbiter : new.arbiter ≡ old.arbiter
  pub batch : handed ≡ nothing
  pub delays : new.delays ≡ old.delays
  pub counts : new.counts ≡ counted_poll outcome.ask old.counts

-- Only the time passed.
pub record HasWaited (old new : Repairer) (time : ℕ) (handed : Handed) (outcome : Outcome) : Type 0 where
  pub passed : HasPassed time old.arbiter.view old.pacer new.pacer
  pub returned : outcome ≡ delivers old new None None
  pub arbiter : new.arbiter ≡ old.arbiter
  pub batch : handed ≡ nothing
  pub delays : new.delays ≡ old.delays
  pub counts : new.counts ≡ old.counts

-- These messages were given up, if any were.
pub record HasLostSome (old new : Repairer) (time : ℕ) (handed : Handed) (outcome : Outcome) : Type 0 where
  pub gave : HasGivenUp time old.options.give_up old.arbiter new.arbiter nothing handed old.pacer new.pacer outcome.lost
  pub returned : outcome ≡ delivers old new None outcome.lost
  pub delays : new.delays ≡ old.delays
  pub counts : new.counts ≡ counted_lost outcome.lost old.counts

-- The step changed the repairer from `old` to `new`, delivered these messages, and returned this. If an allocation
-- fails while messages are given up, only the time passes.
abbrev pub HasStepped : Repairer → Repairer → RepairStep → Handed → Outcome → Type 0
HasStepped old new (Take time origin datagram) handed outcome =
    HasTaken old new time origin datagram.now handed × (outcome ≡ delivers old new None None)
HasStepped old new (Poll time) handed outcome = HasPolledOnce old new time handed outcome
HasStepped old new (Lost time) handed outcome =
    HasLostSome old new time handed outcome ⊎ HasWaited old new time handed outcome
HasStepped old new (Pass time) handed outcome = HasWaited old new time handed outcome

-- A step of a run. The options stay the same.
pub record IsStepOf (old new : Repairer) (step : RepairStep) (outcome : Outcome) : Type 0 where
  pub handed : Handed
  pub stepped : HasStepped old new step handed outcome
  pub options : new.options ≡ old.options

-- The steps changed the repairer from `old` to `new`, one after the other. There is one outcome for each.
abbrev pub IsRepaired : Repairer → Repairer → List RepairStep → List Outcome → Type 0
IsRepaired old new [] [] = new ≡ old
IsRepaired old new [] (outcome ∷ outcomes) = ⊥
IsRepaired old new (step ∷ steps) [] = ⊥
IsRepaired old new (step ∷ steps) (outcome ∷ outcomes) =
    (next : Repairer) × IsStepOf old next step outcome × IsRepaired next new steps outcomes
