-- What the laws of a run state.
use Rattle.std.specs.Prelude.{◌≡◌, ◌⊎◌, ℕ, ◌+◌, ◌-◌, ◌<◌, ◌≤◌, List, [], ◌∷◌, ◌++◌, length, Option, None, Some, IfSome}
use Rattle.mold_pacing.specs.Laws.{AreApart}
use Rattle.mold_pacing.specs.Run.{IsRun}
use Rattle.mold_pacing.specs.declared.ask.Ask.{Ask as Sent}
use Rattle.mold_pacing.specs.declared.delays.Delays.{Delays}
use Rattle.mold_pacing.specs.declared.gap.Gap.{Gap}
use Rattle.mold_pacing.specs.declared.pacer.Pacer.{Pacer}
use Rattle.mold_pacing.specs.declared.step.Step.{Step}
use Rattle.mold_pacing.specs.declared.step.Step.TheVariants.{Adapt, Advance, Arrive, Poll as PollGaps, Respond}
use Rattle.mold_receiver.specs.Batch.{Handed, followed_by}
use Rattle.mold_receiver.specs.Store.{Message}
use Rattle.mold_receiver.specs.View.{View}
use Rattle.mold_repair.specs.Came.{range}
use Rattle.mold_repair.specs.Polls.{returned}
use Rattle.mold_repair.specs.Run.{after_lost, nothing}
use Rattle.mold_repair.specs.Taking.{taken_steps}
use Rattle.mold_repair.specs.declared.ask.Ask.{Ask}
use Rattle.mold_repair.specs.declared.options.RepairOptions.{RepairOptions}
use Rattle.mold_repair.specs.declared.outcome.Outcome.{Outcome}
use Rattle.mold_repair.specs.declared.repairer.Repairer.{Repairer}
use Rattle.mold_repair.specs.declared.step.RepairStep.{RepairStep}
use Rattle.mold_repair.specs.declared.step.RepairStep.TheVariants.{Lost, Pass, Poll, Take}
use Rattle.mold_wire.specs.declared.session.Session.{Session}

-- The batch has the messages of these numbers.
pub record HasNumbers (handed : Handed) (g : Gap) : Type 0 where
  pub messages : List Message
  pub batch : handed ≡ followed_by nothing g.first messages
  pub counted : g.first + length messages ≡ g.end

-- A step after which the messages below `end` are delivered or lost, if those below `next` were before. First come the
-- numbers of the lost messages, then those of the delivered ones.
pub record Continues (next : ℕ) (o : Outcome) : Type 0 where
  pub lost : IfSome o.lost (λ gap. (gap.first ≡ next) × (gap.first < gap.end))
  pub delivered : o.delivered.first ≡ after_lost next o.lost
  pub order : o.delivered.first ≤ o.delivered.end

-- The numbers of the messages that were delivered, and of those that were given up, follow each other without a number
-- left out or repeated, from `next` to just below `end`.
abbrev pub AreInOrder : ℕ → List Outcome → ℕ → Type 0
AreInOrder next [] end = next ≡ end
AreInOrder next (o ∷ os) end = Continues next o × AreInOrder o.delivered.end os end

-- The request before some others, if there is one.
abbrev pub listed : Option Ask → List Ask → List Ask
listed None asks = asks
listed (Some ask) asks = ask ∷ asks

-- The requests of the run.
abbrev pub requests_of : List Outcome → List Ask
requests_of [] = []
requests_of (o ∷ os) = listed o.ask (requests_of os)

-- The range before some others, if there is one.
abbrev pub with_gap : Option Gap → List Gap → List Gap
with_gap None gaps = gaps
with_gap (Some gap) gaps = gap ∷ gaps

-- The ranges that the run gave up, in order.
abbrev pub all_lost : List Outcome → List Gap
all_lost [] = []
all_lost (o ∷ os) = with_gap o.lost (all_lost os)

-- How many numbers the ranges have.
abbrev pub count_numbers : List Gap → ℕ
count_numbers [] = 0
count_numbers (gap ∷ gaps) = (gap.end - gap.first) + count_numbers gaps

-- The requests that are returned for those of a pacer.
abbrev pub returned_all : Session → ℕ → List (Option Sent) → List Ask
returned_all session servers [] = []
returned_all session servers (sent ∷ more) = listed (returned session servers sent) (returned_all session servers more)

-- The step is a poll.
abbrev pub IsPollStep : Step → Type 0
IsPollStep (PollGaps gaps) = Unit {0}
IsPollStep (Advance time known) = ⊥
IsPollStep (Adapt patience) = ⊥
IsPollStep (Respond server came) = ⊥
IsPollStep (Arrive came) = ⊥

-- The steps are polls.
abbrev pub ArePollSteps : List Step → Type 0
ArePollSteps [] = Unit {0}
ArePollSteps (step ∷ steps) = IsPollStep step × ArePollSteps steps

-- The steps of the pacer in a step of the repairer: the time, then polls, or what arrived. With a server, a poll of the
-- repairer is one poll of the pacer.
abbrev pub ArePacerSteps : RepairOptions → RepairStep → List Step → Type 0
ArePacerSteps options (Take time origin datagram) steps =
    ((before after : View) × (delays : Delays) × (p : Pacer)
    × (steps ≡ taken_steps options time origin datagram.now before after delays p))
    ⊎ ((known : ℕ) × (steps ≡ Advance time known ∷ []))
ArePacerSteps options (Poll time) steps =
    (known : ℕ) × (polls : List Step) × ArePollSteps polls × (0 < options.servers → length polls ≡ 1)
    × (steps ≡ Advance time known ∷ polls)
ArePacerSteps options (Lost time) steps =
    ((known next : ℕ) × (steps ≡ Advance time known ∷ Arrive (range 0 next) ∷ []))
    ⊎ ((known : ℕ) × (steps ≡ Advance time known ∷ []))
ArePacerSteps options (Pass time) steps = (known : ℕ) × (steps ≡ Advance time known ∷ [])

-- The steps of the pacer are those of the repairer's steps, one after the other.
abbrev pub AreAllPacerSteps : RepairOptions → List RepairStep → List Step → Type 0
AreAllPacerSteps options [] all = all ≡ []
AreAllPacerSteps options (step ∷ steps) all =
    (first rest : List Step) × ArePacerSteps options step first × (all ≡ first ++ rest)
    × AreAllPacerSteps options steps rest

-- A run of the repairer is a run of its pacer, which sent its requests.
pub record IsPaced (old new : Repairer) (steps : List RepairStep) (outcomes : List Outcome) : Type 0 where
  pub pacer_steps : List Step
  pub sent : List (Option Sent)
  pub are : AreAllPacerSteps old.options steps pacer_steps
  pub ran : IsRun old.pacer new.pacer pacer_steps sent
  pub requests : requests_of outcomes ≡ returned_all old.arbiter.view.session old.options.servers sent
  -- No number is requested twice within the timeout, unless a step freed the request for it.
  pub apart : AreApart old.options.timeout old.pacer.state.now pacer_steps sent

-- The request begins with the first missing message.
abbrev pub RequestsFirst : View → Option Ask → Type 0
RequestsFirst v None = ⊥
RequestsFirst v (Some ask) = ask.request.sequence ≡ v.next
