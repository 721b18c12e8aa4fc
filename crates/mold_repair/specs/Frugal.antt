-- Requests are frugal.
use Rattle.std.specs.Prelude.{◌≡◌, List, [], ◌∷◌, Option, Ok}
use Rattle.mold_pacing.specs.Frugal.{AreMissingOnce, IsFrugal}
use Rattle.mold_pacing.specs.Run.{IsRun}
use Rattle.mold_pacing.specs.declared.ask.Ask.{Ask as Sent}
use Rattle.mold_pacing.specs.declared.step.Step.{Step}
use Rattle.mold_receiver.specs.Receive.{HasRoomFor}
use Rattle.mold_receiver.specs.View.{View}
use Rattle.mold_repair.specs.Laws.{AreAllPacerSteps, requests_of, returned_all}
use Rattle.mold_repair.specs.Run.{IsRepaired}
use Rattle.mold_repair.specs.declared.outcome.Outcome.{Outcome}
use Rattle.mold_repair.specs.declared.repairer.Repairer.{Repairer}
use Rattle.mold_repair.specs.declared.step.RepairStep.{RepairStep}
use Rattle.mold_repair.specs.declared.step.RepairStep.TheVariants.{Lost, Pass, Poll, Take}
use Rattle.mold_wire.specs.Reading.{reading}
use Rattle.mold_wire.specs.declared.packet.Packet.{Packet}

-- A run of the repairer is a run of its pacer, which sent its requests, and these are frugal. The pacer never learns
-- that a number is missing after it learned that this number arrived.
pub record IsFrugalRun (old new : Repairer) (steps : List RepairStep) (outcomes : List Outcome) : Type 0 where
  pub pacer_steps : List Step
  pub sent : List (Option Sent)
  pub are : AreAllPacerSteps old.options steps pacer_steps
  pub ran : IsRun old.pacer new.pacer pacer_steps sent
  pub requests : requests_of outcomes ≡ returned_all old.arbiter.view.session old.options.servers sent
  pub once : AreMissingOnce pacer_steps
  pub frugal : IsFrugal old.pacer new.pacer pacer_steps sent ran

-- If the step takes a datagram that encodes a packet, the store has room for it.
abbrev pub HasRoomForStep : View → RepairStep → Type 0
HasRoomForStep v (Take time origin datagram) =
    (packet : Packet) → reading datagram.now ≡ Ok packet → HasRoomFor v packet
HasRoomForStep v (Poll time) = Unit {0}
HasRoomForStep v (Lost time) = Unit {0}
HasRoomForStep v (Pass time) = Unit {0}

-- The store has room for each packet of the run.
abbrev pub HasRoom : (old new : Repairer) (steps : List RepairStep) (outcomes : List Outcome) →
    IsRepaired old new steps outcomes → Type 0
HasRoom old new [] [] ran = Unit {0}
HasRoom old new [] (o ∷ os) ran = ⊥
HasRoom old new (step ∷ steps) [] ran = ⊥
HasRoom old new (step ∷ steps) (o ∷ os) ran = HasRoomForStep old.arbiter.view step × HasRoom ran.0 new steps os ran.2
