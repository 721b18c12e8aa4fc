-- What one packet of a plan, and a whole round, do to the receiver that requested them.
use Rattle.std.specs.Prelude.{◌≡◌, ℕ, suc, ◌+◌, ◌<◌, ◌≤◌, Bool, true, false, List, [], ◌∷◌, length}
use Rattle.std.specs.FinMap as finite
use Rattle.mold_receiver.specs.Batch.{Handed, followed_by}
use Rattle.mold_receiver.specs.Gap.{Took}
use Rattle.mold_receiver.specs.Receive.{data_packet, view_after}
use Rattle.mold_receiver.specs.Store.{Message}
use Rattle.mold_receiver.specs.View.{View, IsWellFormed}
use Rattle.mold_receiver.specs.Wanted.{IsGap, missing}
use Rattle.mold_rounds.specs.CatchUp.{filled, round_answer, views_after}
use Rattle.mold_rounds.specs.Rounds.{rounds}
use Rattle.mold_session.specs.Answer.{PlanState, planned}
use Rattle.mold_session.specs.Journal.{JournalState}

-- The rest of the plan is for messages that the view misses at `next`, and it doesn't go past the gap there.
pub record Awaits (v : View) (journal : JournalState) (plan : PlanState) : Type 0 where
  -- One more than the last number of the gap.
  pub end : ℕ
  pub well_formed : IsWellFormed v
  pub session : plan.session ≡ v.session
  pub own : plan.session ≡ journal.session
  pub first : 1 ≤ plan.from
  pub ordered : plan.from ≤ plan.to
  -- The journal has all messages of the plan.
  pub held : plan.to ≤ length journal.messages + 1
  -- The plan doesn't go past the gap.
  pub within : plan.to ≤ end
  -- If the plan has messages left, they begin at `next`, where the view has a gap.
  pub gap : plan.from < plan.to → (v.next ≡ plan.from) × IsGap v end

-- The receiver took the plan's next packet, and the delivered messages were appended to the batch.
pub record TakesOne (v : View) (before : Handed) (journal : JournalState) (limit : ℕ) (plan : PlanState) (w : View)
    (after : Handed) (left : PlanState) : Type 0 where
  -- The messages of the packet.
  pub part : List Message
  pub begins : plan.from ≡ v.next
  -- The plan continues after these messages.
  pub moved : left.from ≡ plan.from + length part
  pub to : left.to ≡ plan.to
  -- The packet is the first of those that were left.
  pub sent : planned journal.messages limit plan
      ≡ data_packet v.session v.next part ∷ planned journal.messages limit left
  pub view : w ≡ view_after v (data_packet v.session v.next part)
  pub took : Took v (length part) w
  pub fewer : missing v ≡ length part + missing w
  -- The rest of the plan is for messages that are still missing.
  pub awaits : Awaits w journal left
  pub batch : after ≡ followed_by before v.next (filled v journal.messages w.next)

-- The plan had no packet left, and nothing changed.
pub record TakesNone (v : View) (before : Handed) (journal : JournalState) (limit : ℕ) (plan : PlanState) (w : View)
    (after : Handed) (left : PlanState) : Type 0 where
  -- The plan has no packet left.
  pub spent : planned journal.messages limit plan ≡ []
  pub view : w ≡ v
  pub batch : after ≡ before
  pub plan_same : left ≡ plan

-- What taking the plan's next packet did, and whether there was one.
abbrev pub TakesNext : Bool → View → Handed → JournalState → ℕ → PlanState → View → Handed → PlanState → Type 0
TakesNext true v before journal limit plan w after left = TakesOne v before journal limit plan w after left
TakesNext false v before journal limit plan w after left = TakesNone v before journal limit plan w after left

-- The view `new` is a later view of the same receiver. From its `next` on, the store is unchanged.
pub record IsAhead (old new : View) : Type 0 where
  pub next : old.next ≤ new.next
  pub session : new.session ≡ old.session
  pub known : new.known ≡ old.known
  pub ended : new.ended ≡ old.ended
  pub window : new.window ≡ old.window
  pub room : new.room ≡ old.room
  pub same : (number : ℕ) → new.next ≤ number → finite.get new.store number ≡ finite.get old.store number

-- A whole round was done. It is one of the rounds that the receiver needs, and at least one missing message was
-- received.
pub record IsRound (v : View) (published : List Message) (limit burst : ℕ) (w : View) : Type 0 where
  -- The view took all responses.
  pub view : w ≡ views_after v (round_answer v published limit burst)
  -- One round fewer is needed.
  pub rest : rounds v published limit burst ≡ suc (rounds w published limit burst)
  -- At least one message fewer is missing.
  pub fewer : suc (missing w) ≤ missing v
