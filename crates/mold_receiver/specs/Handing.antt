-- Definitions for the functions that deliver messages.
use Rattle.std.specs.Prelude.{◌≡◌, ℕ, ◌+◌, ◌-◌, ◌<◌, ◌≤◌, ◌^◌, List, ◌++◌, Some, None, drop, length, min, replicate}
use Rattle.mold_wire.specs.declared.limits.TheConstants.{MAX_WIDE_WINDOW}
use Rattle.mold_receiver.specs.Batch.{Handed, Follows, followed_by}
use Rattle.mold_receiver.specs.Slots.{Slot, slot_at}
use Rattle.mold_receiver.specs.Store.{Message, run_from}

-- The packet has these messages, from `first` to just below `top`, and the message `next` is among them. The batch is
-- empty or ends just before `next`.
pub record HasNext (batch : Handed) (next first top : ℕ) (messages : List Message) : Type 0 where
  pub follows : Follows batch next
  pub begun : first ≤ next
  pub ahead : next < top
  pub ends : first + length messages ≡ top

-- Each message in the slots has a number below 2^64 - 1. The first slot has the number `next`.
abbrev pub AreNumbered : List Slot → ℕ → Type 0
AreNumbered slots next = (i : ℕ) (message : Message) → slot_at slots i ≡ Some message → next + i + 1 < 2 ^ 64

-- The messages in the slots from `start` on, up to the first empty slot.
abbrev pub run_in : List Slot → ℕ → List Message
run_in slots start = run_from (slot_at slots) start (length slots - start)

-- The packet's messages from `next` on and the stored messages that follow them.
abbrev pub run_of : List Slot → ℕ → ℕ → ℕ → List Message → List Message
run_of slots next first top messages = drop (next - first) messages ++ run_in slots (top - next)

-- The batch grew by the messages `run`, numbered from `next` on. `told` is one more than the number of the last.
pub record HasHandedOn (old new : Handed) (next : ℕ) (run : List Message) (told : ℕ) : Type 0 where
  pub batch : new ≡ followed_by old next run
  pub after : told ≡ next + length run

-- The messages in the slots from `start` on, up to the first empty slot `end`, were appended to the batch. The first
-- slot had the number `next`. The slots before `end` were dropped, as far as they exist, and as many empty ones appended.
pub record HasDelivered (old new : List Slot) (before after : Handed) (next start end : ℕ) : Type 0 where
  pub batch : after ≡ followed_by before (next + start) (run_in old start)
  pub stopped : end ≡ start + length (run_in old start)
  pub fits : next + end < 2 ^ 64
  pub near : end ≤ start + MAX_WIDE_WINDOW
  pub moved : new ≡ drop (min end (length old)) old ++ replicate (min end (length old)) None

-- The batch grew by some messages from `next` on, or stayed as it was.
pub record Grew (old new : Handed) (next : ℕ) : Type 0 where
  pub handed : List Message
  pub batch : new ≡ followed_by old next handed

-- The list `new` is `old` followed by a prefix of `others`.
pub record HasMore (old new others : List Message) : Type 0 where
  -- The prefix of `others` that was appended.
  pub more : List Message
  -- The rest of `others`.
  pub left : List Message
  pub messages : new ≡ old ++ more
  pub parts : more ++ left ≡ others
