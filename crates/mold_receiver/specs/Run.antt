-- Runs of stored messages.
use Rattle.std.specs.Prelude.{◌≡◌, ℕ, ◌+◌, ◌<◌, List, length, Some, slice_get}
use Rattle.mold_receiver.specs.declared.run.Run.{Run}
use Rattle.mold_receiver.specs.Places.{end_from, messages_from}
use Rattle.mold_receiver.specs.Slots.{Slot, slot_at}
use Rattle.mold_receiver.specs.Store.{Message}

-- The messages of a run.
abbrev pub messages_in : Run → List Message
messages_in run = messages_from run.bytes.now 0 run.count

-- The bytes of a run are its blocks and nothing else.
abbrev pub IsWhole : Run → Type 0
IsWhole run = end_from run.bytes.now 0 run.count ≡ length run.bytes.now

-- The run has at least one message. The slots from `slot` on have its messages.
pub record IsRunAt (slots : List Slot) (slot : ℕ) (run : Run) : Type 0 where
  pub some : 0 < run.count
  pub whole : IsWhole run
  pub there : (i : ℕ) (message : Message) → slice_get (messages_in run) i ≡ Some message →
      slot_at slots (slot + i) ≡ Some message
