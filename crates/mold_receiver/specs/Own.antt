-- Delivery without a copy: the messages of a datagram that are delivered where they are in it, and the stored messages
-- that follow them.
use Rattle.std.specs.Prelude.{◌≡◌, ◌⊎◌, ℕ, ◌+◌, ◌-◌, ◌<◌, nat_le, List, [], ◌++◌, length, drop, Option, Result, Ok, Err}
use Rattle.std.specs.Prelude.{if◌then◌else◌}
use Rattle.mold_wire.specs.Block.{blocks}
use Rattle.mold_wire.specs.Packet.{messages_of}
use Rattle.mold_wire.specs.Reading.{reading}
use Rattle.mold_wire.specs.declared.error.DecodeError.{DecodeError}
use Rattle.mold_wire.specs.declared.packet.Packet.{Packet}
use Rattle.mold_rule.specs.declared.refusal.Refusal.{Refusal}
use Rattle.mold_rule.specs.declared.refusal.Refusal.TheVariants.{Memory}
use Rattle.mold_receiver.specs.Arbiter.{Arbitration, arbitrates}
use Rattle.mold_receiver.specs.Batch.{Handed, handed_from}
use Rattle.mold_receiver.specs.Receive.{Reception, handed_on, receive, taken_after}
use Rattle.mold_receiver.specs.Store.{Message}
use Rattle.mold_receiver.specs.View.{View}
use Rattle.mold_receiver.specs.declared.line.Line.{Line}
use Rattle.mold_receiver.specs.declared.taken.Taken.{Taken}

-- The packet's own messages: those from `next` on, unless the packet begins above `next`. They are delivered where they
-- are in the datagram.
abbrev pub own_of : View → Packet → List Message
own_of v p = if nat_le p.sequence v.next then drop (v.next - p.sequence) (messages_of p.body) else []

-- The own messages of what was decoded.
abbrev pub own_read : View → Result Packet DecodeError → List Message
own_read v (Ok packet) = own_of v packet
own_read v (Err error) = []

-- The accepted packet delivers its own messages and then those of the batch, which were stored.
pub record HandsOwn (v : View) (p : Packet) (own : List Message) (after : Handed) : Type 0 where
  pub own_is : own ≡ own_of v p
  pub whole : handed_on v p.sequence (messages_of p.body) ≡ own ++ after.messages
  pub begins : after ≡ handed_from (v.next + length own) after.messages

-- The accepted packet stores a message, or delivers one that was stored. Only then may an allocation be needed.
abbrev pub NeedsRoom : View → Packet → Type 0
NeedsRoom v p = length (own_of v p) < (taken_after v p).handed + (taken_after v p).kept

-- The own messages of a datagram and the batch are what the reception delivers. The blocks of the own messages are the
-- last bytes of the datagram. The batch has the stored messages that follow them.
pub record IsOwn (old : View) (bytes : List ℕ) (reception : Reception) (own : List Message) (after : Handed)
    (taken : Taken) : Type 0 where
  pub own_is : own ≡ own_read old (reading bytes)
  -- The bytes before these blocks.
  pub front : List ℕ
  pub lies : bytes ≡ front ++ blocks own
  pub whole : reception.handed ≡ own ++ after.messages
  pub begins : after ≡ handed_from (old.next + length own) after.messages
  -- The counts that were returned are the rule's.
  pub told : taken ≡ reception.taken
  pub counted : taken.handed ≡ length own + length after.messages

-- The receiver accepted the datagram. The new view is what the receiving rule states, and what is delivered is in the
-- datagram and in the batch.
pub record HasHeard (old : View) (bytes : List ℕ) (new : View) (own : List Message) (after : Handed)
    (taken : Taken) : Type 0 where
  -- The effect of the datagram by the receiving rule.
  pub reception : Reception
  pub received : receive old bytes ≡ Ok reception
  pub view : new ≡ reception.view
  pub delivers : IsOwn old bytes reception own after taken

-- The datagram is accepted. It stores a message, or delivers one that was stored, so an allocation may fail.
pub record IsCopiedBehind (v : View) (bytes : List ℕ) : Type 0 where
  pub reception : Reception
  pub received : receive v bytes ≡ Ok reception
  pub some : length (own_read v (reading bytes)) < reception.taken.handed + reception.taken.kept

-- The datagram is refused for this reason. Either the receiving rule refuses it, or the rule accepts it and an
-- allocation for stored messages failed.
abbrev pub IsUnheardFor : View → List ℕ → Refusal → Type 0
IsUnheardFor v bytes refused = ((refused ≡ Memory) × IsCopiedBehind v bytes) ⊎ (receive v bytes ≡ Err refused)

-- The arbiter accepted a datagram. Its new arbitration is what the receiving rule states, and what is delivered is in
-- the datagram and in the batch.
pub record HasArbitratedOwn (line : Option Line) (old : Arbitration) (bytes : List ℕ) (new : Arbitration)
    (own : List Message) (after : Handed) (taken : Taken) : Type 0 where
  -- The effect of the datagram by the receiving rule.
  pub reception : Reception
  pub received : receive old.view bytes ≡ Ok reception
  pub arbitration : new ≡ arbitrates line bytes old
  pub delivers : IsOwn old.view bytes reception own after taken

-- The arbiter refused a datagram. Either an allocation failed, and nothing changed. Or the receiving rule refuses the
-- datagram: the view is unchanged, and if the datagram came on a line, the line's report counts it.
abbrev pub HasRefusedOwn : Option Line → Arbitration → List ℕ → Arbitration → Refusal → Type 0
HasRefusedOwn line old bytes new refused =
    ((refused ≡ Memory) × IsCopiedBehind old.view bytes × (new ≡ old)) ⊎
    ((receive old.view bytes ≡ Err refused) × (new ≡ arbitrates line bytes old))
