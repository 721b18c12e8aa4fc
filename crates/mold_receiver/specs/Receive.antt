-- The receiving rule: what a datagram does to a view. It is a function over whole maps of stored messages.
use Rattle.std.specs.Prelude.{◌≡◌, ◌⊎◌, ◌<◌, ℕ, ◌+◌, ◌-◌, max, ◌&&◌, nat_le, nat_lt, List, [], length, Option, None}
use Rattle.std.specs.Prelude.{Some, Bool, false, is_some, is_none, if◌then◌else◌, Result, Ok, Err}
use Rattle.std.specs.List.{filter}
use Rattle.std.specs.FinMap as finite
use Rattle.mold_wire.specs.Block.{blocks}
use Rattle.mold_wire.specs.Packet.{messages_of, top_of}
use Rattle.mold_wire.specs.Reading.{reading}
use Rattle.mold_wire.specs.declared.packet.Packet.{Packet}
use Rattle.mold_wire.specs.declared.packet.Body.{Body}
use Rattle.mold_wire.specs.declared.packet.Body.TheVariants.{Data, Heartbeat, End}
use Rattle.mold_wire.specs.declared.session.Session.{Session}
use Rattle.mold_wire.specs.declared.error.DecodeError.{DecodeError}
use Rattle.mold_rule.specs.Refusals.{refusal_of}
use Rattle.mold_rule.specs.declared.refusal.Refusal.{Refusal}
use Rattle.mold_rule.specs.declared.refusal.Refusal.TheVariants.{Malformed, Memory}
use Rattle.mold_receiver.specs.declared.taken.Taken.{Taken}
use Rattle.mold_receiver.specs.Batch.{Handed, followed_by}
use Rattle.mold_receiver.specs.Store.{Message, Store, numbered, from_next, available, run_from, cut, first_conflict}
use Rattle.mold_receiver.specs.Store.{stored_bytes}
use Rattle.mold_receiver.specs.View.{View}

-- The first refusal that applies to the packet, or none. A conflict is a number from `next` on at which the packet
-- and the store have different messages.
abbrev pub refusal : View → Packet → Option Refusal
refusal v p =
    refusal_of (Some v.session.0) v.known v.ended
    (first_conflict v.store (from_next v.next p.sequence (messages_of p.body))) p

-- The messages that an accepted packet delivers: the available ones from `next` on, up to the first number that is
-- not available. Each available number is below `known` or below the packet's top.
abbrev pub handed_on : View → ℕ → List Message → List Message
handed_on v number messages =
    run_from (finite.get (available v.store v.next number messages)) v.next
    (max v.known (number + length messages) - v.next)

-- The number of the packet's messages that are in the new store but not in the old one.
abbrev pub count_kept : Store → Store → List (ℕ × Message) → ℕ
count_kept old new pairs =
    length (filter (λ pair. is_some (finite.get new pair.0) && is_none (finite.get old pair.0)) pairs)

-- The number of the packet's messages that the view misses: those from `next` on that are not stored.
abbrev pub count_beyond : ℕ → Store → List (ℕ × Message) → ℕ
count_beyond next store pairs =
    length (filter (λ pair. nat_le next pair.0 && is_none (finite.get store pair.0)) pairs)

-- Whether there are more bytes than the room has.
abbrev pub exceeds : Option ℕ → ℕ → Bool
exceeds None bytes = false
exceeds (Some room) bytes = nat_lt room bytes

-- Whether none of the packet's messages is stored, because the store has no room for them. That is so if the packet
-- begins above `next`, and its blocks and those of the stored messages are together longer than the room. A packet that
-- has the message `next` needs no room, so the gap at `next` can always be filled.
abbrev pub is_dropped : View → Packet → Bool
is_dropped v p =
    nat_lt v.next p.sequence && exceeds v.room (stored_bytes v.store + length (blocks (messages_of p.body)))

-- The store has room for the packet, or the packet needs none.
abbrev pub HasRoomFor : View → Packet → Type 0
HasRoomFor v p = is_dropped v p ≡ false

-- The messages of the packet, or none if it is dropped.
abbrev pub undropped : View → Packet → List Message
undropped v p = if is_dropped v p then [] else messages_of p.body

-- The session's end as known after a packet. An end packet sets it to its sequence number.
abbrev pub ended_after : Body → ℕ → Option ℕ → Option ℕ
ended_after (Data messages) sequence ended = ended
ended_after Heartbeat sequence ended = ended
ended_after End sequence ended = Some sequence

-- The effect of an accepted datagram: the new view, the delivered messages from the old `next` on, and the receiver's
-- counts.
pub record Reception : Type 0 where
  pub view : View
  pub handed : List Message
  pub taken : Taken

-- The view after an accepted packet, given the new `next`.
abbrev pub view_at : View → Packet → ℕ → View
view_at v p next = record {
  session = v.session;
  next = next;
  known = max v.known (top_of p);
  ended = ended_after p.body p.sequence v.ended;
  store = cut (available v.store v.next p.sequence (undropped v p)) next v.window;
  window = v.window;
  room = v.room;
}

-- The receiver's counts for an accepted packet, given the new view.
abbrev pub taken_of : View → Packet → View → Taken
taken_of v p new = record {
  handed = new.next - v.next;
  kept = count_kept v.store new.store (numbered p.sequence (messages_of p.body));
  beyond = count_beyond new.next new.store (numbered p.sequence (messages_of p.body));
}

-- The view after an accepted packet.
abbrev pub view_after : View → Packet → View
view_after v p = view_at v p (v.next + length (handed_on v p.sequence (messages_of p.body)))

-- The receiver's counts for an accepted packet.
abbrev pub taken_after : View → Packet → Taken
taken_after v p = taken_of v p (view_after v p)

-- The receiver accepted the packet. The new view and the counts are those of the rule.
abbrev pub HasTakenPacket : View → Packet → View → Taken → Type 0
HasTakenPacket old p new taken = (new ≡ view_after old p) × (taken ≡ taken_after old p)

-- The packet delivers or stores at least one message, so the receiver copies messages and may allocate.
abbrev pub TakesMemory : View → Packet → Type 0
TakesMemory v p = 0 < (taken_after v p).handed + (taken_after v p).kept

-- The effect of an accepted packet.
abbrev pub reception : View → Packet → Reception
reception v p = record {
  view = view_after v p;
  handed = handed_on v p.sequence (messages_of p.body);
  taken = taken_after v p;
}

-- The data packet with this session, sequence number and messages.
abbrev pub data_packet : Session → ℕ → List Message → Packet
data_packet session sequence messages = record { session = session; sequence = sequence; body = Data messages }

-- The refusal if there is one, otherwise the reception.
abbrev pub decide : Option Refusal → Reception → Result Reception Refusal
decide None taken = Ok taken
decide (Some refused) taken = Err refused

-- The refusal or the reception of a packet.
abbrev pub receive_packet : View → Packet → Result Reception Refusal
receive_packet v p = decide (refusal v p) (reception v p)

-- The refusal or the reception of what was decoded. A decode fault is refused as `Malformed`.
abbrev pub receive_read : View → Result Packet DecodeError → Result Reception Refusal
receive_read v (Ok packet) = receive_packet v packet
receive_read v (Err error) = Err (Malformed error)

-- The receiving rule: the refusal or the reception of a datagram.
abbrev pub receive : View → List ℕ → Result Reception Refusal
receive v bytes = receive_read v (reading bytes)

-- The top of the packet that was decoded, or 0 if the datagram doesn't encode a packet.
abbrev pub top_read : Result Packet DecodeError → ℕ
top_read (Ok packet) = top_of packet
top_read (Err error) = 0

-- The datagram is accepted. It encodes a packet of the view's session to which no refusal applies, and the reception
-- is that packet's.
pub record IsTakenPacket (v : View) (bytes : List ℕ) (r : Reception) : Type 0 where
  pub packet : Packet
  pub read : reading bytes ≡ Ok packet
  pub session : packet.session ≡ v.session
  pub accepted : refusal v packet ≡ None
  pub taken : r ≡ reception v packet

-- The receiver accepted the datagram. The new view and the batch are what the receiving rule states, and `taken` has
-- the rule's counts.
pub record HasTaken (old : View) (bytes : List ℕ) (before : Handed) (new : View) (after : Handed)
    (taken : Taken) : Type 0 where
  -- The effect of the datagram by the receiving rule.
  pub reception : Reception
  pub received : receive old bytes ≡ Ok reception
  pub view : new ≡ reception.view
  pub batch : after ≡ followed_by before old.next reception.handed
  -- The counts that the receiver returned are the rule's.
  pub told : taken ≡ reception.taken

-- The datagram is accepted and delivers or stores at least one message. The receiver copies messages, so an
-- allocation may fail.
pub record IsCopied (v : View) (bytes : List ℕ) : Type 0 where
  pub reception : Reception
  pub received : receive v bytes ≡ Ok reception
  pub some : 0 < reception.taken.handed + reception.taken.kept

-- The datagram is refused for this reason. Either the receiving rule refuses it, or the rule accepts it and an
-- allocation for its messages failed.
abbrev pub IsRefusedFor : View → List ℕ → Refusal → Type 0
IsRefusedFor v bytes refused = ((refused ≡ Memory) × IsCopied v bytes) ⊎ (receive v bytes ≡ Err refused)
