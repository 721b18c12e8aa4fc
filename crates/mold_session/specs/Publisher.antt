-- The state of a publisher, and which packets it sends.
use Rattle.std.specs.Prelude.{◌≡◌, ℕ, ◌+◌, ◌-◌, ◌≤◌, true, false, List, length, drop, ◌==◌}
use Rattle.std.specs.Prelude.{if◌then◌else◌, Option, None, Some}
use Rattle.mold_wire.specs.declared.limits.TheConstants.{MESSAGE_OVERHEAD}
use Rattle.mold_wire.specs.declared.packet.Packet.{Packet}
use Rattle.mold_wire.specs.declared.packet.Body.TheVariants.{Data, Heartbeat, End}
use Rattle.mold_wire.specs.Packet.{Spells}
use Rattle.mold_wire.specs.Packer.{IsLimit}
use Rattle.mold_wire.specs.Packing.{front}
use Rattle.mold_wire.specs.declared.session.Session.{Session}
use Rattle.mold_session.specs.Journal.{JournalState, IsJournal, appended, fresh_journal, without_last}
use Rattle.mold_session.specs.declared.journal.TheConstants.{MAX_MESSAGES}

-- The state of a publisher: its journal, the limit of a datagram, and how many messages were sent.
pub record PublisherState : Type 0 where
  -- the journal of the published messages
  pub journal : JournalState
  -- the largest length of a datagram, in bytes
  pub limit : ℕ
  -- how many messages were put into a datagram
  pub sent : ℕ

-- A publisher of an open session without messages.
abbrev pub fresh_publisher : Session → ℕ → PublisherState
fresh_publisher session limit =
    record { journal = fresh_journal session (limit - MESSAGE_OVERHEAD); limit = limit; sent = 0 }

-- A journal can be resumed with this limit: the limit is valid, and a message of the journal's largest length just fits
-- a datagram by itself.
abbrev pub MayResume : JournalState → ℕ → Type 0
MayResume journal limit = IsLimit limit × (journal.max_message + MESSAGE_OVERHEAD ≡ limit)

-- A publisher of this journal. All its messages count as sent.
abbrev pub resumed_publisher : JournalState → ℕ → PublisherState
resumed_publisher journal limit =
    record { journal = journal; limit = limit; sent = length journal.messages }

-- The properties of every publisher: its limit is valid, its messages fit, and it is closed only when all are sent.
pub record IsPublisher (publisher : PublisherState) : Type 0 where
  pub limited : IsLimit publisher.limit
  -- a message of the largest length just fits a datagram by itself
  pub longest : publisher.journal.max_message + MESSAGE_OVERHEAD ≡ publisher.limit
  pub journaled : IsJournal publisher.journal
  -- at most as many messages were sent as were published
  pub published : publisher.sent ≤ length publisher.journal.messages
  -- the publisher is closed only after every message was put into a datagram
  pub finished : publisher.journal.closed ≡ true → publisher.sent ≡ length publisher.journal.messages

-- The unsent messages: those that were not put into a datagram yet.
abbrev pub unsent_of : PublisherState → List (List ℕ)
unsent_of publisher = drop publisher.sent publisher.journal.messages

-- The messages of the next datagram: the longest prefix of the unsent messages that fits.
abbrev pub next_front : PublisherState → List (List ℕ)
next_front publisher = front publisher.limit (unsent_of publisher) (length publisher.journal.messages)

-- The data packet that is sent next, or `None` if no message is unsent.
abbrev pub next_datagram : PublisherState → Option Packet
next_datagram publisher =
    if publisher.sent == length publisher.journal.messages then None
    else Some (record {
      session = publisher.journal.session;
      sequence = publisher.sent + 1;
      body = Data (next_front publisher);
    })

-- The heartbeat that is sent next, or `None` if the session is closed.
abbrev pub next_heartbeat : PublisherState → Option Packet
next_heartbeat publisher =
    if publisher.journal.closed then None
    else Some (record { session = publisher.journal.session; sequence = publisher.sent + 1; body = Heartbeat })

-- The end packet that is sent next, or `None` while the session is open.
abbrev pub next_end : PublisherState → Option Packet
next_end publisher =
    if publisher.journal.closed
    then Some (record {
      session = publisher.journal.session;
      sequence = length publisher.journal.messages + 1;
      body = End;
    })
    else None

-- The publisher after its next datagram: the messages of the datagram count as sent.
abbrev pub after_datagram : PublisherState → PublisherState
after_datagram publisher = record publisher { sent = publisher.sent + length (next_front publisher) }

-- The publisher after it published `message`.
abbrev pub published : PublisherState → List ℕ → PublisherState
published publisher message = record publisher { journal = appended publisher.journal message }

-- The publisher after it was closed.
abbrev pub closed : PublisherState → PublisherState
closed publisher = record publisher { journal = record publisher.journal { closed = true } }

-- The publisher without the message that was published last.
abbrev pub retracted : PublisherState → PublisherState
retracted publisher = record publisher { journal = without_last publisher.journal }

-- The message can be published: the session is open, the message isn't too long, and it gets a sequence number.
pub record MayPublish (publisher : PublisherState) (message : List ℕ) : Type 0 where
  pub unclosed : publisher.journal.closed ≡ false
  pub short : length message ≤ publisher.journal.max_message
  pub number : length publisher.journal.messages ≡ MAX_MESSAGES → ⊥

-- The returned bytes are the encoding of the packet. Without a packet, no bytes are returned.
abbrev pub Lends : Option Packet → Option (List ℕ) → Type 0
Lends None None = Unit {0}
Lends None (Some bytes) = ⊥
Lends (Some packet) None = ⊥
Lends (Some packet) (Some bytes) = Spells packet bytes
