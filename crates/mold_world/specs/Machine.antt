-- One session as a machine: its steps are all that can happen to its publisher, its network and its receivers.
-- Nothing here parses, packs, stores or has a window. A book can grow by any messages that were sent with the numbers
-- that they get in it.
use Rattle.std.specs.Prelude.{◌≡◌, ℕ, ◌+◌, ◌-◌, ◌<◌, ◌≤◌, List, [], ◌∷◌, ◌++◌, length, take, Some, Bool, true, false}
use Rattle.std.specs.Prelude.{◌==◌, if◌then◌else◌, slice_get}
use Rattle.mold_session.specs.declared.journal.TheConstants.{MAX_MESSAGES}
use Rattle.mold_wire.specs.Packet.{Spells}
use Rattle.mold_wire.specs.Truth.{Carries, IsTruePacket}
use Rattle.mold_wire.specs.declared.packet.Packet.{Packet}
use Rattle.mold_wire.specs.declared.packet.Body.TheVariants.{End}
use Rattle.mold_wire.specs.declared.session.Session.{Session}

-- One receiver of the machine: its book and whether it reports the end of the session. The book has the messages that
-- it delivered, from message 1 on.
pub record ReceiverLog : Type 0 where
  pub book : List (List ℕ)
  pub ended : Bool

-- The state of one session: its name, the published messages, whether it is closed, all datagrams that were ever
-- sent, and the receivers by number.
pub record Machine : Type 0 where
  pub session : Session
  pub published : List (List ℕ)
  pub closed : Bool
  pub sent : List (List ℕ)
  pub logs : ℕ → ReceiverLog

-- A step of the machine, which is the model of one session in `laws::safety_law`. A step has all values that the
-- machine cannot compute, such as the message that is published.
pub data Step : Type 0 where
  -- The publisher publishes a message.
  Publish : List ℕ → Step
  -- The publisher closes the session.
  Close : Step
  -- The publisher or the re-request server sends a datagram.
  Send : List ℕ → Step
  -- A receiver receives datagrams that were sent, delivers these messages, and reports the end or doesn't.
  Deliver : ℕ → List (List ℕ) → Bool → Step
  -- A receiver restarts at a number that it had reached.
  Restart : ℕ → ℕ → Step
  -- Nothing happens: a datagram is lost or refused.
  Nothing : Step

-- A datagram that carries this message with this number was sent.
pub record IsSentAs (sent : List (List ℕ)) (number : ℕ) (message : List ℕ) : Type 0 where
  -- The index of the datagram among those that were sent.
  pub place : ℕ
  pub bytes : List ℕ
  pub packet : Packet
  pub found : slice_get sent place ≡ Some bytes
  pub spelled : Spells packet bytes
  pub carried : Carries packet number message

-- The end packet of a session with this sequence number.
abbrev pub end_packet : Session → ℕ → Packet
end_packet session number = record { session = session; sequence = number; body = End }

-- The end packet of the session with this sequence number was sent.
pub record IsEndSent (sent : List (List ℕ)) (session : Session) (number : ℕ) : Type 0 where
  -- The index of the datagram among those that were sent.
  pub place : ℕ
  pub bytes : List ℕ
  pub found : slice_get sent place ≡ Some bytes
  pub spelled : Spells (end_packet session number) bytes

-- The datagram may be sent. It encodes a packet of the session, and what the packet states is true now.
pub record IsSaid (machine : Machine) (bytes : List ℕ) : Type 0 where
  pub packet : Packet
  pub spelled : Spells packet bytes
  pub named : packet.session ≡ machine.session
  pub is_true : IsTruePacket packet machine.published machine.closed

-- The step may be made now. A message is published only in an open session with a number left, and only true packets
-- of the session are sent. Each delivered message was sent with the number that it gets in the book. A receiver
-- reports the end only if the end packet of exactly its book was sent. A restart is at a number that the receiver had
-- reached.
abbrev pub IsAllowed : Machine → Step → Type 0
IsAllowed machine (Publish message) =
    (machine.closed ≡ false) × (length machine.published < MAX_MESSAGES)
IsAllowed machine Close = Unit {0}
IsAllowed machine (Send bytes) = IsSaid machine bytes
IsAllowed machine (Deliver receiver messages ended) =
    ((place : ℕ) (message : List ℕ) → slice_get messages place ≡ Some message →
    IsSentAs machine.sent (length (machine.logs receiver).book + 1 + place) message)
    × (ended ≡ true →
    IsEndSent machine.sent machine.session (length ((machine.logs receiver).book ++ messages) + 1))
IsAllowed machine (Restart receiver next) = (1 ≤ next) × (next ≤ length (machine.logs receiver).book + 1)
IsAllowed machine Nothing = Unit {0}

-- The receivers, with the one of this number replaced.
abbrev pub with_log : (ℕ → ReceiverLog) → ℕ → ReceiverLog → ℕ → ReceiverLog
with_log logs receiver log other = if other == receiver then log else logs other

-- The machine after a step.
abbrev pub after : Machine → Step → Machine
after machine (Publish message) = record machine { published = machine.published ++ message ∷ [] }
after machine Close = record machine { closed = true }
after machine (Send bytes) = record machine { sent = machine.sent ++ bytes ∷ [] }
after machine (Deliver receiver messages ended) = record machine {
  logs = with_log machine.logs receiver
      (record { book = (machine.logs receiver).book ++ messages; ended = ended });
}
after machine (Restart receiver next) = record machine {
  logs = with_log machine.logs receiver
      (record { book = take (next - 1) (machine.logs receiver).book; ended = false });
}
after machine Nothing = machine

-- The machine at its start: nothing is published or sent, and every book is empty.
abbrev pub start : Session → Machine
start session = record {
  session = session;
  published = [];
  closed = false;
  sent = [];
  logs = λ _. record { book = []; ended = false };
}

-- The machine after the steps in order.
abbrev pub run : Machine → List Step → Machine
run machine [] = machine
run machine (step ∷ steps) = run (after machine step) steps

-- Each step is allowed after the steps before it.
abbrev pub AreAllowed : Machine → List Step → Type 0
AreAllowed machine [] = Unit {0}
AreAllowed machine (step ∷ steps) = IsAllowed machine step × AreAllowed (after machine step) steps
