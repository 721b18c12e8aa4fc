-- The responses to a request: their packets, and what a plan still sends of them.
use Rattle.std.specs.Prelude.{◌≡◌, ◌⊎◌, ℕ, ◌+◌, ◌-◌, ◌<◌, ◌≤◌, min, List, ◌∷◌, length, take, drop}
use Rattle.std.specs.List.{AllByRecursion}
use Rattle.mold_wire.specs.declared.limits.TheConstants.{MESSAGE_OVERHEAD}
use Rattle.mold_wire.specs.declared.session.Session.{Session}
use Rattle.mold_wire.specs.declared.packet.Packet.{Packet}
use Rattle.mold_wire.specs.declared.request.Request.{Request}
use Rattle.mold_session.specs.Datagrams.{data_packet, first_part, packing}
use Rattle.mold_session.specs.Journal.{JournalState}

-- The published messages with sequence number `number` or more. The first message has number 1.
abbrev pub from_number : List (List ℕ) → ℕ → List (List ℕ)
from_number published number = drop (number - 1) published

-- The published messages with numbers from `from` up to, but not including, `to`.
abbrev pub between : List (List ℕ) → ℕ → ℕ → List (List ℕ)
between published from to = take (to - from) (from_number published from)

-- The responses to a request for `count` messages from `number` on: the packets that these messages are packed
-- into, at most `burst` of them.
abbrev pub answer : List (List ℕ) → Session → ℕ → ℕ → ℕ → ℕ → List Packet
answer published session limit number count burst =
    take burst (packing limit session number (take count (from_number published number)))

-- The remaining responses to a request: the numbers of their messages and how many packets may still be sent.
pub record PlanState : Type 0 where
  pub session : Session
  -- the number of the next message
  pub from : ℕ
  -- one more than the number of the last message
  pub to : ℕ
  -- how many packets may still be sent
  pub left : ℕ

-- The properties of every plan: `from` is at least 1 and at most `to`.
abbrev pub IsPlan : PlanState → Type 0
IsPlan plan = (1 ≤ plan.from) × (plan.from ≤ plan.to)

-- The plan for all responses to a request. It ends at the last message that is requested and that the
-- journal has.
abbrev pub plan_for : JournalState → ℕ → Request → PlanState
plan_for journal burst request = record {
  session = journal.session;
  from = request.sequence;
  to = min (request.sequence + request.count) (length journal.messages + 1);
  left = burst;
}

-- The plan has no packet left to send, or no message.
abbrev pub IsSpent : PlanState → Type 0
IsSpent plan = (plan.left ≡ 0) ⊎ (plan.from ≡ plan.to)

-- The messages of the packet that the plan sends next: the longest prefix of its messages that fits.
abbrev pub next_part : List (List ℕ) → ℕ → PlanState → List (List ℕ)
next_part published limit plan = first_part limit (between published plan.from plan.to)

-- The data packet that the plan sends next.
abbrev pub next_packet : List (List ℕ) → ℕ → PlanState → Packet
next_packet published limit plan = data_packet plan.session plan.from (next_part published limit plan)

-- The plan after it sent a packet of `count` messages.
abbrev pub moved : PlanState → ℕ → PlanState
moved plan count = record plan { from = plan.from + count; left = plan.left - 1 }

-- All packets that the plan still sends, at most `left` of them.
abbrev pub planned : List (List ℕ) → ℕ → PlanState → List Packet
planned published limit plan =
    take plan.left (packing limit plan.session plan.from (between published plan.from plan.to))

-- Each message fits a datagram of `limit` bytes by itself.
abbrev pub FitAlone : ℕ → List (List ℕ) → Type 0
FitAlone limit messages = AllByRecursion (λ message. length message + MESSAGE_OVERHEAD ≤ limit) messages

-- There is a first packet. It is a data packet with sequence number `number` and at least one message.
pub record HasFirst (session : Session) (number : ℕ) (packets : List Packet) : Type 0 where
  pub part : List (List ℕ)
  pub rest : List Packet
  pub sent : packets ≡ data_packet session number part ∷ rest
  pub some : 0 < length part

-- The plan sends its next packet, which has at least one message, and then the packets of the plan that remains after
-- it (`moved`).
pub record SendsNext (published : List (List ℕ)) (limit : ℕ) (plan : PlanState) : Type 0 where
  pub sent : planned published limit plan
      ≡ next_packet published limit plan
      ∷ planned published limit (moved plan (length (next_part published limit plan)))
  pub some : 0 < length (next_part published limit plan)
  pub within : plan.from + length (next_part published limit plan) ≤ plan.to
