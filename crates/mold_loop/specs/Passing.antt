-- Defines which datagrams of a loop's publisher are sent on which line.
use Rattle.std.specs.Prelude.{◌≡◌, ℕ, ◌+◌, ◌%◌, ◌==◌, ◌||◌, not, Bool, true, false, List, [], ◌∷◌, ◌++◌}
use Rattle.std.specs.Prelude.{Option, None, Some, Result, OnOk}
use Rattle.mold_ports.specs.Ports.{Port, offered}
use Rattle.mold_send.specs.PublishLoop.{data_after}
use Rattle.mold_publish.specs.Publishing.{PublishedInput}
use Rattle.mold_publish.specs.Sending.{end_packet}
use Rattle.mold_publish.specs.declared.message_refusal.MessageRefusal.{MessageRefusal}
use Rattle.mold_session.specs.Journal.{JournalState}
use Rattle.mold_turns.specs.Runs.{Begins}
use Rattle.mold_wire.specs.Packet.{spelling_of}
use Rattle.mold_loop.specs.declared.loop_parts.Drops.{Drops}
use Rattle.mold_loop.specs.declared.loop_parts.Routes.{Routes}

-- Whether data packet `number` is sent on a line that leaves out every `left_out`-th data packet. The first data packet
-- is number 1. If `left_out` is 0, the line leaves none out.
abbrev pub goes : ℕ → ℕ → Bool
goes left_out number = (left_out == 0) || not (number % left_out == 0)

-- The lines that data packet `number` is sent on. The first data packet is number 1.
abbrev pub routes_of : Drops → ℕ → Routes
routes_of drops number = record { a = goes drops.a number; b = goes drops.b number }

-- Both lines. The end packet of a session is sent on both.
abbrev pub both_routes : Routes
both_routes = record { a = true; b = true }

-- The datagrams of data packets, each with the lines that it is sent on. The first is data packet `number`.
abbrev pub routed : Drops → ℕ → List (List ℕ) → List (Routes × List ℕ)
routed drops number [] = []
routed drops number (datagram ∷ datagrams) = (routes_of drops number, datagram) ∷ routed drops (number + 1) datagrams

-- The end packet of the journal's session, on both lines. If a line is refused, there is none.
abbrev pub routed_end : JournalState → Option MessageRefusal → List (Routes × List ℕ)
routed_end journal None = (both_routes, spelling_of (end_packet journal)) ∷ []
routed_end journal (Some why) = []

-- All datagrams that the publisher passes, each with its lines: the data datagrams for the messages after the first
-- `sent`, then the end packet. If a line is refused, neither the last data datagram nor the end packet is sent.
abbrev pub all_routed : Drops → ℕ → ℕ → PublishedInput → List (Routes × List ℕ)
all_routed drops limit sent published =
    routed drops 1 (data_after limit sent published) ++ routed_end published.journal published.refused

-- A datagram with the address `to`, or nothing if it is not sent on that line.
abbrev pub send_if : {P : Type 0} → Bool → P → List ℕ → List (P × List ℕ)
send_if false to datagram = []
send_if true to datagram = (to, datagram) ∷ []

-- A datagram with the address of each line that it is sent on, line A first.
abbrev pub sends_on : {P : Type 0} → Routes → P → P → List ℕ → List (P × List ℕ)
sends_on routes a b datagram = send_if routes.a a datagram ++ send_if routes.b b datagram

-- All datagrams with the address of each line that they are sent on, in the order of the sends.
abbrev pub all_sends : {P : Type 0} → P → P → List (Routes × List ℕ) → List (P × List ℕ)
all_sends a b [] = []
all_sends a b (one ∷ others) = sends_on one.0 a b one.1 ++ all_sends a b others

-- The datagrams are offered to their addresses, one after the other. Any of the sends may fail.
abbrev pub Offers : {P : Type 0} → List (P × List ℕ) → Port P → Port P → Type 0
Offers [] old new = new ≡ old
Offers (one ∷ others) old new = (fails : Bool) × Offers others (offered fails one.0 one.1 old) new

-- The sends of a loop's publisher. The datagrams of `front` are offered, and any send may fail. On success they are
-- all datagrams that the lines determine. After a fault they are a prefix.
pub record LoopSends {P E : Type 0} (drops : Drops) (a b : P) (limit sent : ℕ) (published : PublishedInput)
    (result : Result ℕ E) (before after : Port P) : Type 0 where
  pub front : List (P × List ℕ)
  pub offers : Offers front before after
  pub begins : Begins front (all_sends a b (all_routed drops limit sent published))
  pub whole : OnOk result (front ≡ all_sends a b (all_routed drops limit sent published))
