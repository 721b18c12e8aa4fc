-- The turns of a server: what it receives, and what it sends and prints for it.
use Rattle.mold_wire.specs.declared.limits.TheConstants.{MAX_NUMBER}
use Rattle.std.specs.Prelude.{◌≡◌, ◌≤◌, ◌⊎◌, ℕ, ◌+◌, min, Bool, true, false, List, [], ◌∷◌, drop, Result, Ok, Err}
use Rattle.mold_ports.specs.Ports.{Port, Receipt, Datagram, Quiet, Failure, cut, next_of, offered, received}
use Rattle.mold_turns.specs.Outgoing.{with_front}
use Rattle.mold_serve.specs.Tally.{with_answered, with_failed, with_outgoing, with_quiet, with_refused}
use Rattle.mold_serve.specs.declared.responder.Responder.{Responder}
use Rattle.mold_serve.specs.declared.tally.Tally.{Tally}
use Rattle.mold_session.specs.Answer.{answer}
use Rattle.mold_session.specs.Journal.{JournalState}
use Rattle.mold_session.specs.Server.{ServerState, checked_request}
use Rattle.mold_session.specs.declared.error.AnswerError.{AnswerError}
use Rattle.mold_turns.specs.Runs.{Loop}
use Rattle.mold_wire.specs.declared.packet.Packet.{Packet}
use Rattle.mold_wire.specs.declared.request.Request.{Request}
use Rattle.mold_wire.specs.Packet.{count_of, spelling_of}
use Rattle.mold_wire.specs.declared.limits.TheConstants.{MAX_LIMIT}

-- The journal that a server responds from, the most bytes of a datagram, and the most datagrams for one request.
pub record Service : Type 0 where
  -- the journal that requests are answered from
  pub journal : JournalState
  -- the most bytes of a datagram
  pub limit : ℕ
  -- the greatest number of datagrams for one request
  pub burst : ℕ

-- The journal, and the limit and the burst of a server that responds from it.
abbrev pub service_of : JournalState → ServerState → Service
service_of journal server = record {
  journal = journal;
  limit = server.limit;
  burst = server.burst;
}

-- The reply to a request: the packets of all responses, or the refusal of the bytes that asked.
abbrev pub reply_to : Service → Result Request AnswerError → Result (List Packet) AnswerError
reply_to service (Ok request) =
    Ok
    (answer service.journal.messages service.journal.session service.limit request.sequence request.count service.burst)
reply_to service (Err why) = Err why

-- The reply to the bytes of a received datagram: the packets of the responses, or the refusal.
abbrev pub reply : Service → List ℕ → Result (List Packet) AnswerError
reply service bytes = reply_to service (checked_request service.journal bytes)

-- The state of a server at work: its port, what it has printed and counted, and the number of requests that it has
-- answered.
pub record ResponderState (P : Type 0) : Type 0 where
  pub port : Port P
  pub tally : Tally
  -- the number of requests answered so far
  pub requests : ℕ

-- The state with this port, this tally (the text and the counts) and the server's number of answered requests.
abbrev pub responder_of : {P : Type 0} → Port P → Tally → ServerState → ResponderState P
responder_of port tally server = record {
  port = port;
  tally = tally;
  requests = server.answered;
}

-- The state of the responder. `port` gives the model of its port.
abbrev pub state : {D J P : Type 0} → (D → Port P) → Responder D J → ResponderState P
state port responder = responder_of (port responder.port.now) responder.tally.now responder.server.now

-- The server may respond from `journal`: `held` shows it, and its maximum message length is at most the server's.
-- `shows` gives the journals that a `ServedJournal` may be.
pub record MayAnswer {J : Type 0} (shows : J → JournalState → Type 0) (held : J) (server : ServerState)
    (journal : JournalState) : Type 0 where
  pub shown : shows held journal
  pub longest : journal.max_message ≤ server.max_message

-- The responder still has the same port, journal and tally. Its server is the same except for the number of answered
-- requests.
pub record IsSame {D J : Type 0} (old new : Responder D J) : Type 0 where
  pub port : new.port.ghost_name ≡ old.port.ghost_name
  pub server : new.server.ghost_name ≡ old.server.ghost_name
  pub journal : new.journal.ghost_name ≡ old.journal.ghost_name
  pub tally : new.tally.ghost_name ≡ old.tally.ghost_name
  pub limits : new.server.now ≡ record old.server.now { answered = new.server.now.answered }

-- The server at the end of a run. Only its count of answered requests has changed.
abbrev pub served_by : {P : Type 0} → ServerState → ResponderState P → ServerState
served_by server responder = record server { answered = responder.requests }

-- The state after the packet of a response was offered to the requester `to`. The Boolean states whether the send
-- failed. A failure is counted; a packet that was sent is printed and counted.
abbrev pub offer : {P : Type 0} → P → Bool → Packet → ResponderState P → ResponderState P
offer to true packet responder = record {
  port = offered true to (spelling_of packet) responder.port;
  tally = with_failed responder.tally;
  requests = responder.requests;
}
offer to false packet responder = record {
  port = offered false to (spelling_of packet) responder.port;
  tally = with_answered packet.sequence (count_of packet.body) responder.tally;
  requests = responder.requests;
}

-- Whether the first send fails. A send for which the list has no entry succeeds.
abbrev pub fails_first : List Bool → Bool
fails_first [] = false
fails_first (fails ∷ more) = fails

-- The state after the packets were offered in order. `fails` states for each send whether it fails.
unfoldable pub offer_all : {P : Type 0} → P → List Packet → List Bool → ResponderState P → ResponderState P
offer_all to [] fails responder = responder
offer_all to (packet ∷ packets) fails responder =
    offer_all to packets (drop 1 fails) (offer to (fails_first fails) packet responder)

-- The state after a reply: the request is counted and all packets are offered, or the refusal is printed and counted.
abbrev pub replied : {P : Type 0} → P → List Bool → Result (List Packet) AnswerError → ResponderState P →
    ResponderState P
replied to fails (Ok packets) responder =
    offer_all to packets fails
    (record {
      port = responder.port;
      tally = responder.tally;
      requests = min MAX_NUMBER (responder.requests + 1);
    })
replied to fails (Err why) responder = record {
  port = responder.port;
  tally = with_refused why responder.tally;
  requests = responder.requests;
}

-- The state after a receive. A datagram is replied to. A receive that gave nothing or failed is counted.
abbrev pub met : {P : Type 0} → Service → List Bool → Receipt P → ResponderState P → ResponderState P
met service fails (Datagram from bytes) responder = replied from fails (reply service bytes) responder
met service fails Quiet responder = record {
  port = responder.port;
  tally = with_quiet responder.tally;
  requests = responder.requests;
}
met service fails Failure responder = record {
  port = responder.port;
  tally = with_failed responder.tally;
  requests = responder.requests;
}

-- The state after one turn: one receive and the reply to what it gave. Only the first 65,507 bytes of a datagram are
-- used.
unfoldable pub serve_turn : {P : Type 0} → Service → List Bool → ResponderState P → ResponderState P
serve_turn service fails responder =
    met service fails (cut MAX_LIMIT (next_of responder.port))
    (record {
      port = received responder.port;
      tally = responder.tally;
      requests = responder.requests;
    })

-- The loop of a server. It ends only when all turns are made.
abbrev pub serving : {P : Type 0} → Service → Loop (List Bool) (ResponderState P) (P × List ℕ)
serving service = record {
  turn = serve_turn service;
  over = λ responder. false;
  text = λ responder. responder.tally.outgoing.text;
  sent = λ responder. responder.port.sent;
}

-- The server is in the turn after the state `s`: it has made at most one receive since `s`.
abbrev pub IsInNextTurn : {P : Type 0} → Port P → ResponderState P → Type 0
IsInNextTurn port s = (port.comes ≡ s.port.comes) ⊎ (port.comes ≡ drop 1 s.port.comes)

-- The state with `front` put before its text.
abbrev pub behind : {P : Type 0} → List ℕ → ResponderState P → ResponderState P
behind front responder = record {
  port = responder.port;
  tally = with_outgoing (with_front front responder.tally.outgoing) responder.tally;
  requests = responder.requests;
}
