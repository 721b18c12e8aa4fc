-- The state of a re-request server, which requests it accepts, and what it sends.
use Rattle.std.specs.Prelude.{◌≡◌, ℕ, ◌+◌, ◌≤◌, ◌<◌, ◌^◌, min, Bool, not, ◌&&◌, nat_le, nat_lt, ◌==◌, if◌then◌else◌}
use Rattle.std.specs.Prelude.{List, ◌∷◌, length, Option, None, Some, Result, Ok, Err}
use Rattle.std.specs.Str.{bytes_eq}
use Rattle.mold_wire.specs.declared.error.RequestError.{RequestError}
use Rattle.mold_wire.specs.declared.error.RequestError.TheVariants as fault
use Rattle.mold_wire.specs.declared.limits.TheConstants.{MAX_LIMIT, MAX_NUMBER, MESSAGE_OVERHEAD, MIN_LIMIT}
use Rattle.mold_wire.specs.declared.packet.Packet.{Packet}
use Rattle.mold_wire.specs.declared.request.Request.{Request}
use Rattle.mold_wire.specs.Packet.{Spells}
use Rattle.mold_wire.specs.Packer.{IsLimit}
use Rattle.mold_wire.specs.Request.{request_reading}
use Rattle.mold_session.specs.Answer.{PlanState, plan_for, answer}
use Rattle.mold_session.specs.Journal.{JournalState}
use Rattle.mold_session.specs.declared.error.AnswerError.{AnswerError}
use Rattle.mold_session.specs.declared.error.AnswerError.TheVariants.{RequestLength, WrongSession, SequenceZero}
use Rattle.mold_session.specs.declared.error.AnswerError.TheVariants.{EmptyRequest, Ahead}
use Rattle.mold_session.specs.declared.error.ServerError.{ServerError}
use Rattle.mold_session.specs.declared.error.ServerError.TheVariants.{Limit, Burst}
use Rattle.mold_wire.specs.declared.limits.TheConstants.{MAX_BURST}

-- The state of a re-request server: its limits, and how many requests it accepted.
pub record ServerState : Type 0 where
  -- the largest length of a datagram, in bytes
  pub limit : ℕ
  -- the largest length of a journal's message, in bytes
  pub max_message : ℕ
  -- the largest number of responses to one request
  pub burst : ℕ
  -- how many requests were accepted
  pub answered : ℕ

-- A server that has accepted no request yet.
abbrev pub fresh_server : ℕ → ℕ → ℕ → ServerState
fresh_server limit max_message burst =
    record { limit = limit; max_message = max_message; burst = burst; answered = 0 }

-- The properties of every server: its limits are valid, and each message of a journal fits a datagram.
pub record IsServer (server : ServerState) : Type 0 where
  pub limited : IsLimit server.limit
  -- each message of a journal fits a datagram by itself
  pub longest : server.max_message + MESSAGE_OVERHEAD ≤ server.limit
  pub some : 1 ≤ server.burst
  pub few : server.burst ≤ MAX_BURST
  pub counted : server.answered < 2 ^ 64

-- The first reason why a server can't be made. If there is none, only an allocation can still fail.
abbrev pub server_refusal : ℕ → ℕ → ℕ → Option ServerError
server_refusal limit max_message burst =
    if not (nat_le MIN_LIMIT limit && nat_le limit MAX_LIMIT && nat_le (max_message + MESSAGE_OVERHEAD) limit)
    then Some Limit
    else if not (nat_le 1 burst && nat_le burst MAX_BURST) then Some Burst
    else None

-- The first reason why the request is refused.
abbrev pub request_refusal : JournalState → Request → Option AnswerError
request_refusal journal request =
    if not (bytes_eq request.session.0 journal.session.0) then Some WrongSession
    else if request.sequence == 0 then Some SequenceZero
    else if request.count == 0 then Some EmptyRequest
    else if nat_lt (length journal.messages) request.sequence then Some (Ahead (length journal.messages + 1))
    else None

-- The request can be satisfied: it is for messages of the journal's session, and the journal has the first of
-- them.
pub record IsAnswerable (journal : JournalState) (request : Request) : Type 0 where
  pub session : request.session ≡ journal.session
  -- the first requested number is that of a message
  pub first : 1 ≤ request.sequence
  pub last : request.sequence ≤ length journal.messages
  -- at least one message is requested
  pub count : 1 ≤ request.count

-- The request, or the error if there is one.
abbrev pub unless : Option AnswerError → Request → Result Request AnswerError
unless None request = Ok request
unless (Some error) request = Err error

-- A decoded request, checked against the journal: the request, or why it is refused.
abbrev pub judged : JournalState → Result Request RequestError → Result Request AnswerError
judged journal (Err (fault.RequestLength len)) = Err (RequestLength len)
judged journal (Ok request) = unless (request_refusal journal request) request

-- The request that the bytes encode, or why it is refused.
abbrev pub checked_request : JournalState → List ℕ → Result Request AnswerError
checked_request journal bytes = judged journal (request_reading bytes)

-- The plan for the responses to a checked request, or why the request is refused.
abbrev pub plan_of : JournalState → ℕ → Result Request AnswerError → Result PlanState AnswerError
plan_of journal burst (Err error) = Err error
plan_of journal burst (Ok request) = Ok (plan_for journal burst request)

-- The plan for the responses to the request that the bytes encode, or why it is refused.
abbrev pub planning : JournalState → ℕ → List ℕ → Result PlanState AnswerError
planning journal burst bytes = plan_of journal burst (checked_request journal bytes)

-- The bytes `lent` are the encoding of the first response to the request `asked`.
pub record SpellsAnswer (journal : JournalState) (server : ServerState) (asked lent : List ℕ) : Type 0 where
  pub request : Request
  pub packet : Packet
  -- the packets of the further responses
  pub rest : List Packet
  pub asks : checked_request journal asked ≡ Ok request
  pub sent : answer journal.messages journal.session server.limit request.sequence request.count server.burst
      ≡ packet ∷ rest
  pub spelled : Spells packet lent

-- The server after it accepted one more request. The count stops at `MAX_NUMBER`.
abbrev pub counted : ServerState → ServerState
counted server = record server { answered = min MAX_NUMBER (server.answered + 1) }

-- The server after a request, which is counted only if it was accepted.
abbrev pub counted_if : Bool → ServerState → ServerState
counted_if answered server = if answered then counted server else server
