-- The responses of a publisher's server: they have only messages that were sent on the lines.
use Rattle.std.specs.Prelude.{◌≡◌, ◌≤◌, ℕ, Bool, true, false, List, [], ◌∷◌, ◌++◌, take, Result, Ok, Err}
use Rattle.mold_ports.specs.Ports.{Datagram, Failure, Port, Quiet, Receipt, offered}
use Rattle.mold_durable_publisher.specs.DurablePublisher.{ShowsJournal}
use Rattle.mold_durable_publisher.specs.declared.durable_publisher.DurablePublisher.{DurablePublisher}
use Rattle.mold_session.specs.Answer.{PlanState, answer}
use Rattle.mold_session.specs.Journal.{JournalState}
use Rattle.mold_session.specs.Publisher.{PublisherState}
use Rattle.mold_session.specs.Server.{ServerState, checked_request}
use Rattle.mold_session.specs.Serving.{IsPlanOf}
use Rattle.mold_session.specs.declared.error.AnswerError.{AnswerError}
use Rattle.mold_wire.specs.Packet.{spelling_of}
use Rattle.mold_wire.specs.declared.packet.Packet.{Packet}
use Rattle.mold_wire.specs.declared.request.Request.{Request}

-- The publisher's journal with only the messages that were put into a datagram.
abbrev pub sent_journal : PublisherState → JournalState
sent_journal publisher =
    record publisher.journal { messages = take publisher.sent publisher.journal.messages }

-- The packets of the responses to a checked request. A refused request gets none.
abbrev pub responses_to : JournalState → ServerState → Result Request AnswerError → List Packet
responses_to journal server (Err why) = []
responses_to journal server (Ok request) =
    answer journal.messages journal.session server.limit request.sequence request.count server.burst

-- The packets of the responses to the bytes of a request.
abbrev pub responses : JournalState → ServerState → List ℕ → List Packet
responses journal server request = responses_to journal server (checked_request journal request)

-- The packets were offered to the requester in order. Any of the sends may have failed.
abbrev pub Offers : {P : Type 0} → P → List Packet → Port P → Port P → Type 0
Offers to [] old new = new ≡ old
Offers to (packet ∷ packets) old new =
    (fails : Bool) × Offers to packets (offered fails to (spelling_of packet) old) new

-- The first of the remaining packets was offered, and `after` are the packets after it.
pub record OffersOne {P : Type 0} (to : P) (before after : List Packet) (old new : Port P) : Type 0 where
  -- the packet that was offered
  pub packet : Packet
  pub parts : before ≡ packet ∷ after
  pub offers : Offers to (packet ∷ []) old new

-- The first of the remaining packets was offered if the Boolean is `true`. Otherwise no packet remained, and nothing
-- changed.
abbrev pub OffersNext : {P : Type 0} → P → Bool → List Packet → List Packet → Port P → Port P → Type 0
OffersNext to true before after old new = OffersOne to before after old new
OffersNext to false before after old new = (before ≡ []) × (new ≡ old)

-- Some packets were offered, and `left` remain of them.
pub record Offering {P : Type 0} (to : P) (all left : List Packet) (old new : Port P) : Type 0 where
  pub done : List Packet
  pub offers : Offers to done old new
  pub parts : all ≡ done ++ left

-- The first of these packets were offered to the requester, in order: all of them if the Boolean is `true`.
pub record OffersFront {P : Type 0} (to : P) (whole : Bool) (packets : List Packet) (old new : Port P) : Type 0 where
  -- the packets that were not offered
  pub left : List Packet
  pub offers : Offering to packets left old new
  pub all : whole ≡ true → left ≡ []

-- What the receive of a request leads to: its responses are offered to the requester, all of them if the Boolean is
-- `true`. Otherwise a read of the journal failed, and only the first of them are. A receive that gave nothing or failed
-- leads to nothing.
abbrev pub RepliesTo : {P : Type 0} → JournalState → ServerState → Bool → Receipt P → Port P → Port P → Type 0
RepliesTo journal server whole (Datagram from request) old new =
    OffersFront from whole (responses journal server request) old new
RepliesTo journal server whole Quiet old new = new ≡ old
RepliesTo journal server whole Failure old new = new ≡ old

-- The server may respond to a request with the packets of the plan: the publisher shows this journal, whose messages
-- are not too long for the server, and the plan is for messages of the journal.
pub record MayRespond {S : Type 0} (shows may_leave : S → List ℕ → Type 0) (publisher : DurablePublisher S)
    (server : ServerState) (plan : PlanState) (journal : JournalState) : Type 0 where
  pub shown : ShowsJournal shows may_leave publisher journal
  pub longest : journal.max_message ≤ server.max_message
  pub planned : IsPlanOf journal plan
