-- What a publisher over ports commits, sends and answers, and of which files it is true.
use Rattle.std.specs.Prelude.{◌≡◌, ◌⊎◌, ℕ, ◌<◌, ◌≤◌, ◌^◌, ◌-◌, Bool, true, false, List, [], ◌∷◌, ◌++◌, length, take}
use Rattle.std.specs.Prelude.{not, Option}
use Rattle.std.specs.Io.KnownBytes.{Appends}
use Rattle.std.specs.List.{AllByRecursion}
use Rattle.mold_durable.specs.Life.{Life}
use Rattle.mold_durable.specs.Storage.{LeavesOnly}
use Rattle.mold_durable_publisher.specs.DurablePublisher.{IsAtRest, ShowsBytes}
use Rattle.mold_durable_publisher.specs.Told.{IsTrueNow}
use Rattle.mold_durable_publisher.specs.declared.durable_publisher.DurablePublisher.{DurablePublisher}
use Rattle.mold_input.specs.Entries.{Entry}
use Rattle.mold_input.specs.declared.input_kind.InputKind.{InputKind}
use Rattle.mold_port_set.specs.PortSet.{PortSetState}
use Rattle.mold_ports.specs.Ports.{Port, cut, next_of, received}
use Rattle.mold_session.specs.Journal.{JournalState}
use Rattle.mold_session.specs.Records.{SpellsJournal3}
use Rattle.mold_session.specs.Server.{ServerState}
use Rattle.mold_wire.specs.declared.limits.TheConstants.{MAX_LIMIT}
use Rattle.mold_feeder.specs.FeedLines.{LinesState, SendsOn, lines_at}
use Rattle.mold_feeder.specs.FeedText.{first_text, status_at, stop_text}
use Rattle.mold_feeder.specs.Requests.{RepliesTo}
use Rattle.mold_feeder.specs.Taking.{AllSent, TakesAfter, TakesInput, reopened}
use Rattle.mold_feeder.specs.declared.feed.Feed.{Feed}
use Rattle.mold_feeder.specs.declared.feed_end.FeedEnd.{FeedEnd}
use Rattle.mold_feeder.specs.declared.feed_lines.FeedLines.{FeedLines}
use Rattle.mold_feeder.specs.declared.feed_options.FeedOptions.{FeedOptions}
use Rattle.mold_feeder.specs.declared.feed_stop.FeedStop.{FeedStop}
use Rattle.mold_feeder.specs.declared.feed_stop.FeedStop.TheVariants.{Ended, Other, Refused}
use Rattle.mold_feeder.specs.declared.send_counts.LineCounts.{LineCounts}

-- A publisher over ports: its publisher, its ports, the counts of its sends, its port of requests, and its server.
pub record FeedState (S P Q : Type 0) : Type 0 where
  pub publisher : DurablePublisher S
  pub ports : PortSetState P
  pub counts : LineCounts
  pub requests : Port Q
  pub server : ServerState

-- The state of the publisher `feed`. The functions give what contracts know of its ports.
abbrev pub state_of : {S L D M K P Q : Type 0} → (L → PortSetState P) → (D → Port Q) → Feed S L D M K → FeedState S P Q
state_of state port feed = record {
  publisher = feed.feeder.publisher;
  ports = state feed.feeder.ports;
  counts = feed.feeder.counts;
  requests = port feed.requests.port;
  server = feed.requests.server;
}

-- What the publisher has sent on its lines, and the counts of these sends.
abbrev pub lines_of : {S P Q : Type 0} → FeedState S P Q → LinesState P
lines_of feed = lines_at feed.ports.sent feed.counts

-- The messages of these groups, in order.
abbrev pub all_of : List (List (List ℕ)) → List (List ℕ)
all_of [] = []
all_of (group ∷ groups) = group ++ all_of groups

-- The life of a journal after these groups of messages were committed.
abbrev pub grown : Life → List (List (List ℕ)) → Life
grown life groups = record life { committed = life.committed ++ all_of groups; waiting = [] }

-- The life after the session was closed, if the Boolean is `true`.
abbrev pub shut : Bool → Life → Life
shut false life = life
shut true life = record life { closed = true }

-- The bytes are a file of the committed messages of this life, and of the first of these groups.
pub record IsGroupFile (life : Life) (groups : List (List (List ℕ))) (bytes : List ℕ) : Type 0 where
  -- the groups that the file has
  pub front : List (List (List ℕ))
  -- the groups that it does not have
  pub rest : List (List (List ℕ))
  pub parts : groups ≡ front ++ rest
  pub file : SpellsJournal3 life.session (life.committed ++ all_of front) life.closed bytes

-- The bytes are such a file. If the session was closed, they may instead be the closed file with all groups.
abbrev pub IsFileLeft : Bool → Life → List (List (List ℕ)) → List ℕ → Type 0
IsFileLeft closes life groups bytes =
    IsGroupFile life groups bytes
    ⊎ ((closes ≡ true) × SpellsJournal3 life.session (life.committed ++ all_of groups) true bytes)

-- The journal with its first `count` messages.
abbrev pub first_messages : ℕ → JournalState → JournalState
first_messages count journal = record journal { messages = take count journal.messages }

-- A receive of the port of requests, and what it led to.
pub record Reply : Type 0 where
  -- how many messages had been sent on the lines
  pub count : ℕ
  -- whether the response is whole: no read of the journal failed
  pub whole : Bool

-- The receives of the port of requests, in order. Each was replied to from the first messages of the journal, as many
-- as the list states.
abbrev pub Replies : {P : Type 0} → JournalState → ServerState → List Reply → Port P → Port P → Type 0
Replies journal server [] old new = new ≡ old
Replies {P} journal server (reply ∷ replies) old new =
    (mid : Port P)
    × RepliesTo (first_messages reply.count journal) server reply.whole (cut MAX_LIMIT (next_of old)) (received old) mid
    × Replies journal server replies mid new

-- The count of failures is the same or greater, and within 64 bits.
abbrev pub MayFail : ℕ → ℕ → Type 0
MayFail old new = old < 2 ^ 64 → (old ≤ new) × (new < 2 ^ 64)

-- The count of failures is the same, and less than the greatest count, at which it stops. So nothing failed.
abbrev pub NothingFailed : ℕ → ℕ → Type 0
NothingFailed old new = (new ≡ old) × (new < 2 ^ 64 - 1)

-- Each receive was replied to from messages that had been sent on the lines. `failed_old` and `failed_new` are the
-- counts of failures of the journal's storage. If nothing failed there, each response is whole.
pub record HasReplied {S P : Type 0} (shows : S → List ℕ → Type 0) (answers : Bool) (failed_old failed_new : ℕ)
    (journal : JournalState) (sent : ℕ) (server : ServerState) (old new : Port P) : Type 0 where
  pub asked : List Reply
  pub few : AllByRecursion (λ reply. reply.count ≤ sent) asked
  pub replies : answers ≡ true → ShowsBytes shows → Replies journal server asked old new
  pub failures : MayFail failed_old failed_new
  pub whole : ShowsBytes shows → NothingFailed failed_old failed_new →
      AllByRecursion (λ reply. reply.whole ≡ true) asked

-- The publisher committed these groups of messages, in order. If `closes` is true, it then closed the session. What it
-- sent on the lines is true of the committed messages.
pub record HasFed {S P Q : Type 0} (shows may_leave : S → List ℕ → Type 0) (moment : S → ℕ)
    (left_since : S → ℕ → List ℕ → Type 0) (failed : S → ℕ) (modeled answers : Bool) (lines : FeedLines P) (life : Life)
    (groups : List (List (List ℕ))) (closes : Bool) (old new : FeedState S P Q) : Type 0 where
  pub rests : IsAtRest shows may_leave new.publisher (shut closes (grown life groups))
  -- A crash at any moment leaves the committed messages, and all messages of a group or none.
  pub leaves : LeavesOnly moment left_since old.publisher.durable.storage new.publisher.durable.storage
      (IsFileLeft closes life groups)
  -- what was sent on the lines
  pub datagrams : List (List ℕ)
  pub sends : modeled ≡ true → SendsOn lines datagrams (lines_of old) (lines_of new)
  pub so : AllByRecursion (IsTrueNow (shut closes (grown life groups))) datagrams
  -- What was true stays true.
  pub later : (datagram : List ℕ) → IsTrueNow life datagram → IsTrueNow (shut closes (grown life groups)) datagram
  pub replied : HasReplied shows answers (failed old.publisher.durable.storage) (failed new.publisher.durable.storage)
      new.publisher.publisher.journal new.publisher.publisher.sent old.server old.requests new.requests
  pub limits : new.server ≡ record old.server { answered = new.server.answered }
  pub onward : old.publisher.publisher.sent ≤ new.publisher.publisher.sent

-- The publisher ended with a fault: a call failed. Before that call it had fed the session as `HasFed` states. The call
-- that failed sent nothing, on the lines or to a request. If the session was closed, or closing it failed, its journal
-- satisfies `may_close`. Otherwise its journal with the messages of the group at fault satisfies `taken`.
pub record HasBroken {S P Q : Type 0} (shows may_leave : S → List ℕ → Type 0) (moment : S → ℕ)
    (left_since : S → ℕ → List ℕ → Type 0) (failed : S → ℕ) (modeled answers : Bool) (lines : FeedLines P)
    (taken may_close : JournalState → Type 0) (life : Life) (old new : FeedState S P Q) : Type 0 where
  -- the state before the call that failed
  pub mid : FeedState S P Q
  -- the groups that were committed before, and whether the session was closed
  pub groups : List (List (List ℕ))
  pub closes : Bool
  pub fed : HasFed shows may_leave moment left_since failed modeled answers lines life groups closes old mid
  -- the messages of the group that was not committed, if there was one
  pub last : List (List ℕ)
  -- whether the call that failed was the one that closes the session
  pub closing : Bool
  pub alone : closing ≡ true → last ≡ []
  -- A crash during that call leaves the committed messages, and all messages of its group or none.
  pub leaves : LeavesOnly moment left_since mid.publisher.durable.storage new.publisher.durable.storage
      (IsFileLeft closing (shut closes (grown life groups)) (last ∷ []))
  pub allowed : (closes ≡ true) ⊎ (closing ≡ true) → may_close mid.publisher.publisher.journal
  -- the journal with the messages of that group
  pub journal : JournalState
  pub joined : journal.messages ≡ mid.publisher.publisher.journal.messages ++ last
  pub so_far : (closes ≡ false) × (closing ≡ false) → taken journal
  pub silent : modeled ≡ true → new.ports.sent ≡ mid.ports.sent
  pub unanswered : new.requests ≡ mid.requests

-- A session may not be closed.
abbrev pub MayNotClose : JournalState → Type 0
MayNotClose journal = ⊥

-- A session may be closed if it does not stay open and all entries of its input were published. `old` is the journal at
-- the beginning, and `new` the one at the end. `has` states that the file with which the input is compared has the
-- messages of the journal.
abbrev pub MayClose : Type 0 → FeedEnd → Bool → InputKind → JournalState → Option (List Entry) → JournalState → Type 0
MayClose has end appends kind old known new =
    (end.stays_open ≡ false) × TakesInput has appends kind old (reopened old new) known Ended

-- The same, if `begun` messages came before the first entry of the input.
abbrev pub MayCloseAfter : FeedEnd → InputKind → ℕ → JournalState → Option (List Entry) → JournalState → Type 0
MayCloseAfter end kind begun old known new =
    (end.stays_open ≡ false) × TakesAfter kind begun old (reopened old new) known Ended

-- The same, if all entries of the input had already been published.
abbrev pub MayCloseNow : FeedEnd → JournalState → JournalState → Type 0
MayCloseNow end old new = (end.stays_open ≡ false) × (reopened old new ≡ old)

-- Whether the session was closed, if the publisher stopped so.
abbrev pub closes_at : FeedEnd → FeedStop → Bool
closes_at end Ended = not end.stays_open
closes_at end (Refused number refusal) = false
closes_at end (Other number compared) = false

-- The loop has ended with this status. `known` are the entries of its input, if they are known, and `last` is the last
-- line of a session whose input ended. The text was written: the number of messages that the journal had, if it
-- existed, and why the loop stopped. `has` states that the file with which the input is compared has the messages of
-- the journal.
pub record HasFinished {S P Q : Type 0} (shows may_leave : S → List ℕ → Type 0) (moment : S → ℕ)
    (left_since : S → ℕ → List ℕ → Type 0) (failed : S → ℕ) (modeled answers : Bool) (has : Type 0) (kind : InputKind)
    (options : FeedOptions P) (last : List ℕ) (known : Option (List Entry)) (life : Life) (old new : FeedState S P Q)
    (held_old held_new : Option (List ℕ)) (status : ℕ) : Type 0 where
  -- why the loop stopped
  pub stop : FeedStop
  pub groups : List (List (List ℕ))
  pub fed : HasFed shows may_leave moment left_since failed modeled answers options.lines life groups
      (closes_at options.end stop) old new
  -- which messages were taken from the input
  pub taken : TakesInput has options.appends kind old.publisher.publisher.journal
      (reopened old.publisher.publisher.journal new.publisher.publisher.journal) known stop
  pub all : AllSent new.publisher.publisher stop
  pub ends : status ≡ status_at stop new.counts
  pub said : Appends held_old held_new
      (first_text options.resumed (length old.publisher.publisher.journal.messages) ++ stop_text kind stop last)
