-- What a publisher over ports sends, and of which files it is true.
use Rattle.std.specs.Prelude.{◌≡◌, ◌≤◌, ◌⊎◌, ℕ, Bool, true, false, ◌&&◌, is_some, nat_le, if◌then◌else◌, List, [], ◌++◌}
use Rattle.std.specs.Prelude.{length, ◌-◌, ◌==◌, Option, None, Some}
use Rattle.std.specs.Io.KnownBytes.{prepend_known}
use Rattle.std.specs.List.{AllByRecursion}
use Rattle.mold_durable.specs.Life.{IsFileOf, Life, after as after_moment}
use Rattle.mold_durable.specs.Life.Moment.{Close}
use Rattle.mold_durable.specs.Storage.{IsWithin}
use Rattle.mold_durable_publisher.specs.DurablePublisher.{Publishes, next_committed}
use Rattle.mold_durable_publisher.specs.Told.{IsTold, IsTrueNow}
use Rattle.mold_durable_publisher.specs.declared.durable_publisher.DurablePublisher.{DurablePublisher}
use Rattle.mold_port_set.specs.PortSet.{PortSetState}
use Rattle.mold_session.specs.Publisher.{PublisherState, closed, next_end, next_heartbeat}
use Rattle.mold_wire.specs.declared.packet.Packet.{Packet}
use Rattle.mold_input.specs.Entries.{Entry, InputEntries, known_input}
use Rattle.mold_input.specs.declared.input_kind.InputKind.{InputKind}
use Rattle.mold_feeder.specs.FeedLines.{LinesState, SendsOn, datagram_of, lines_at, repeated}
use Rattle.mold_feeder.specs.Gathering.{TakesGroup}
use Rattle.mold_feeder.specs.IdleClock.{due_after}
use Rattle.mold_feeder.specs.Pace.{IsPaced, group_of}
use Rattle.mold_feeder.specs.declared.gathered.Gathered.{Gathered}
use Rattle.mold_feeder.specs.declared.feed_end.FeedEnd.{FeedEnd}
use Rattle.mold_feeder.specs.declared.feed_input.FeedInput.{FeedInput}
use Rattle.mold_feeder.specs.declared.feed_lines.FeedLines.{FeedLines}
use Rattle.mold_feeder.specs.declared.feeder.Feeder.{Feeder}

-- What a publisher without unsent messages sends when its lines are idle: a heartbeat or, if the session is closed, an
-- end packet.
abbrev pub next_beat : PublisherState → Option Packet
next_beat publisher = if publisher.journal.closed then next_end publisher else next_heartbeat publisher

-- The datagrams that a publisher over ports has sent, and the counts of its sends. `state` gives the state of its ports.
abbrev pub sent_of : {S L P : Type 0} → (L → PortSetState P) → Feeder S L → LinesState P
sent_of state feeder = lines_at (state feeder.ports).sent feeder.counts

-- Each of these datagrams is true of the committed messages of this life, and of every file that a crash leaves.
pub record AreTold {S : Type 0} (may_leave : S → List ℕ → Type 0) (publisher : DurablePublisher S) (life : Life)
    (datagrams : List (List ℕ)) : Type 0 where
  pub now : AllByRecursion (IsTrueNow life) datagrams
  pub left : AllByRecursion (λ datagram. IsWithin (IsTold datagram) (may_leave publisher.durable.storage)) datagrams

-- The publisher sent these datagrams on its lines, and nothing else changed. If the session had a life, each of them
-- is true of its committed messages, and of every file that a crash leaves.
pub record HasSent {S L P : Type 0} (shows may_leave : S → List ℕ → Type 0) (modeled : Bool)
    (state : L → PortSetState P) (lines : FeedLines P) (datagrams : List (List ℕ)) (old new : Feeder S L) : Type 0 where
  pub sends : modeled ≡ true → SendsOn lines datagrams (sent_of state old) (sent_of state new)
  pub given : modeled ≡ true → (state new.ports).given ≡ (state old.ports).given
  pub clock : (state new.ports).now ≡ (state old.ports).now
  pub storage : new.publisher.durable ≡ old.publisher.durable
  pub journal : new.publisher.publisher.journal ≡ old.publisher.publisher.journal
  pub onward : old.publisher.publisher.sent ≤ new.publisher.publisher.sent
  pub told : (life : Life) → Publishes shows may_leave old.publisher life →
      AreTold may_leave new.publisher life datagrams
  pub publishes : (life : Life) → Publishes shows may_leave old.publisher life →
      Publishes shows may_leave new.publisher life

-- The number of the publisher's messages that were not put into a datagram yet.
abbrev pub unsent_count : {S : Type 0} → DurablePublisher S → ℕ
unsent_count publisher = length publisher.publisher.journal.messages - publisher.publisher.sent

-- A data packet was sent at this time. It delays the next one by its messages, and the next heartbeat.
pub record HasPaced {S L : Type 0} (time : ℕ) (old new : Feeder S L) : Type 0 where
  pub pace : IsPaced old.pace time (unsent_count old.publisher - unsent_count new.publisher) new.pace
  pub idle : new.idle ≡ record old.idle { due = due_after old.idle.idle time }

-- What a publisher over ports sends at this time. If a committed message is unsent and the pace allows it, that is the
-- next data packet. Otherwise it is a heartbeat or an end packet if one is due.
abbrev pub sends_at : {S L : Type 0} → ℕ → Feeder S L → List (List ℕ)
sends_at time feeder =
    if is_some (next_committed feeder.publisher) && nat_le feeder.pace.opens time
    then datagram_of (next_committed feeder.publisher)
    else (if nat_le feeder.idle.due time then datagram_of (next_beat feeder.publisher.publisher) else [])

-- The remaining messages of an input, if they are known.
abbrev pub entries_left : {M K : Type 0} → InputKind → (List ℕ → List Entry) → (M → List ℕ) →
    (K → Option (List ℕ)) → FeedInput M K → Option InputEntries
entries_left kind entries unread left input =
    known_input kind entries (prepend_known (unread input.messages) (left input.source))

-- Whether a publisher takes messages of its input: if the input is ready, and all messages were sent.
abbrev pub takes_input : {S L M K : Type 0} → Feeder S L → FeedInput M K → Bool
takes_input feeder input =
    input.ready && length feeder.publisher.publisher.journal.messages - feeder.publisher.publisher.sent == 0

-- What a publisher over ports took of its input: a group of messages, or nothing.
abbrev pub TakesSome : {S L : Type 0} → (S → List ℕ → Type 0) → (S → List ℕ → Type 0) → Life → Feeder S L →
    Feeder S L → Option InputEntries → Option InputEntries → Option Gathered → Type 0
TakesSome shows may_leave life old new known left None = (new ≡ old) × (left ≡ known)
TakesSome shows may_leave life old new known left (Some gathered) =
    TakesGroup shows may_leave life (group_of old.pace.rate) old.publisher new.publisher known left gathered

-- A turn: the publisher took a group of messages of its input or nothing, and committed them. Then it sent what was
-- due. Each datagram that it sent is true of the committed messages, and of every file that a crash leaves.
pub record HasTurned {S L P : Type 0} (shows may_leave : S → List ℕ → Type 0) (modeled : Bool)
    (state : L → PortSetState P) (lines : FeedLines P) (life : Life) (old new : Feeder S L)
    (known left : Option InputEntries) (taken : Option Gathered) : Type 0 where
  -- the publisher after it took the group
  pub mid : Feeder S L
  pub group : TakesSome shows may_leave life old mid known left taken
  pub ports : mid.ports ≡ old.ports
  pub counts : mid.counts ≡ old.counts
  pub sent : HasSent shows may_leave modeled state lines (sends_at (state mid.ports).now mid) mid new
  -- the life of the journal since then
  pub now : Life
  pub publishes : Publishes shows may_leave new.publisher now
  pub none : now.waiting ≡ []
  pub sends : modeled ≡ true →
      SendsOn lines (sends_at (state old.ports).now mid) (sent_of state old) (sent_of state new)
  pub told : AreTold may_leave new.publisher now (sends_at (state old.ports).now mid)

-- The publisher at the end of its input. An open session is closed unless it stays open.
abbrev pub ended : FeedEnd → PublisherState → PublisherState
ended end publisher = if end.stays_open then publisher else closed publisher

-- The life of the journal at the end of the input.
abbrev pub ended_life : FeedEnd → Life → Life
ended_life end life = if end.stays_open then life else after_moment life Close

-- The bytes are a file of the committed messages of this life. If the session does not stay open, they may be the
-- closed file.
abbrev pub IsFileAtEnd : Bool → Life → List ℕ → Type 0
IsFileAtEnd stays_open life bytes =
    IsFileOf life bytes ⊎ ((stays_open ≡ false) × IsFileOf (after_moment life Close) bytes)

-- What a publisher sends at the end of its input: heartbeats if its session is open, and then end packets if its
-- session is closed.
abbrev pub sends_at_end : FeedEnd → PublisherState → List (List ℕ)
sends_at_end end publisher =
    repeated end.beats (next_heartbeat publisher) ++ repeated end.ends (next_end (ended end publisher))

-- The publisher has ended its session. Each datagram that it sent is true of the committed messages, and of every file
-- that a crash leaves.
pub record HasEnded {S L P : Type 0} (shows may_leave : S → List ℕ → Type 0) (modeled : Bool)
    (state : L → PortSetState P) (lines : FeedLines P) (end : FeedEnd) (life : Life) (old new : Feeder S L) :
    Type 0 where
  pub publisher : new.publisher.publisher ≡ ended end old.publisher.publisher
  pub publishes : Publishes shows may_leave new.publisher (ended_life end life)
  pub sends : modeled ≡ true →
      SendsOn lines (sends_at_end end old.publisher.publisher) (sent_of state old) (sent_of state new)
  pub told : AreTold may_leave new.publisher (ended_life end life) (sends_at_end end old.publisher.publisher)

-- The publisher sent heartbeats if its session was open, and nothing else.
pub record HasSentBeats {S L P : Type 0} (shows may_leave : S → List ℕ → Type 0) (modeled : Bool)
    (state : L → PortSetState P) (lines : FeedLines P) (beats : ℕ) (old new : Feeder S L) : Type 0 where
  -- the publisher after the heartbeats
  pub mid : Feeder S L
  pub sent : HasSent shows may_leave modeled state lines (repeated beats (next_heartbeat old.publisher.publisher)) old
      mid
  pub silent : new.ports ≡ mid.ports
