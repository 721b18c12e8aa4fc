-- What a durable publisher sends, and how its session goes on.
use Rattle.std.specs.Prelude.{◌≡◌, ◌⊎◌, ℕ, ◌≤◌, ⊤, false, true, List, [], ◌++◌, length, ◌==◌, if◌then◌else◌, Option}
use Rattle.std.specs.Prelude.{None, unwrap_or}
use Rattle.mold_wire.specs.declared.packet.Packet.{Packet}
use Rattle.mold_session.specs.Journal.{IsJournal, JournalState, append_refusal}
use Rattle.mold_session.specs.Publisher.{after_datagram, next_datagram}
use Rattle.mold_session.specs.declared.error.AppendError.TheVariants.{Memory}
use Rattle.mold_durable.specs.DurableJournal.{DurableState, waiting_refusal}
use Rattle.mold_durable.specs.Life.{Life, Lives}
use Rattle.mold_durable.specs.Reading.{IsOfDevice as IsOfStorage}
use Rattle.mold_durable.specs.Storage.{OnlyReads}
use Rattle.mold_durable.specs.declared.error.WaitingError.{WaitingError}
use Rattle.mold_durable.specs.declared.error.WaitingError.TheVariants.{Append, Broken}
use Rattle.mold_index.specs.Index.{Indexes}
use Rattle.mold_index.specs.Layouts.{lengths_of}
use Rattle.mold_indexed_file.specs.Shown.{IsPartOf, start_of}
use Rattle.mold_indexed_file.specs.Stored.{StoredState}
use Rattle.mold_session.specs.declared.file_version.FileVersion.TheVariants.{Three}
use Rattle.mold_durable_publisher.specs.Told.{IsLaterFile, IsLife}
use Rattle.mold_durable_publisher.specs.declared.durable_publisher.DurablePublisher.{DurablePublisher}
use Rattle.mold_durable_publisher.specs.declared.error.StartError.{StartError}
use Rattle.mold_durable_publisher.specs.declared.error.StartError.TheVariants as start

-- The journals agree, as far as their states show: in the durable journal no message waits, and the journal in memory
-- has as many messages as are committed.
pub record Agrees {S : Type 0} (journal : JournalState) (durable : DurableState S) : Type 0 where
  pub session : journal.session ≡ durable.session
  pub longest : journal.max_message ≡ durable.max_message
  pub counted : length journal.messages ≡ durable.committed
  pub none : length durable.waiting ≡ 0
  pub closed : journal.closed ≡ durable.closed

-- The data packet that is sent next. There is none if no committed message is unsent, or while a message waits to be
-- committed.
abbrev pub next_committed : {S : Type 0} → DurablePublisher S → Option Packet
next_committed publisher =
    if length publisher.durable.waiting == 0 then next_datagram publisher.publisher else None

-- The durable publisher after its next datagram.
abbrev pub after_committed : {S : Type 0} → DurablePublisher S → DurablePublisher S
after_committed publisher =
    if length publisher.durable.waiting == 0
    then record publisher { publisher = after_datagram publisher.publisher }
    else publisher

-- Why a published message is not stored: an allocation for the index failed, or the durable journal refuses it.
abbrev pub IsStoreFault : {S : Type 0} → DurableState S → List ℕ → WaitingError → Type 0
IsStoreFault durable message error =
    (error ≡ Append Memory)
    ⊎ (((durable.broken ≡ true) × (error ≡ Broken))
    ⊎ ((durable.broken ≡ false) × (error ≡ Append (unwrap_or (waiting_refusal durable message) Memory))))

-- Why a message is not appended. The publisher refuses it, or the publisher takes it and the durable journal refuses it.
abbrev pub IsAppendFault : {S : Type 0} → DurablePublisher S → List ℕ → WaitingError → Type 0
IsAppendFault publisher message error =
    (error ≡ Append (unwrap_or (append_refusal publisher.publisher.journal message) Memory))
    ⊎ ((append_refusal publisher.publisher.journal message ≡ None)
    × (((publisher.durable.broken ≡ true) × (error ≡ Broken))
    ⊎ ((publisher.durable.broken ≡ false)
    × (error ≡ Append (unwrap_or (waiting_refusal publisher.durable message) Memory)))))

-- Each storage of this type shows some bytes.
abbrev pub ShowsBytes : {S : Type 0} → (S → List ℕ → Type 0) → Type 0
ShowsBytes {S} shows = (storage : S) → (bytes : List ℕ) × shows storage bytes

-- The index is that of the journal's messages.
pub record HasIndex (index : StoredState) (journal : JournalState) : Type 0 where
  pub named : index.session ≡ journal.session
  pub limited : index.max_message ≡ journal.max_message
  pub journaled : IsJournal journal
  pub indexes : Indexes index.index (lengths_of journal.messages)

-- The indexes are those of the same messages.
pub record HasSameMessages (old new : StoredState) : Type 0 where
  pub named : new.session ≡ old.session
  pub limited : new.max_message ≡ old.max_message
  pub indexes : (lengths : List ℕ) → Indexes old.index lengths → Indexes new.index lengths

-- The session of the publisher has this life: the publisher has the messages that are committed or wait, and it sent
-- only committed ones. Whatever a crash leaves is a file of the committed messages, or of more.
pub record Publishes {S : Type 0} (shows may_leave : S → List ℕ → Type 0) (publisher : DurablePublisher S)
    (life : Life) : Type 0 where
  pub possible : IsLife life
  pub named : publisher.publisher.journal.session ≡ life.session
  pub held : publisher.publisher.journal.messages ≡ life.committed ++ life.waiting
  pub sent : publisher.publisher.sent ≤ length life.committed
  pub closed : publisher.publisher.journal.closed ≡ life.closed
  pub longest : publisher.publisher.journal.max_message ≡ publisher.durable.max_message
  pub durable_named : publisher.durable.session ≡ life.session
  pub counted : publisher.durable.committed ≡ length life.committed
  pub waits : publisher.durable.waiting ≡ life.waiting
  pub durable_closed : publisher.durable.closed ≡ life.closed
  pub left : (bytes : List ℕ) → may_leave publisher.durable.storage bytes → IsLaterFile life bytes
  -- As long as no write has failed, the durable journal has this life. So a crash leaves exactly its messages.
  pub lives : publisher.durable.broken ≡ false → Lives shows may_leave publisher.durable life
  pub indexed : HasIndex publisher.index publisher.publisher.journal
  -- If the bytes of the storage are known, so is the piece in the buffer of the index: it is a part of the messages.
  pub part : ShowsBytes shows → publisher.durable.broken ≡ false →
      IsPartOf (start_of Three publisher.publisher.journal) publisher.index.buffer

-- The session has this life, no message waits to be committed, and no write has failed.
pub record IsAtRest {S : Type 0} (shows may_leave : S → List ℕ → Type 0) (publisher : DurablePublisher S)
    (life : Life) : Type 0 where
  pub publishes : Publishes shows may_leave publisher life
  pub none : life.waiting ≡ []
  pub intact : publisher.durable.broken ≡ false

-- The publisher has this journal and is at rest, and the bytes of its storage are known. So a server responds from the
-- journal.
pub record ShowsJournal {S : Type 0} (shows may_leave : S → List ℕ → Type 0) (publisher : DurablePublisher S)
    (journal : JournalState) : Type 0 where
  pub shown : ShowsBytes shows
  pub life : Life
  pub rests : IsAtRest shows may_leave publisher life
  pub is : journal ≡ publisher.publisher.journal

-- A server responded from the publisher's journal. The storage was only read. Only the storage and the buffer of the
-- index have changed, and the session goes on as before.
pub record WasServed {S : Type 0} (shows may_leave : S → List ℕ → Type 0) (moment : S → ℕ)
    (left_since : S → ℕ → List ℕ → Type 0) (old new : DurablePublisher S) : Type 0 where
  pub kept : new ≡ record {
    publisher = old.publisher;
    durable = record old.durable { storage = new.durable.storage };
    index = record old.index { buffer = new.index.buffer };
  }
  pub reads : OnlyReads shows may_leave moment left_since old.durable.storage new.durable.storage
  pub lives : (life : Life) → Publishes shows may_leave old life → Publishes shows may_leave new life

-- The error is a failed call of the storage or a failed allocation. So it does not depend on the bytes.
abbrev pub IsOfDevice : StartError → Type 0
IsOfDevice (start.Open error) = IsOfStorage error
IsOfDevice start.Memory = ⊤
IsOfDevice error = ⊥
