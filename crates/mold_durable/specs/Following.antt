-- What a writer may do to the file of a journal, and how its records are read meanwhile.
use Rattle.std.specs.Prelude.{◌≡◌, ℕ, ◌+◌, ◌<◌, ◌≤◌, ◌^◌, ⊤, Bool, true, false, List, [], ◌∷◌, ◌++◌, length, drop}
use Rattle.std.specs.Prelude.{slice_index}
use Rattle.std.specs.List.{AllByRecursion}
use Rattle.mold_wire.specs.declared.limits.TheConstants.{MAX_NUMBER}
use Rattle.mold_wire.specs.declared.session.Session.{Session}
use Rattle.mold_session.specs.Contents.{IsFront}
use Rattle.mold_session.specs.Journal.{IsWithin}
use Rattle.mold_session.specs.Records.{record_of, records, IsClosing, IsShut, SpellsJournal3}
use Rattle.mold_session.specs.declared.journal.TheConstants.{MAX_MESSAGES}
use Rattle.mold_durable.specs.declared.error.OpenError.{OpenError}
use Rattle.mold_durable.specs.declared.error.OpenError.TheVariants.{Read, Write, Memory, Damaged}
use Rattle.mold_durable.specs.Group.{closing as closing_bytes}
use Rattle.mold_durable.specs.declared.following.Found.{Found}
use Rattle.mold_durable.specs.declared.following.Found.TheVariants.{Message, Closing, Shut}
use Rattle.mold_durable.specs.declared.following.Look.{Look}
use Rattle.mold_durable.specs.declared.following.TheConstants.{LONGEST_RECORD, LOOK_BYTES}

-- ---- the writer

-- What a writer has in its journal at each moment.
pub record Writer : Type 0 where
  pub session : Session
  pub messages : ℕ → List (List ℕ)
  -- whether the journal is closed
  pub closed : ℕ → Bool

-- The bytes are those of a file that this writer writes. At each moment they are a file of version 3 with the writer's
-- messages, so any bytes may follow a shut gate. Messages are only added, and none once the journal is closed.
pub record Writes (writer : Writer) (bytes : ℕ → List ℕ) : Type 0 where
  pub file : (moment : ℕ) →
      SpellsJournal3 writer.session (writer.messages moment) (writer.closed moment) (bytes moment)
  pub grows : (earlier later : ℕ) → earlier ≤ later → IsFront (writer.messages earlier) (writer.messages later)
  pub ends : (earlier later : ℕ) → earlier ≤ later → writer.closed earlier ≡ true →
      (writer.closed later ≡ true) × (writer.messages later ≡ writer.messages earlier)

-- These are all messages that the journal had at this moment. If it was closed, `closed` is true.
pub record HasAll (writer : Writer) (told : List (List ℕ)) (closed : Bool) (moment : ℕ) : Type 0 where
  pub front : IsFront (writer.messages moment) told
  pub end : writer.closed moment ≡ true → closed ≡ true

-- No message of the writer has more than `most` bytes.
abbrev pub AllWithin : ℕ → Writer → Type 0
AllWithin most writer = (moment : ℕ) → AllByRecursion (IsWithin most) (writer.messages moment)

-- ---- records

-- At this moment the gate after these messages is open: another message or the closing record follows.
pub data IsOpen (writer : Writer) (told : List (List ℕ)) (moment : ℕ) : Type 0 where
  message : (next : List ℕ) (more : List (List ℕ)) → writer.messages moment ≡ told ++ next ∷ more →
      IsOpen writer told moment
  closing : writer.messages moment ≡ told → writer.closed moment ≡ true → IsOpen writer told moment

-- At some moment from `start` to `end`, the journal is open and has these messages.
pub record WasShut (writer : Writer) (told : List (List ℕ)) (start end : ℕ) : Type 0 where
  pub moment : ℕ
  pub since : start ≤ moment
  pub until : moment ≤ end
  pub exact : writer.messages moment ≡ told
  pub shut : writer.closed moment ≡ false

-- The records of these messages end at offset `end`, and the writer's journal begins with them. If `opened`, an earlier
-- read showed the gate there open.
pub record HasTold (writer : Writer) (told : List (List ℕ)) (count end : ℕ) (opened : Bool) (moment : ℕ) : Type 0 where
  pub counted : count ≡ length told
  pub ends : end ≡ 18 + length (records told)
  pub front : IsFront told (writer.messages moment)
  pub known : opened ≡ true → IsOpen writer told moment

-- The next message of the writer was read, and added to the news. Its record has `len` bytes. If `opened`, the gate
-- after it was open.
pub record FindsMessage (writer : Writer) (told : List (List ℕ)) (moment : ℕ) (old new : List (List ℕ)) (len : ℕ)
    (opened : Bool) : Type 0 where
  pub message : List ℕ
  pub more : List (List ℕ)
  pub added : new ≡ old ++ message ∷ []
  pub follows : writer.messages moment ≡ told ++ message ∷ more
  pub long : len ≡ length (record_of message)
  pub known : opened ≡ true → IsOpen writer (told ++ message ∷ []) moment

-- What a read from moment `start` to `end` found after these messages: the next message, the closing record or a shut
-- gate.
abbrev pub Finds : Writer → List (List ℕ) → ℕ → ℕ → List (List ℕ) → List (List ℕ) → Found → Type 0
Finds writer told start end old new (Message len opened) = FindsMessage writer told end old new len opened
Finds writer told start end old new Closing = (writer.messages end ≡ told) × (writer.closed end ≡ true)
Finds writer told start end old new Shut = WasShut writer told start end

-- A message was added to the news. Its record has `len` bytes and ends before offset 2^63.
pub record TakesMessage (count end size : ℕ) (old new : List (List ℕ)) (len : ℕ) : Type 0 where
  pub message : List ℕ
  pub added : new ≡ old ++ message ∷ []
  pub long : len ≡ length (record_of message)
  pub few : count < MAX_MESSAGES
  pub fits : len ≤ size
  pub near : end + len < 2 ^ 63

-- What a read at offset `end` of at most `size` bytes added to the news, after `count` messages.
abbrev pub Takes : ℕ → ℕ → ℕ → List (List ℕ) → List (List ℕ) → Found → Type 0
Takes count end size old new (Message len opened) = TakesMessage count end size old new len
Takes count end size old new Closing = (new ≡ old) × (end + 2 < 2 ^ 63)
Takes count end size old new Shut = new ≡ old

-- The byte at this offset is an open gate.
pub record HasOpenGate (bytes : List ℕ) (at : ℕ) : Type 0 where
  pub within : at < length bytes
  pub gate : slice_index bytes at ≡ 1

-- The bytes begin with the record of a message, which was added to the news. If `opened`, an open gate follows it.
pub record FindsMessageIn (most count : ℕ) (bytes : List ℕ) (old new : List (List ℕ)) (len : ℕ) (opened : Bool) :
    Type 0 where
  pub message : List ℕ
  pub within : IsWithin most message
  pub added : new ≡ old ++ message ∷ []
  pub parts : bytes ≡ record_of message ++ drop len bytes
  pub long : len ≡ length (record_of message)
  pub few : count < MAX_MESSAGES
  pub fits : len ≤ length bytes
  pub known : opened ≡ true → HasOpenGate bytes len

-- What is at the start of some bytes, after `count` messages.
abbrev pub FindsIn : ℕ → ℕ → List ℕ → List (List ℕ) → List (List ℕ) → Found → Type 0
FindsIn most count bytes old new (Message len opened) = FindsMessageIn most count bytes old new len opened
FindsIn most count bytes old new Closing = IsClosing bytes × (new ≡ old)
FindsIn most count bytes old new Shut = IsShut bytes × (new ≡ old)

-- What a read from moment `start` to `end` showed of the gate after these messages.
abbrev pub ShowsGate : Writer → List (List ℕ) → ℕ → ℕ → Bool → Type 0
ShowsGate writer told start end true = IsOpen writer told end
ShowsGate writer told start end false = WasShut writer told start end

-- The error is a failed call of the file or a failed allocation, or the piece has fewer bytes than the longest record
-- with the gate after it.
abbrev pub IsOfPiece : ℕ → OpenError → Type 0
IsOfPiece size Read = ⊤
IsOfPiece size Write = ⊤
IsOfPiece size Memory = ⊤
IsOfPiece size (Damaged number) = size < LONGEST_RECORD
IsOfPiece size error = ⊥

-- ---- a look at the file

-- The limits of a look that found this news.
pub record IsLook (news : List (List ℕ)) (look : Look) : Type 0 where
  pub few : look.records.count < MAX_NUMBER
  pub near : look.records.end < 2 ^ 63
  pub bound : length (records news) < LOOK_BYTES + LONGEST_RECORD
  pub more : look.more ≡ true → (0 < length news) × (look.records.closed ≡ false)

-- A look has found these messages, together with those before. The writer's journal begins with them at moment `end`.
-- If the look did not end early, they are all that the journal had at moment `start`.
pub record Reaches (writer : Writer) (told : List (List ℕ)) (start end : ℕ) (look : Look) : Type 0 where
  pub counted : look.records.count ≡ length told
  pub ends : look.records.end ≡ 18 + length (records told ++ closing_bytes look.records.closed)
  pub front : IsFront told (writer.messages end)
  pub whole : look.records.closed ≡ true → (writer.messages end ≡ told) × (writer.closed end ≡ true)
  pub all : look.more ≡ false → HasAll writer told look.records.closed start
