-- Recorders of a session: receivers that keep the session in durable journals, and may crash at any moment.
use Rattle.std.specs.Prelude.{◌≡◌, ◌⊎◌, ℕ, ◌+◌, Bool, true, false, List, [], ◌∷◌, ◌++◌, length, Some, slice_get}
use Rattle.std.specs.List.{AllByRecursion}
use Rattle.mold_durable.specs.DurableJournal.{DurableState}
use Rattle.mold_durable.specs.Life.{Life, Lives}
use Rattle.mold_port_set.specs.PortSet.{Given}
use Rattle.mold_receiver.specs.Fresh.{IsNew}
use Rattle.mold_recorder.specs.Recording.{HasBroken, RecorderState}
use Rattle.mold_repair.specs.declared.repairer.Repairer.{Repairer}
use Rattle.mold_session.specs.Records.{SpellsJournal3}
use Rattle.mold_wire.specs.Block.{IsBytes}
use Rattle.mold_wire.specs.Truth.{AreForeign}
use Rattle.mold_wire.specs.declared.session.Session.{Session}
use Rattle.mold_world.specs.Headline.{IsPrefix}
use Rattle.mold_world.specs.Machine.{Machine}

-- The datagram was sent in the session, or it does not encode a packet of the session.
abbrev pub MayArrive : Machine → Given → Type 0
MayArrive machine given =
    ((place : ℕ) × (slice_get machine.sent place ≡ Some given.bytes))
    ⊎ (IsBytes given.bytes × AreForeign machine.session given.bytes)

-- Each of the datagrams was sent in the session, or does not encode a packet of it.
abbrev pub MayAllArrive : Machine → List Given → Type 0
MayAllArrive machine datagrams = AllByRecursion (MayArrive machine) datagrams

-- A recorder's journal has a prefix of the messages that the publisher committed. If it is closed, it has all of them,
-- and the session is closed. `publisher` is the life of the publisher's journal.
pub record IsRecordOf (publisher : Life) (messages : List (List ℕ)) (closed : Bool) : Type 0 where
  pub prefix : IsPrefix messages publisher.committed
  pub whole : closed ≡ true → (publisher.closed ≡ true) × (messages ≡ publisher.committed)

-- A recorder begins. The journal that it opened is open and has these messages, and it receives those that follow them.
pub record HasBegun {S : Type 0} (shows may_leave : S → List ℕ → Type 0) (session : Session)
    (messages : List (List ℕ)) (repairer : Repairer) (journal : DurableState S) : Type 0 where
  pub window : ℕ
  pub anew : IsNew repairer.arbiter.view session (length messages + 1) window
  pub lives : Lives shows may_leave journal
      (record { session = session; committed = messages; closed = false; waiting = [] })

-- One life of a recorder, from when it opened its file to when it died or ended.
pub record RecorderLife : Type 0 where
  -- the messages of the file when it was opened
  pub found : List (List ℕ)
  -- the messages of the file that the life has left
  pub left : List (List ℕ)
  -- whether the file that it has left is closed
  pub closed : Bool

-- The recorder had this life. It took only datagrams that may arrive, and a crash at any moment of the life left its
-- file. An end without a crash counts as a crash after it.
pub record HasRecorded (P : Type 0) {S : Type 0} (shows may_leave : S → List ℕ → Type 0) (moment : S → ℕ)
    (left_since : S → ℕ → List ℕ → Type 0) (machine : Machine) (life : RecorderLife) : Type 0 where
  pub lines : ℕ
  pub servers : List P
  -- the datagram by which the recorder learned the session, if it took one
  pub first : List Given
  pub start : RecorderState P
  pub before : DurableState S
  pub after : DurableState S
  pub begun : HasBegun shows may_leave machine.session life.found start.repairer before
  pub ran : HasBroken lines servers true shows may_leave moment left_since first start before after
  pub arrived : MayAllArrive machine (first ++ ran.delivered.since)
  pub file : List ℕ
  pub crash : left_since after.storage (moment before.storage) file
  pub spelled : SpellsJournal3 machine.session life.left life.closed file

-- The lives of a recorder, one after the other. The file that a life has left is the one that the next life opens. The
-- first life opens a file with these messages. A closed file is not opened again.
abbrev pub HaveRecorded : (P : Type 0) → {S : Type 0} → (shows may_leave : S → List ℕ → Type 0) (moment : S → ℕ)
    (left_since : S → ℕ → List ℕ → Type 0) → Machine → List (List ℕ) → Bool → List RecorderLife → Type 0
HaveRecorded P shows may_leave moment left_since machine messages closed [] = Unit {0}
HaveRecorded P shows may_leave moment left_since machine messages closed (life ∷ lives) =
    (closed ≡ false) × (life.found ≡ messages)
    × HasRecorded P shows may_leave moment left_since machine life
    × HaveRecorded P shows may_leave moment left_since machine life.left life.closed lives
