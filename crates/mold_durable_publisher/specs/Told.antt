-- What a datagram states is true of the messages of a file.
use Rattle.std.specs.Prelude.{◌≡◌, ℕ, ◌+◌, ◌<◌, Bool, true, List, [], ◌++◌, length}
use Rattle.mold_wire.specs.declared.limits.TheConstants.{MAX_NUMBER}
use Rattle.mold_wire.specs.declared.packet.Packet.{Packet}
use Rattle.mold_wire.specs.declared.session.Session.{Session}
use Rattle.mold_wire.specs.Packet.{Spells}
use Rattle.mold_wire.specs.Truth.{IsTruePacket}
use Rattle.mold_session.specs.Records.{SpellsJournal3}
use Rattle.mold_durable.specs.Life.{Life}

-- The bytes of the datagram are the encoding of a packet of the session. It is true of these messages.
pub record IsTrueOf (session : Session) (messages : List (List ℕ)) (closed : Bool) (datagram : List ℕ) : Type 0 where
  pub packet : Packet
  pub spelled : Spells packet datagram
  pub named : packet.session ≡ session
  pub so : IsTruePacket packet messages closed

-- The datagram is true of the committed messages of this life.
abbrev pub IsTrueNow : Life → List ℕ → Type 0
IsTrueNow life datagram = IsTrueOf life.session life.committed life.closed datagram

-- The bytes are a file of a journal, and the datagram is true of its messages.
pub record IsTold (datagram bytes : List ℕ) : Type 0 where
  pub session : Session
  pub messages : List (List ℕ)
  pub closed : Bool
  pub file : SpellsJournal3 session messages closed bytes
  pub so : IsTrueOf session messages closed datagram

-- Messages of a session at a later time: more may follow the earlier ones, unless the session was closed.
pub record IsLater (before : List (List ℕ)) (was : Bool) (after : List (List ℕ)) (is : Bool) : Type 0 where
  pub extra : List (List ℕ)
  pub longer : after ≡ before ++ extra
  pub few : length after < MAX_NUMBER
  pub over : was ≡ true → (is ≡ true) × (after ≡ before)

-- The bytes are a file of the committed messages of this life, or of more messages of the same session.
pub record IsLaterFile (life : Life) (bytes : List ℕ) : Type 0 where
  pub messages : List (List ℕ)
  pub closed : Bool
  pub file : SpellsJournal3 life.session messages closed bytes
  pub later : IsLater life.committed life.closed messages closed

-- What holds of the life of every durable journal: its messages have numbers, and none waits once the session is closed.
pub record IsLife (life : Life) : Type 0 where
  pub few : length life.committed + length life.waiting < MAX_NUMBER
  pub none : life.closed ≡ true → life.waiting ≡ []
