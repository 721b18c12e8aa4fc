-- The file of a journal in version 3: records, one for each message, and one if the session is closed.
use Rattle.std.specs.Prelude.{◌≡◌, ℕ, Bool, true, false, List, ◌∷◌, ◌++◌, length, codes}
use Rattle.std.specs.List.{flat_map}
use Rattle.mold_wire.specs.Block.{block}
use Rattle.mold_wire.specs.declared.block.TheConstants.{MAX_MESSAGE}
use Rattle.mold_wire.specs.declared.session.Session.{Session}
use Rattle.mold_session.specs.Journal.{AreMessages}

-- The magic bytes of version 3, which is only read.
unfoldable pub magic_3 : List ℕ
magic_3 = codes "MOLDJNL3"

-- The head of a file of version 3: the magic bytes and the session's name.
abbrev pub head_3 : List ℕ → List ℕ
head_3 session = magic_3 ++ session

-- The record of a message: an open gate, which is the byte 1, then the byte 0, and the message's block.
abbrev pub record_of : List ℕ → List ℕ
record_of message = 1 ∷ 0 ∷ block message

-- The records of the messages, in order, without anything between them.
abbrev pub records : List (List ℕ) → List ℕ
records messages = flat_map record_of messages

-- The bytes begin with a shut gate, which is any byte other than 1.
pub record IsShut (bytes : List ℕ) : Type 0 where
  pub gate : ℕ
  pub rest : List ℕ
  pub shut : gate ≡ 1 → ⊥
  pub parts : bytes ≡ gate ∷ rest

-- The bytes begin with the closing record: an open gate, the byte 1, and one more byte of any value.
pub record IsClosing (bytes : List ℕ) : Type 0 where
  pub byte : ℕ
  pub rest : List ℕ
  pub parts : bytes ≡ 1 ∷ 1 ∷ byte ∷ rest

-- The bytes after the records of the messages: the closing record if the session is closed, otherwise a shut gate. Any
-- bytes may follow.
abbrev pub EndsRecords : Bool → List ℕ → Type 0
EndsRecords true bytes = IsClosing bytes
EndsRecords false bytes = IsShut bytes

-- The bytes are a file of version 3 of a journal with these messages, of which there are at most `MAX_MESSAGES`.
pub record SpellsJournal3 (session : Session) (messages : List (List ℕ)) (closed : Bool) (bytes : List ℕ) : Type 0 where
  pub named : length session.0 ≡ 10
  pub listed : AreMessages MAX_MESSAGE messages
  pub rest : List ℕ
  pub spelled : bytes ≡ head_3 session.0 ++ (records messages ++ rest)
  pub ends : EndsRecords closed rest
