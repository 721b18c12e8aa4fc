-- The file of a journal: its layout in version 1 and version 2, and its length.
use Rattle.std.specs.Prelude.{◌≡◌, ℕ, ◌+◌, Bool, true, false, List, ◌∷◌, ◌++◌, length, sum_by, codes, Option}
use Rattle.std.specs.Io.KnownBytes.{Appends}
use Rattle.mold_wire.specs.Block.{be64, blocks}
use Rattle.mold_wire.specs.declared.block.TheConstants.{MAX_MESSAGE}
use Rattle.mold_wire.specs.declared.session.Session.{Session}
use Rattle.mold_devices.specs.Devices.{AppendsPrefix}
use Rattle.mold_session.specs.Journal.{AreMessages}

-- The magic bytes of version 1, which is only read.
unfoldable pub magic_1 : List ℕ
magic_1 = codes "MOLDJNL1"

-- The magic bytes of version 2, which is read and written.
unfoldable pub magic_2 : List ℕ
magic_2 = codes "MOLDJNL2"

-- The byte at offset 18 of version 2: 1 if the session is closed, otherwise 0.
abbrev pub closed_byte : Bool → ℕ
closed_byte true = 1
closed_byte false = 0

-- The head of a file of version 1: the magic bytes and the session's name.
abbrev pub head_1 : List ℕ → List ℕ
head_1 session = magic_1 ++ session

-- The head of a file of version 2: the magic bytes, the session's name, the byte that states whether the
-- session is closed, and the number of messages in 8 bytes.
abbrev pub head_2 : List ℕ → Bool → ℕ → List ℕ
head_2 session closed count = magic_2 ++ (session ++ (closed_byte closed ∷ be64 count))

-- The bytes are the file of version 1 of a journal with these messages, of which there are at most
-- `MAX_MESSAGES`.
pub record SpellsJournal (session : Session) (messages : List (List ℕ)) (bytes : List ℕ) : Type 0 where
  pub named : length session.0 ≡ 10
  pub listed : AreMessages MAX_MESSAGE messages
  pub spelled : bytes ≡ head_1 session.0 ++ blocks messages

-- The bytes are the file of version 2 of a journal with these messages, of which there are at most
-- `MAX_MESSAGES`.
pub record SpellsJournal2 (session : Session) (messages : List (List ℕ)) (closed : Bool) (bytes : List ℕ) : Type 0 where
  pub named : length session.0 ≡ 10
  pub listed : AreMessages MAX_MESSAGE messages
  pub spelled : bytes ≡ head_2 session.0 closed (length messages) ++ blocks messages

-- The length in bytes of a file of version 2: 27, and for each message 2 plus its length.
abbrev pub file_length : List (List ℕ) → ℕ
file_length messages = 27 + sum_by (λ message. 2 + length message) messages

-- If the bytes that the sink holds are known, the file of version 2 of a journal was appended to them.
pub record AppendsFile (old new : Option (List ℕ)) (session : Session) (messages : List (List ℕ))
    (closed : Bool) : Type 0 where
  pub file : List ℕ
  pub spelled : SpellsJournal2 session messages closed file
  pub appended : Appends old new file

-- If the bytes that the sink holds are known, a prefix of the file of version 2 of a journal was appended to them.
pub record AppendsFilePrefix (old new : Option (List ℕ)) (session : Session) (messages : List (List ℕ))
    (closed : Bool) : Type 0 where
  pub file : List ℕ
  pub spelled : SpellsJournal2 session messages closed file
  pub appended : AppendsPrefix old new file
