-- The bytes that a program appends to a journal file of version 3.
use Rattle.std.specs.Prelude.{◌≡◌, ℕ, ◌+◌, ◌-◌, ◌<◌, ◌≤◌, ◌^◌, Bool, true, false, List, [], ◌∷◌, ◌++◌, length, drop}
use Rattle.mold_session.specs.Journal.{JournalState}
use Rattle.mold_session.specs.Putting.{Puts}
use Rattle.mold_session.specs.Records.{head_3, records}
use Rattle.mold_wire.specs.declared.session.Session.{Session}
use Rattle.mold_ffi.specs.declared.code.TheConstants as codes

-- What follows the records: a shut gate, or the closing record if the session is closed.
abbrev pub records_end : Bool → List ℕ
records_end true = 1 ∷ 1 ∷ 0 ∷ []
records_end false = 0 ∷ []

-- The records of the messages from number `from` on, and what follows them.
abbrev pub records_from : JournalState → ℕ → List ℕ
records_from journal from = records (drop (from - 1) journal.messages) ++ records_end journal.closed

-- The number is that of a message, or of the message that would be published next.
pub record IsStart (journal : JournalState) (from : ℕ) : Type 0 where
  pub some : 1 ≤ from
  pub within : from ≤ length journal.messages + 1

-- The size is this length. Of a length that does not fit 64 bits nothing is stated.
abbrev pub IsSize : ℕ → ℕ → Type 0
IsSize size len = len < 2 ^ 64 → size ≡ len

-- The records are written to a buffer that has room for them. Their length is written even if there is no room.
pub record WritesRecords (journal : JournalState) (from : ℕ) (old new : List ℕ) (code size : ℕ) : Type 0 where
  pub absent : (IsStart journal from → ⊥) → (code ≡ codes.ABSENT) × (size ≡ 0) × (new ≡ old)
  pub room : IsStart journal from → length old < length (records_from journal from) →
      (code ≡ codes.ROOM) × IsSize size (length (records_from journal from)) × (new ≡ old)
  pub put : IsStart journal from → length (records_from journal from) ≤ length old →
      (code ≡ codes.DONE) × Puts old new (records_from journal from) size

-- The file of a session without messages: the head, and a shut gate.
abbrev pub empty_file : Session → List ℕ
empty_file session = head_3 session.0 ++ 0 ∷ []

-- The file of a session without messages is written to a buffer of at least 19 bytes.
pub record WritesHead (session : Session) (old new : List ℕ) (code size : ℕ) : Type 0 where
  pub sized : size ≡ 19
  pub room : length old < 19 → (code ≡ codes.ROOM) × (new ≡ old)
  pub put : 19 ≤ length old → (code ≡ codes.DONE) × Puts old new (empty_file session) size
