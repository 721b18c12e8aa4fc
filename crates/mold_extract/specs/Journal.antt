-- The journal of a whole session.
use Rattle.std.specs.Prelude.{◌≡◌, ℕ, ◌+◌, List, [], ◌++◌, true, Option, Some}
use Rattle.std.specs.Io.KnownBytes.{Appends}
use Rattle.mold_wire.specs.Block.{blocks}
use Rattle.mold_devices.specs.Devices.{AppendsPrefix}
use Rattle.mold_session.specs.File.{head_2}
use Rattle.mold_capture.specs.Seen.{Seen}
use Rattle.mold_capture.specs.Verdict.{IsWholeSeen}
use Rattle.mold_extract.specs.Carried.{carried_between, messages_of}
use Rattle.mold_extract.specs.declared.extracted.Extracted.{Extracted}
use Rattle.mold_extract.specs.declared.extracted.Extracted.TheVariants.{All, Holes}

-- The datagrams state a whole session with this name and this number of messages.
pub record IsWholeSession (seen : Seen) (session : List ℕ) (count : ℕ) : Type 0 where
  pub named : seen.session ≡ Some session
  pub whole : IsWholeSeen seen (count + 1)

-- The carried messages with the numbers 1 to `count`.
abbrev pub first_messages : Seen → ℕ → List (List ℕ)
first_messages seen count = messages_of (carried_between seen.pairs 1 (count + 1))

-- The file of version 2 of the closed journal with this session name and the carried messages 1 to `count`.
abbrev pub journal_file : List ℕ → Seen → ℕ → List ℕ
journal_file session seen count = head_2 session true count ++ blocks (first_messages seen count)

-- The session is whole, and the file of its journal was appended to the bytes that the sink holds.
pub record AppendsJournal (old new : Option (List ℕ)) (seen : Seen) (count : ℕ) : Type 0 where
  pub session : List ℕ
  pub is_whole : IsWholeSession seen session count
  pub appended : Appends old new (journal_file session seen count)

-- The session is whole, and a prefix of the file of its journal was appended to the bytes that the sink holds.
pub record AppendsJournalPrefix (old new : Option (List ℕ)) (seen : Seen) : Type 0 where
  pub session : List ℕ
  pub count : ℕ
  pub is_whole : IsWholeSession seen session count
  pub appended : AppendsPrefix old new (journal_file session seen count)

-- What was saved: the journal of the session, or nothing if the session is not whole.
abbrev pub Saves : Option (List ℕ) → Option (List ℕ) → Seen → Extracted → Type 0
Saves old new seen (All messages) = AppendsJournal old new seen messages
Saves old new seen Holes =
    ((session : List ℕ) (count : ℕ) → IsWholeSession seen session count → ⊥) × Appends old new []
