-- The messages of a journal's file that are compared one after the other.
use Rattle.std.specs.Prelude.{◌≡◌, ◌⊎◌, ◌≤◌, ◌+◌, ℕ, ⊤, Bool, List, Option, Some}
use Rattle.std.specs.Io.KnownBytes.{prepend_known}
use Rattle.mold_session.specs.Journal.{message_numbered}
use Rattle.mold_session.specs.Reader.{HasRead, ReaderState}
use Rattle.mold_session.specs.Records.{SpellsJournal3}
use Rattle.mold_session.specs.declared.error.FileError.{FileError}
use Rattle.mold_session.specs.declared.error.FileError.TheVariants.{Memory, Read}
use Rattle.mold_wire.specs.declared.session.Session.{Session}
use Rattle.mold_feeder.specs.declared.journal_messages.JournalMessages.{JournalMessages}

-- Of these messages, the one with this number is read next, or it was read last.
abbrev pub IsAt : ReaderState → List (List ℕ) → ℕ → Type 0
IsAt reader messages number =
    (reader.count + 1 ≡ number)
    ⊎ ((reader.count ≡ number) × (message_numbered messages number ≡ Some reader.message))

-- The source had the file, of version 3, of a journal with these messages. They were read up to number `number`: the
-- message of that number is read next, or it was read last. Any bytes may follow the messages in the file.
pub record HasMessages {J : Type 0} (left : J → Option (List ℕ)) (journal : JournalMessages J)
    (messages : List (List ℕ)) (number : ℕ) : Type 0 where
  pub session : Session
  pub closed : Bool
  pub file : List ℕ
  pub spelled : SpellsJournal3 session messages closed file
  -- the messages that were read
  pub front : List (List ℕ)
  pub read : HasRead (Some file) (prepend_known journal.reader.rest (left journal.source)) journal.reader front
  pub some : 1 ≤ number
  pub next : IsAt journal.reader messages number

-- The same, and the message of that number was read last.
pub record HasMessageRead {J : Type 0} (left : J → Option (List ℕ)) (journal : JournalMessages J)
    (messages : List (List ℕ)) (number : ℕ) : Type 0 where
  pub has : HasMessages left journal messages number
  pub counted : journal.reader.count ≡ number
  pub there : message_numbered messages number ≡ Some journal.reader.message

-- A read or an allocation failed. The error states nothing of the file.
abbrev pub IsOfDevice : FileError → Type 0
IsOfDevice Read = ⊤
IsOfDevice Memory = ⊤
IsOfDevice error = ⊥
