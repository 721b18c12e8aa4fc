-- What loading a journal's file reports before a command starts.
use Rattle.std.specs.Prelude.{◌≡◌, ◌⊎◌, ℕ, false, List, Option, Result, Ok, Err, IfSome}
use Rattle.mold_devices.specs.Devices.{one_more}
use Rattle.mold_devices.specs.declared.fault.CommandFault.{CommandFault}
use Rattle.mold_devices.specs.declared.fault.CommandFault.TheVariants as command
use Rattle.mold_session.specs.File.{SpellsJournal, SpellsJournal2}
use Rattle.mold_session.specs.FileFault.{JournalFault}
use Rattle.mold_session.specs.Journal.{JournalState}
use Rattle.mold_session.specs.Records.{SpellsJournal3}
use Rattle.mold_session.specs.declared.error.FileError.{FileError}
use Rattle.mold_session.specs.declared.error.FileError.TheVariants as file

-- The bytes are the file of the journal. A file of version 1 is that of an open journal; a file of version 2 or 3 may be
-- of an open or a closed one.
abbrev pub SpellsFile : JournalState → List ℕ → Type 0
SpellsFile journal bytes =
    ((journal.closed ≡ false) × SpellsJournal journal.session journal.messages bytes)
    ⊎ (SpellsJournal2 journal.session journal.messages journal.closed bytes
    ⊎ SpellsJournal3 journal.session journal.messages journal.closed bytes)

-- The error is one of the file itself, not of a device or an allocation. If the bytes of the file are known, they have
-- that fault (`JournalFault`).
abbrev pub IsAtFault : ℕ → Option (List ℕ) → FileError → Type 0
IsAtFault most known file.Read = ⊥
IsAtFault most known file.Write = ⊥
IsAtFault most known file.Memory = ⊥
IsAtFault most known error = IfSome known (λ bytes. JournalFault most bytes error)

-- The source's count of failures rises by one with `Read`. It stays the same with `Memory` and with a success, and
-- `Write` never occurs.
abbrev pub CountsSource : {T : Type 0} → ℕ → ℕ → Result T CommandFault → Type 0
CountsSource old new (Ok _) = new ≡ old
CountsSource old new (Err command.Read) = new ≡ one_more old
CountsSource old new (Err command.Memory) = new ≡ old
CountsSource old new (Err command.Write) = ⊥
