-- Defines how `mold check` of a folder ends.
use Rattle.std.specs.Prelude.{◌≡◌, ℕ, false, List, [], Option, Result, Ok, Err}
use Rattle.std.specs.Io.KnownBytes.{Appends}
use Rattle.std.specs.declared.io.ErrorKind.{ErrorKind}
use Rattle.std.specs.declared.io.ErrorKind.TheVariants.{OutOfMemory}
use Rattle.mold_check.specs.Entries.{bytes_of, is_datagram, name_of}
use Rattle.mold_check.specs.Report.{Checked, outcome_status, report}
use Rattle.mold_check.specs.declared.entry.Entry.{Entry}
use Rattle.mold_devices.specs.Devices.{one_more}
use Rattle.mold_devices.specs.declared.fault.CommandFault.{CommandFault}
use Rattle.mold_devices.specs.declared.fault.CommandFault.TheVariants.{Read, Write, Memory}

-- The entry was read from one that has this name. If it is not a datagram, its bytes were not read. The definition does
-- not specify the bytes of a datagram: no contract states what a file has.
pub record IsReadAs (name : List ℕ) (entry : Entry) : Type 0 where
  pub named : name_of entry ≡ name
  pub skipped : is_datagram entry ≡ false → bytes_of entry ≡ []

-- The fault of a folder that can't be read for an error of this kind.
abbrev pub read_fault : ErrorKind → CommandFault
read_fault OutOfMemory = Memory
read_fault kind = Read

-- The report of these entries was written, and the status is that of their outcome.
pub record PrintsReport (entries : List Entry) (old new : Option (List ℕ)) (status : ℕ) : Type 0 where
  pub checked : Checked entries
  pub written : Appends old new (report checked)
  pub answered : status ≡ outcome_status checked.outcome

-- The report of some entries was written, and the status is that of their outcome. The definition does not state which
-- entries a folder has.
pub record PrintsEntries (old new : Option (List ℕ)) (status : ℕ) : Type 0 where
  -- The entries that the system listed.
  pub entries : List Entry
  pub printed : PrintsReport entries old new status

-- The sink's count of failures rises by one if the fault is `Write`, and is unchanged otherwise. A folder that can't
-- be read is not a failure of the sink.
abbrev pub CountsFolderFault : ℕ → ℕ → CommandFault → Type 0
CountsFolderFault old new Read = new ≡ old
CountsFolderFault old new Write = new ≡ one_more old
CountsFolderFault old new Memory = new ≡ old

-- The sink's count of failures rises by one if the check ends with `Write`, and is unchanged otherwise.
abbrev pub CountsFolder : {T : Type 0} → ℕ → ℕ → Result T CommandFault → Type 0
CountsFolder old new (Ok _) = new ≡ old
CountsFolder old new (Err fault) = CountsFolderFault old new fault
