-- Which errors of a journal file are faults of a command, and what a loop writes that ends with another error.
use Rattle.std.specs.Prelude.{◌≡◌, ◌⊎◌, ◌++◌, ℕ, List, Option, None, Some}
use Rattle.std.specs.Io.KnownBytes.{Appends}
use Rattle.mold_devices.specs.declared.fault.CommandFault.{CommandFault}
use Rattle.mold_devices.specs.declared.fault.CommandFault.TheVariants as command
use Rattle.mold_refusals.specs.Words.{file_fault_words}
use Rattle.mold_session.specs.declared.error.FileError.{FileError}
use Rattle.mold_session.specs.declared.error.FileError.TheVariants.{Memory, Read, Write}
use Rattle.mold_text.specs.Text.{refused_line}

-- The fault for a call or an allocation that failed, or `None` for an error of the bytes.
abbrev pub device_fault : FileError → Option CommandFault
device_fault Read = Some command.Read
device_fault Write = Some command.Write
device_fault Memory = Some command.Memory
device_fault error = None

-- A read or an allocation failed. A journal that is shown has no other error when it is served.
abbrev pub IsReadOrMemory : FileError → Type 0
IsReadOrMemory error = (error ≡ Read) ⊎ (error ≡ Memory)

-- The loop wrote the text of some turns, and then the line of an error of the journal's bytes.
pub record EndsRefused (old new : Option (List ℕ)) : Type 0 where
  -- the text of the turns before
  pub text : List ℕ
  pub error : FileError
  pub bytes : device_fault error ≡ None
  pub appended : Appends old new (text ++ refused_line (file_fault_words error))
