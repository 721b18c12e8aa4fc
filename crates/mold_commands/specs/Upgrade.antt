-- Defines how `mold upgrade` ends, and what it prints.
use Rattle.std.specs.Prelude.{◌≡◌, ℕ, Bool, true, false, List, [], ◌∷◌, codes, decimal, Option, None, Some, Result}
use Rattle.std.specs.Prelude.{Ok, Err, IfOk, IfErr}
use Rattle.std.specs.Io.KnownBytes.{Appends}
use Rattle.mold_devices.specs.Devices.{AppendsPrefix, one_more}
use Rattle.mold_devices.specs.declared.fault.CommandFault.{CommandFault}
use Rattle.mold_devices.specs.declared.fault.CommandFault.TheVariants as command
use Rattle.mold_refusals.specs.Words.{file_fault_words}
use Rattle.mold_text.specs.Line.{line_of}
use Rattle.mold_text.specs.Text.{refused_line}
use Rattle.mold_session.specs.Loading.{CountsLoad}
use Rattle.mold_session.specs.Upgrading.{CountsSave, RefusesUpgrade, Upgrades}
use Rattle.mold_session.specs.declared.error.FileError.{FileError}
use Rattle.mold_session.specs.declared.error.FileError.TheVariants as file
use Rattle.mold_session.specs.declared.upgrading.Upgraded.{Upgraded}

-- The word for a closed or an open journal.
abbrev pub closed_word : Bool → List ℕ
closed_word true = codes "closed"
closed_word false = codes "open"

-- The line that reports how many messages were upgraded, or why the file is refused.
abbrev pub upgrade_text : Result Upgraded FileError → List ℕ
upgrade_text (Ok upgraded) =
    line_of (codes "upgraded" ∷ decimal upgraded.messages ∷ closed_word upgraded.closed ∷ [])
upgrade_text (Err error) = refused_line (file_fault_words error)

-- The status of an outcome: 0 if the file was upgraded, 2 if it is refused.
abbrev pub upgrade_status : Result Upgraded FileError → ℕ
upgrade_status (Ok upgraded) = 0
upgrade_status (Err error) = 2

-- The fault that the command returns for this outcome, if it is a fault of a device or of memory. Any other outcome is
-- printed.
abbrev pub fault_of : Result Upgraded FileError → Option CommandFault
fault_of (Ok upgraded) = None
fault_of (Err file.Read) = Some command.Read
fault_of (Err file.Write) = Some command.Write
fault_of (Err file.Memory) = Some command.Memory
fault_of (Err error) = None

-- The outcome is one that `upgrade` may return. `known` is the source's remaining bytes; `old` and `new` are the sink
-- of the new file before and after the call. `read_before` and `read_after` are the source's counts of failures.
pub record IsUpgradeOutcome {J : Type 0} (known : Option (List ℕ)) (read_before read_after : ℕ)
    (held : J → Option (List ℕ)) (failed : J → ℕ) (old new : J) (close : Bool)
    (outcome : Result Upgraded FileError) : Type 0 where
  -- On success the new journal is written.
  pub whole : IfOk outcome (Upgrades known (held old) (held new) close)
  -- After `Write` a prefix of the new journal is written. Any other error has its reason in the source.
  pub refused : IfErr outcome (RefusesUpgrade known (held old) (held new) close)
  -- An error other than `Write` leaves the sink unchanged.
  pub untouched : IfErr outcome (λ error. (error ≡ file.Write → ⊥) → new ≡ old)
  -- The source's count of failures agrees with the outcome.
  pub read : CountsLoad read_before read_after outcome
  -- The count of failures of the new file's sink agrees with the outcome.
  pub written : CountsSave (failed old) (failed new) outcome

-- How the command ends that prints an outcome. On success the line is written and its status returned. After `Write`
-- the sink has failed, and a prefix of the line is written. After `Memory` nothing is written.
abbrev pub PrintsOutcome : {K : Type 0} → (K → Option (List ℕ)) → (K → ℕ) → K → K → Result Upgraded FileError →
    Result ℕ CommandFault → Type 0
PrintsOutcome held failed old new outcome (Ok status) =
    (status ≡ upgrade_status outcome) × Appends (held old) (held new) (upgrade_text outcome)
    × (failed new ≡ failed old)
PrintsOutcome held failed old new outcome (Err command.Write) =
    AppendsPrefix (held old) (held new) (upgrade_text outcome) × (failed new ≡ one_more (failed old))
PrintsOutcome held failed old new outcome (Err command.Memory) = new ≡ old
PrintsOutcome held failed old new outcome (Err command.Read) = ⊥

-- How the command ends if its fault is known. A fault is returned and nothing printed. Without a fault the outcome is
-- printed.
abbrev pub EndsWith : {K : Type 0} → (K → Option (List ℕ)) → (K → ℕ) → K → K → Result Upgraded FileError →
    Option CommandFault → Result ℕ CommandFault → Type 0
EndsWith held failed old new outcome (Some fault) result = (result ≡ Err fault) × (new ≡ old)
EndsWith held failed old new outcome None result = PrintsOutcome held failed old new outcome result

-- How the command ends after `upgrade` returned this outcome.
abbrev pub PrintsUpgrade : {K : Type 0} → (K → Option (List ℕ)) → (K → ℕ) → K → K → Result Upgraded FileError →
    Result ℕ CommandFault → Type 0
PrintsUpgrade held failed old new outcome result =
    EndsWith held failed old new outcome (fault_of outcome) result
