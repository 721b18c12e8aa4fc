use Rattle.std.proofs.Common.{◌≡◌, ℕ, List, subst}
use Rattle.std.specs.Prelude.{Option, Result, Ok, Err, IfOk, IfErr, ⊤}
use Rattle.mold_check.specs.declared.entry.Entry.{Entry}
use Rattle.mold_commands.specs.Folder.{PrintsEntries, PrintsReport}
use Rattle.mold_devices.specs.declared.fault.CommandFault.{CommandFault}
use Rattle.mold_commands.proofs.folder.check_folder.Goals as goal

abbrev HasStatus : Result ℕ CommandFault → Type 0
HasStatus (Ok status) = ⊤
HasStatus (Err fault) = ⊥

-- the report was written of the entries that were read
prints_of : {V E : Type 0} (items : V → List Entry) (read : Result V E) (why : E → CommandFault) (P : Type 0)
    (old new : Option (List ℕ)) (answer : Result ℕ CommandFault)
    → IfOk read (λ v. IfOk answer (PrintsReport (items v) old new))
    → IfErr read (λ e. (answer ≡ Err (why e)) × P) → IfOk answer (PrintsEntries old new)
prints_of items (Ok v) why P old new (Ok status) told unread = record { entries = items v; printed = told }
prints_of items (Err e) why P old new (Ok status) told unread = absurd (subst HasStatus unread.0 tt)
prints_of items read why P old new (Err fault) told unread = tt

pub returns-clause-told : goal.returns-clause-told
returns-clause-told g c =
    prints_of _ _ _ _ _ _ _ c.check_read.ensures.told c.check_read.ensures.unread
