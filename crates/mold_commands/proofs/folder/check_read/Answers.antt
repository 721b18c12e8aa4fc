use Rattle.std.proofs.Common.{◌≡◌, ℕ, List, sym, subst}
use Rattle.std.specs.Prelude.{Option, Result, Ok, Err, IfOk}
use Rattle.std.specs.Io.KnownBytes.{Appends}
use Rattle.mold_check.specs.Report.{Checked, outcome_status, report}
use Rattle.mold_check.specs.declared.entry.Entry.{Entry}
use Rattle.mold_commands.specs.Folder.{PrintsReport}
use Rattle.mold_devices.specs.declared.fault.CommandFault.{CommandFault}
use Rattle.mold_commands.proofs.folder.check_read.Goals as goal

-- the report of these entries was written
told_of : (entries : List Entry) (old new : Option (List ℕ)) (answer : Result ℕ CommandFault)
    → IfOk answer (λ status. (checked : Checked entries)
    × (Appends old new (report checked) × (status ≡ outcome_status checked.outcome)))
    → IfOk answer (PrintsReport entries old new)
told_of entries old new (Ok status) whole = record {
  checked = whole.0;
  written = whole.1.0;
  answered = whole.1.1;
}
told_of entries old new (Err fault) whole = tt

-- the entries of the report are those that were read
told_at : {V E : Type 0} (items : V → List Entry) (read : Result V E) (v : V) (list : List Entry)
    (old new : Option (List ℕ)) (answer : Result ℕ CommandFault) → read ≡ Ok v → list ≡ items v
    → IfOk answer (PrintsReport list old new)
    → IfOk read (λ w. IfOk answer (PrintsReport (items w) old new))
told_at {V} {E} items read v list old new answer is same told =
    subst (λ (r : Result V E). IfOk r (λ w. IfOk answer (PrintsReport (items w) old new))) (sym is)
    (subst (λ (l : List Entry). IfOk answer (PrintsReport l old new)) same told)

pub returns-in-Ok-clause-told : goal.returns-in-Ok-clause-told
returns-in-Ok-clause-told g c =
    told_at (λ v. v.items) c.args.read c.in-Ok.entries c.as_slice.result.now (g.K.Sink.held c.args.sink.now)
    (g.K.Sink.held c.check_entries.new.sink) c.check_entries.result c.in-Ok.is c.as_slice.ensures.value
    (told_of _ _ _ _ c.check_entries.ensures.whole)
