use Rattle.std.proofs.Common.{ℕ, subst, sym}
use Rattle.std.specs.Prelude.{Some}
use Rattle.mold_devices.specs.Faults.{CountsCommand}
use Rattle.mold_show.specs.Dump.{CountsEnd}
use Rattle.mold_show.specs.declared.dump_fault.DumpFault.{DumpFault}
use Rattle.mold_show.proofs.dump.end_refused.Goals as goal

pub returns-in-Empty-clause-failures : goal.returns-in-Empty-clause-failures
returns-in-Empty-clause-failures g c = λ old new counts.
    subst
    (λ (n : ℕ).
    CountsCommand old n (g.K.Sink.failed c.args.sink.now) (g.K.Sink.failed c.print_refusal.new.sink)
    c.print_refusal.result)
    (sym (subst (λ (f : DumpFault). CountsEnd old new (Some f)) c.in-Empty.is counts))
    (c.print_refusal.ensures.failures old)

pub returns-in-File-clause-failures : goal.returns-in-File-clause-failures
returns-in-File-clause-failures g c = λ old new counts.
    c.end_file.ensures.failures old new (subst (λ (f : DumpFault). CountsEnd old new (Some f)) c.in-File.is counts)
