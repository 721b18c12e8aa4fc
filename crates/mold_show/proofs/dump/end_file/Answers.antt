use Rattle.std.proofs.Common.{◌≡◌, ◌++◌, ℕ, List, refl, subst, sym}
use Rattle.std.specs.Prelude.{IfOk, OnOk, Result, Ok, Err}
use Rattle.std.specs.Io.KnownBytes.{Appends}
use Rattle.mold_devices.specs.Devices.{AppendsPrefix}
use Rattle.mold_devices.specs.Faults.{CountsCommand}
use Rattle.mold_devices.specs.declared.fault.CommandFault.{CommandFault}
use Rattle.mold_session.specs.Loading.{CountsLoadFault}
use Rattle.mold_show.proofs.EndLemmas.{other_refusal}
use Rattle.mold_show.proofs.dump.end_file.Goals as goal

pub returns-in-Memory-clause-failures : goal.returns-in-Memory-clause-failures
returns-in-Memory-clause-failures g c = λ old new counts.
    c.end_with-in-Memory.ensures.failures old new (subst (CountsLoadFault old new) c.in-Memory.is counts, refl)

whatever : (result : Result ℕ CommandFault) (Told : Type 0) → Told → OnOk result Told
whatever (Ok status) Told told = told
whatever (Err fault) Told told = tt

pub returns-in_default : goal.returns-in_default
returns-in_default g c =
    let is = other_refusal c.args.error c.in_default.not-Read c.in_default.not-Memory in
    let old = g.K.Sink.held c.args.sink.now in
    let new = g.K.Sink.held c.print_refusal.new.sink in
    record {
      whole = subst
          (λ (line : List ℕ).
          IfOk c.print_refusal.result (λ status. Appends old new (c.args.text.now.items ++ line) × (status ≡ 2)))
          (sym is.line) c.print_refusal.ensures.whole;
      told = whatever c.print_refusal.result _ is.told;
      front = subst (λ (line : List ℕ). AppendsPrefix old new (c.args.text.now.items ++ line)) (sym is.line)
          c.print_refusal.ensures.front;
      kept = c.print_refusal.ensures.kept;
      failures = λ before after counts.
          subst
          (λ (n : ℕ).
          CountsCommand before n (g.K.Sink.failed c.args.sink.now) (g.K.Sink.failed c.print_refusal.new.sink)
          c.print_refusal.result)
          (sym (is.counts before after counts)) (c.print_refusal.ensures.failures before);
    }
