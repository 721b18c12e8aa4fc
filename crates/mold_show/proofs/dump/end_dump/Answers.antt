use Rattle.std.proofs.Common.{◌≡◌, ◌⊎◌, ◌++◌, ◌∙◌, ℕ, List, Option, ap, append-nil, inl, inr, refl, subst, sym}
use Rattle.std.specs.Prelude.{IfOk}
use Rattle.std.specs.Io.KnownBytes.{Appends}
use Rattle.mold_devices.specs.Devices.{AppendsPrefix}
use Rattle.mold_input.specs.declared.message_format.MessageFormat.{MessageFormat}
use Rattle.mold_input.specs.declared.message_format.MessageFormat.TheVariants.{Blocks, BlocksToEmpty}
use Rattle.mold_show.specs.Dump.{CountsDump, ended_text, fault_status}
use Rattle.mold_show.specs.declared.dump_fault.DumpFault.{DumpFault}
use Rattle.mold_show.proofs.EndLemmas.{counts_output}
use Rattle.mold_show.proofs.dump.end_dump.Goals as goal

pub returns-in-Lines-clause-failures : goal.returns-in-Lines-clause-failures
returns-in-Lines-clause-failures g c = λ old new counts.
    counts_output c.args.format (old, new) (g.K.Sink.failed c.args.sink.now, g.K.Sink.failed c.end_lines.new.sink)
    (g.E.Sink.failed c.args.errors.now, g.E.Sink.failed c.args.errors.now) c.end_lines.result
    (c.end_lines.ensures.failures old new counts) refl

-- Nothing follows blocks.
no_more : (text : List ℕ) (ended : Option DumpFault) (format : MessageFormat) →
    (format ≡ Blocks) ⊎ (format ≡ BlocksToEmpty) → text ++ ended_text format ended ≡ text
no_more text ended format (inl is) =
    ap (λ (f : MessageFormat). text ++ ended_text f ended) is ∙ append-nil text
no_more text ended format (inr is) =
    ap (λ (f : MessageFormat). text ++ ended_text f ended) is ∙ append-nil text

pub returns-in-Blocks-clause-whole : goal.returns-in-Blocks-clause-whole
returns-in-Blocks-clause-whole g c =
    subst
    (λ (t : List ℕ).
    IfOk c.end_blocks.result (λ status. Appends (g.K.Sink.held c.args.sink.now) (g.K.Sink.held c.end_blocks.new.sink) t
    × (status ≡ fault_status c.args.ended)))
    (sym (no_more c.args.text.now.items c.args.ended c.args.format (inl c.in-Blocks.is))) c.end_blocks.ensures.whole

pub returns-in-Blocks-clause-front : goal.returns-in-Blocks-clause-front
returns-in-Blocks-clause-front g c =
    subst (AppendsPrefix (g.K.Sink.held c.args.sink.now) (g.K.Sink.held c.end_blocks.new.sink))
    (sym (no_more c.args.text.now.items c.args.ended c.args.format (inl c.in-Blocks.is))) c.end_blocks.ensures.front

pub returns-in-Blocks-clause-failures : goal.returns-in-Blocks-clause-failures
returns-in-Blocks-clause-failures g c = λ old new counts.
    subst
    (λ (f : MessageFormat).
    CountsDump f (old, new) (g.K.Sink.failed c.args.sink.now, g.K.Sink.failed c.end_blocks.new.sink)
    (g.E.Sink.failed c.args.errors.now, g.E.Sink.failed c.end_blocks.new.errors) c.end_blocks.result)
    (sym c.in-Blocks.is) (c.end_blocks.ensures.failures old new counts)

pub returns-in-BlocksToEmpty-clause-whole : goal.returns-in-BlocksToEmpty-clause-whole
returns-in-BlocksToEmpty-clause-whole g c =
    subst
    (λ (t : List ℕ).
    IfOk c.end_blocks-in-BlocksToEmpty.result (λ status. Appends (g.K.Sink.held c.args.sink.now) (g.K.Sink.held c.end_blocks-in-BlocksToEmpty.new.sink) t
    × (status ≡ fault_status c.args.ended)))
    (sym (no_more c.args.text.now.items c.args.ended c.args.format (inr c.in-BlocksToEmpty.is))) c.end_blocks-in-BlocksToEmpty.ensures.whole

pub returns-in-BlocksToEmpty-clause-front : goal.returns-in-BlocksToEmpty-clause-front
returns-in-BlocksToEmpty-clause-front g c =
    subst (AppendsPrefix (g.K.Sink.held c.args.sink.now) (g.K.Sink.held c.end_blocks-in-BlocksToEmpty.new.sink))
    (sym (no_more c.args.text.now.items c.args.ended c.args.format (inr c.in-BlocksToEmpty.is))) c.end_blocks-in-BlocksToEmpty.ensures.front

pub returns-in-BlocksToEmpty-clause-failures : goal.returns-in-BlocksToEmpty-clause-failures
returns-in-BlocksToEmpty-clause-failures g c = λ old new counts.
    subst
    (λ (f : MessageFormat).
    CountsDump f (old, new) (g.K.Sink.failed c.args.sink.now, g.K.Sink.failed c.end_blocks-in-BlocksToEmpty.new.sink)
    (g.E.Sink.failed c.args.errors.now, g.E.Sink.failed c.end_blocks-in-BlocksToEmpty.new.errors) c.end_blocks-in-BlocksToEmpty.result)
    (sym c.in-BlocksToEmpty.is) (c.end_blocks-in-BlocksToEmpty.ensures.failures old new counts)
