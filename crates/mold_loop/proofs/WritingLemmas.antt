-- Lemmas about what a loop writes to its two sinks, and about the counts of their failures.
use Rattle.std.proofs.Common.{◌≡◌, ◌∙◌, ℕ, [], Result, Ok, Err, ap, inl, inr}
use Rattle.std.proofs.lemmas.Result.{on_ok_weaker}
use Rattle.std.specs.Prelude.{◌⊎◌, IfErr, IsErrAnd, OnOk}
use Rattle.mold_devices.specs.Devices.{one_more}
use Rattle.mold_devices.specs.declared.fault.CommandFault.{CommandFault}
use Rattle.mold_devices.specs.declared.fault.CommandFault.TheVariants.{Memory, Read, Write}
use Rattle.mold_loop.specs.Writing.{CountsLoop, IsPlain}
use Rattle.mold_turns.specs.Outgoing.{KeepsSide, OutgoingState}
use Rattle.mold_turns.specs.Sides.{CountsSinks}

-- ---- messages as lines

-- a step that keeps the text for standard error among lines
pub plain_kept : {old new : OutgoingState} → KeepsSide old new → IsPlain old → IsPlain new
plain_kept keeps plain = record { lines = keeps.format ∙ plain.lines; none = keeps.side plain.lines ∙ plain.none }

-- the writes after it, which leave no text for standard error
plain_after : {old mid : OutgoingState} (new : OutgoingState) → KeepsSide old mid → new.format ≡ mid.format →
    new.side ≡ [] → IsPlain old → IsPlain new
plain_after new keeps format none plain = record { lines = format ∙ keeps.format ∙ plain.lines; none = none }

pub plain_written : {T E : Type 0} (result : Result T E) {old mid : OutgoingState} (new : OutgoingState) →
    KeepsSide old mid → new.format ≡ mid.format → OnOk result (new.side ≡ []) → OnOk result (IsPlain old → IsPlain new)
plain_written result {old} {mid} new keeps format said =
    on_ok_weaker result (plain_after {old = old} {mid = mid} new keeps format) said

-- ---- faults

-- the fault is a failed write
pub write_fault : {T : Type 0} (result : Result T CommandFault) (cause : CommandFault) →
    IsErrAnd result (λ fault. fault ≡ cause) → cause ≡ Write → IfErr result (λ fault. fault ≡ Write)
write_fault (Ok _) cause is write = tt
write_fault (Err fault) cause is write = is ∙ write

-- a failed write is not a fault of memory
pub never_memory : {T : Type 0} (result : Result T CommandFault) (P : Type 0) → IfErr result (λ fault. fault ≡ Write) →
    IfErr result (λ fault. fault ≡ Memory → P)
never_memory (Ok _) P write = tt
never_memory (Err fault) P write = λ memory. let no : ⊥ = cc in absurd no

-- no device failed
pub record NoneFailed (source_old source_new sink_old sink_new errors_old errors_new : ℕ) : Type 0 where
  pub source : source_new ≡ source_old
  pub sink : sink_new ≡ sink_old
  pub errors : errors_new ≡ errors_old

-- `CountsLoop` of a success
pub none_failed : {source_old source_new sink_old sink_new errors_old errors_new : ℕ} →
    (((source_new ≡ source_old) × (sink_new ≡ sink_old)) × (errors_new ≡ errors_old))
    ⊎ (((source_new ≡ source_old) × (errors_new ≡ errors_old)) × (sink_new ≡ sink_old)) →
    NoneFailed source_old source_new sink_old sink_new errors_old errors_new
none_failed (inl counted) = record { source = counted.0.0; sink = counted.0.1; errors = counted.1 }
none_failed (inr counted) = record { source = counted.0.0; sink = counted.1; errors = counted.0.1 }

-- the source and the sinks did not fail before the result
pub counts_after : {T : Type 0} (result : Result T CommandFault)
    (source_old source_new sink_old sink_mid sink_new errors_old errors_mid errors_new : ℕ) → source_new ≡ source_old →
    sink_mid ≡ sink_old → errors_mid ≡ errors_old → CountsSinks sink_mid sink_new errors_mid errors_new result →
    CountsLoop source_old source_new sink_old sink_new errors_old errors_new result
counts_after (Ok _) source_old source_new sink_old sink_mid sink_new errors_old errors_mid errors_new source sink
    errors counted =
    inl ((source, counted.0 ∙ sink), counted.1 ∙ errors)
counts_after (Err Read) source_old source_new sink_old sink_mid sink_new errors_old errors_mid errors_new source sink
    errors counted =
    absurd counted
counts_after (Err Write) source_old source_new sink_old sink_mid sink_new errors_old errors_mid errors_new source sink
    errors (inl counted) =
    inl ((inl source, counted.0 ∙ ap one_more sink), counted.1 ∙ errors)
counts_after (Err Write) source_old source_new sink_old sink_mid sink_new errors_old errors_mid errors_new source sink
    errors (inr counted) =
    inr ((inl source, counted.1 ∙ ap one_more errors), counted.0 ∙ sink)
counts_after (Err Memory) source_old source_new sink_old sink_mid sink_new errors_old errors_mid errors_new source sink
    errors counted =
    inl ((source, counted.0 ∙ sink), counted.1 ∙ errors)
