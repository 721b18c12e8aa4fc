-- Which count of failures rises if a loop reads no source.
use Rattle.std.proofs.Common.{◌≡◌, ℕ, Result, Ok, Err, ap, inl, inr, subst, sym, ◌∙◌}
use Rattle.std.specs.Prelude.{IsErrAnd}
use Rattle.mold_devices.specs.Devices.{one_more}
use Rattle.mold_devices.specs.Faults.{CountsCommand, CountsSink, CountsSinkFault}
use Rattle.mold_turns.specs.Sides.{CountsSinks, CountsSinksFault}
use Rattle.mold_devices.specs.declared.fault.CommandFault.{CommandFault}
use Rattle.mold_devices.specs.declared.fault.CommandFault.TheVariants.{Read, Write, Memory}

-- an allocation failed, and no write failed before
pub counts_memory : {T : Type 0} (result : Result T CommandFault) (old new : ℕ) →
    IsErrAnd result (λ fault. fault ≡ Memory) → new ≡ old → CountsSink old new result
counts_memory (Ok _) old new is same = absurd is
counts_memory (Err fault) old new is same = subst (CountsSinkFault old new) (sym is) same

-- a write failed, and none failed before
pub counts_write : {T : Type 0} (result : Result T CommandFault) (cause : CommandFault) (old mid new : ℕ) →
    IsErrAnd result (λ fault. fault ≡ cause) → cause ≡ Write → new ≡ one_more mid → mid ≡ old →
    CountsSink old new result
counts_write (Ok _) cause old mid new is write counted same = absurd is
counts_write (Err fault) cause old mid new is write counted same =
    subst (CountsSinkFault old new) (sym (is ∙ write)) (counted ∙ ap one_more same)

-- the fault is the one that another call returned
pub counts_same : {T : Type 0} (result : Result T CommandFault) (cause : CommandFault) (old new : ℕ) →
    IsErrAnd result (λ fault. fault ≡ cause) → CountsSinkFault old new cause → CountsSink old new result
counts_same (Ok _) cause old new is counted = absurd is
counts_same (Err fault) cause old new is counted = subst (CountsSinkFault old new) (sym is) counted

-- the source did not fail, and then the sink failed or did not
pub counts_behind : {T : Type 0} (result : Result T CommandFault) (source_old source_new old mid new : ℕ) →
    source_new ≡ source_old → mid ≡ old → CountsSink mid new result →
    CountsCommand source_old source_new old new result
counts_behind (Ok _) source_old source_new old mid new source same counted = (source, counted ∙ same)
counts_behind (Err Read) source_old source_new old mid new source same counted = absurd counted
counts_behind (Err Write) source_old source_new old mid new source same counted =
    (inl source, counted ∙ ap one_more same)
counts_behind (Err Memory) source_old source_new old mid new source same counted = (source, counted ∙ same)

-- ---- two sinks

-- an allocation failed, and no write failed before
pub two_memory : {T : Type 0} (result : Result T CommandFault) (sink_old sink_new errors_old errors_new : ℕ) →
    IsErrAnd result (λ fault. fault ≡ Memory) → sink_new ≡ sink_old → errors_new ≡ errors_old →
    CountsSinks sink_old sink_new errors_old errors_new result
two_memory (Ok _) sink_old sink_new errors_old errors_new is same none = absurd is
two_memory (Err fault) sink_old sink_new errors_old errors_new is same none =
    subst (CountsSinksFault sink_old sink_new errors_old errors_new) (sym is) (same, none)

-- a fault of the sink, while the other sink did not fail
pub two_faults : (sink_old sink_new errors_old errors_new : ℕ) (fault : CommandFault) →
    CountsSinkFault sink_old sink_new fault → errors_new ≡ errors_old →
    CountsSinksFault sink_old sink_new errors_old errors_new fault
two_faults sink_old sink_new errors_old errors_new Read counted none = counted
two_faults sink_old sink_new errors_old errors_new Write counted none = inl (counted, none)
two_faults sink_old sink_new errors_old errors_new Memory counted none = (counted, none)

-- the same, where the counts before are those of an earlier call
pub two_faults_after : (sink_old sink_mid sink_new errors_old errors_new : ℕ) (fault : CommandFault) →
    sink_mid ≡ sink_old → CountsSinkFault sink_mid sink_new fault → errors_new ≡ errors_old →
    CountsSinksFault sink_old sink_new errors_old errors_new fault
two_faults_after sink_old sink_mid sink_new errors_old errors_new fault same counted none =
    two_faults sink_old sink_new errors_old errors_new fault
    (subst (λ (n : ℕ). CountsSinkFault n sink_new fault) same counted) none

-- a write to the first sink failed, and none failed before
pub two_write : {T : Type 0} (result : Result T CommandFault) (cause : CommandFault)
    (sink_old sink_mid sink_new errors_old errors_new : ℕ) → IsErrAnd result (λ fault. fault ≡ cause) →
    cause ≡ Write → sink_new ≡ one_more sink_mid → sink_mid ≡ sink_old → errors_new ≡ errors_old →
    CountsSinks sink_old sink_new errors_old errors_new result
two_write (Ok _) cause sink_old sink_mid sink_new errors_old errors_new is write counted same none = absurd is
two_write (Err fault) cause sink_old sink_mid sink_new errors_old errors_new is write counted same none =
    subst (CountsSinksFault sink_old sink_new errors_old errors_new) (sym (is ∙ write))
    (inl (counted ∙ ap one_more same, none))

-- a write to the second sink failed, and none failed before
pub two_said : {T : Type 0} (result : Result T CommandFault) (cause : CommandFault)
    (sink_old sink_new errors_old errors_mid errors_new : ℕ) → IsErrAnd result (λ fault. fault ≡ cause) →
    cause ≡ Write → errors_new ≡ one_more errors_mid → errors_mid ≡ errors_old → sink_new ≡ sink_old →
    CountsSinks sink_old sink_new errors_old errors_new result
two_said (Ok _) cause sink_old sink_new errors_old errors_mid errors_new is write counted same none = absurd is
two_said (Err fault) cause sink_old sink_new errors_old errors_mid errors_new is write counted same none =
    subst (CountsSinksFault sink_old sink_new errors_old errors_new) (sym (is ∙ write))
    (inr (none, counted ∙ ap one_more same))

-- the fault is the one that another call returned
pub two_same : {T : Type 0} (result : Result T CommandFault) (cause : CommandFault)
    (sink_old sink_mid sink_new errors_old errors_mid errors_new : ℕ) → IsErrAnd result (λ fault. fault ≡ cause) →
    sink_mid ≡ sink_old → errors_mid ≡ errors_old →
    CountsSinksFault sink_mid sink_new errors_mid errors_new cause →
    CountsSinks sink_old sink_new errors_old errors_new result
two_same (Ok _) cause sink_old sink_mid sink_new errors_old errors_mid errors_new is same none counted = absurd is
two_same (Err fault) cause sink_old sink_mid sink_new errors_old errors_mid errors_new is same none counted =
    subst (CountsSinksFault sink_old sink_new errors_old errors_new) (sym is)
    (subst (λ (n : ℕ). CountsSinksFault sink_old sink_new n errors_new cause) none
    (subst (λ (n : ℕ). CountsSinksFault n sink_new errors_mid errors_new cause) same counted))
