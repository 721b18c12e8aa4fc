-- What follows from the way in which a command ends with a fault.
use Rattle.std.proofs.Common.{◌≡◌, ◌⊎◌, ◌∙◌, ℕ, List, [], Option, Result, Ok, Err, append-nil, inl, inr, subst, sym}
use Rattle.std.specs.Prelude.{IfErr, IsErrAnd}
use Rattle.std.specs.Io.KnownBytes.{Appends}
use Rattle.mold_devices.specs.Devices.{AppendsPrefix, one_more}
use Rattle.mold_devices.specs.Faults.{CountsFault, CountsSinkFault}
use Rattle.mold_devices.specs.Writing.{EndsWith}
use Rattle.mold_devices.specs.declared.fault.CommandFault.{CommandFault}
use Rattle.mold_devices.specs.declared.fault.CommandFault.TheVariants.{Memory, Read, Write}

all_written : (old new : Option (List ℕ)) (text : List ℕ) → Appends old new text → AppendsPrefix old new text
all_written old new text appended =
    record { front = text; rest = []; parts = sym (append-nil text); appended = appended }

pub ends_front : {met last : CommandFault} {old new : Option (List ℕ)} {text : List ℕ} {failed_old failed_new : ℕ} →
    EndsWith met last old new text failed_old failed_new → AppendsPrefix old new text
ends_front (inl whole) = all_written _ _ _ whole.1.0
ends_front (inr cut) = cut.1.0

-- a fault of memory is returned only if the text was written
pub ends_whole : {met last : CommandFault} {old new : Option (List ℕ)} {text : List ℕ} {failed_old failed_new : ℕ} →
    EndsWith met last old new text failed_old failed_new → last ≡ Memory → Appends old new text
ends_whole (inl whole) is = whole.1.0
ends_whole (inr cut) is = let no : ⊥ = cc in absurd no

-- a fault of the sink is not one of memory
pub not_memory : {T : Type 0} (result : Result T CommandFault) (cause : CommandFault) (P : Type 0) →
    IsErrAnd result (λ fault. fault ≡ cause) → cause ≡ Write → IfErr result (λ fault. fault ≡ Memory → P)
not_memory (Ok _) cause P is write = tt
not_memory (Err fault) cause P is write = λ memory. let no : ⊥ = cc in absurd no

pub ends_sink : {last : CommandFault} {old new : Option (List ℕ)} {text : List ℕ} {failed_old failed_new : ℕ} →
    EndsWith Memory last old new text failed_old failed_new → CountsSinkFault failed_old failed_new last
ends_sink {last} {old} {new} {text} {failed_old} {failed_new} (inl whole) =
    subst (CountsSinkFault failed_old failed_new) (sym whole.0) whole.1.1
ends_sink {last} {old} {new} {text} {failed_old} {failed_new} (inr cut) =
    subst (CountsSinkFault failed_old failed_new) (sym cut.0) cut.1.1

-- the source's count of failures rose by one or stayed
source_counts : (met : CommandFault) (source_old source_new sink_old sink_new : ℕ) →
    CountsFault source_old source_new sink_old sink_new met →
    (source_new ≡ source_old) ⊎ (source_new ≡ one_more source_old)
source_counts Read source_old source_new sink_old sink_new counts = inr counts.0
source_counts Write source_old source_new sink_old sink_new counts = counts.0
source_counts Memory source_old source_new sink_old sink_new counts = inl counts.0

pub ends_command : {met last : CommandFault} {old new : Option (List ℕ)} {text : List ℕ} {failed_old failed_new : ℕ}
    (source_old source_new : ℕ) → CountsFault source_old source_new failed_old failed_old met →
    EndsWith met last old new text failed_old failed_new →
    CountsFault source_old source_new failed_old failed_new last
ends_command {met} {last} {old} {new} {text} {failed_old} {failed_new} source_old source_new counts (inl whole) =
    subst (CountsFault source_old source_new failed_old failed_new) (sym whole.0)
    (subst (λ (n : ℕ). CountsFault source_old source_new failed_old n met) (sym whole.1.1) counts)
ends_command {met} {last} {old} {new} {text} {failed_old} {failed_new} source_old source_new counts (inr cut) =
    subst (CountsFault source_old source_new failed_old failed_new) (sym cut.0)
    (source_counts met source_old source_new failed_old failed_old counts, cut.1.1)
