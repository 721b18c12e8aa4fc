-- How a loop ends whose journal has an error.
use Rattle.std.proofs.Common.{◌≡◌, ℕ, arith, List, Option, Some, None, Result, Ok, Err, ◌++◌, append_assoc, ap, inl, inr, refl, subst, sym, ◌∙◌}
use Rattle.std.specs.Prelude.{IfErr, IsErrAnd}
use Rattle.std.specs.Io.KnownBytes.{Appends}
use Rattle.std.proofs.KnownBytes.{Appends-trans}
use Rattle.mold_devices.specs.Devices.{AppendsPrefix}
use Rattle.mold_devices.specs.Faults.{CountsCommand, CountsFault, CountsSink}
use Rattle.mold_devices.specs.Writing.{EndsWith}
use Rattle.mold_devices.proofs.WritingLemmas.{ends_command, ends_front}
use Rattle.mold_devices.specs.declared.fault.CommandFault.{CommandFault}
use Rattle.mold_devices.specs.declared.fault.CommandFault.TheVariants as command
use Rattle.mold_refusals.specs.Words.{file_fault_words}
use Rattle.mold_serve.specs.FileError.{EndsRefused, IsReadOrMemory, device_fault}
use Rattle.mold_serve.specs.Tally.{EndsServed, served_line}
use Rattle.mold_serve.specs.declared.tally.Tally.{Tally}
use Rattle.mold_session.specs.Loading.{CountsLoadFault}
use Rattle.mold_session.specs.declared.error.FileError.{FileError}
use Rattle.mold_session.specs.declared.error.FileError.TheVariants.{Memory, Read}
use Rattle.mold_text.specs.Text.{refused_line}

-- a failed read or allocation is a fault
pub not_refused : (error : FileError) → IsReadOrMemory error → device_fault error ≡ None → ⊥
not_refused error (inl read) is = let no : Some command.Read ≡ None = sym (ap device_fault read) ∙ is in cc
not_refused error (inr memory) is = let no : Some command.Memory ≡ None = sym (ap device_fault memory) ∙ is in cc

module _ (error : FileError) (cause : CommandFault) (old new : Option (List ℕ)) (text : List ℕ)
    (sink_old sink_new : ℕ) (ends : (met : CommandFault) → device_fault error ≡ Some met →
    EndsWith met cause old new text sink_old sink_new) where
  -- a prefix of the earlier text was written
  pub refused_front : IsReadOrMemory error → AppendsPrefix old new text
  refused_front (inl read) = ends_front (ends command.Read (ap device_fault read))
  refused_front (inr memory) = ends_front (ends command.Memory (ap device_fault memory))

  -- how the journal's and the sink's failures are counted
  pub refused_counts : {T : Type 0} (result : Result T CommandFault) (source_old source_new : ℕ) →
      IsErrAnd result (λ fault. fault ≡ cause) → IsReadOrMemory error →
      CountsLoadFault source_old source_new error →
      CountsCommand source_old source_new sink_old sink_new result
  refused_counts (Ok _) source_old source_new is why counts = absurd is
  refused_counts (Err fault) source_old source_new is (inl read) counts =
      subst (CountsFault source_old source_new sink_old sink_new) (sym is)
      (ends_command source_old source_new (subst (CountsLoadFault source_old source_new) read counts, refl)
      (ends command.Read (ap device_fault read)))
  refused_counts (Err fault) source_old source_new is (inr memory) counts =
      subst (CountsFault source_old source_new sink_old sink_new) (sym is)
      (ends_command source_old source_new (subst (CountsLoadFault source_old source_new) memory counts, refl)
      (ends command.Memory (ap device_fault memory)))

-- the earlier text was written if memory ran out
pub kept_refused : {T : Type 0} (result : Result T CommandFault) (cause : CommandFault) (P Q : Type 0) →
    IsErrAnd result (λ fault. fault ≡ cause) → (P → Q) → (cause ≡ command.Memory → P) →
    IfErr result (λ fault. fault ≡ command.Memory → Q)
kept_refused (Ok _) cause P Q is written kept = tt
kept_refused (Err fault) cause P Q is written kept = λ memory. written (kept (sym is ∙ memory))

-- the fault is the one that another call returned, and no device failed before
pub counts_after : {T : Type 0} (result : Result T CommandFault) (cause : CommandFault)
    (source_old source_mid source_new sink_old sink_mid sink_new : ℕ) → IsErrAnd result (λ fault. fault ≡ cause) →
    source_mid ≡ source_old → sink_mid ≡ sink_old → CountsFault source_mid source_new sink_mid sink_new cause →
    CountsCommand source_old source_new sink_old sink_new result
counts_after (Ok _) cause source_old source_mid source_new sink_old sink_mid sink_new is source sink counts = absurd is
counts_after (Err fault) cause source_old source_mid source_new sink_old sink_mid sink_new is source sink counts =
    subst (CountsFault source_old source_new sink_old sink_new) (sym is)
    (subst (λ (n : ℕ). CountsFault n source_new sink_old sink_new cause) source
    (subst (λ (n : ℕ). CountsFault source_mid source_new n sink_new cause) sink counts))

-- memory ran out, and no device failed before
pub counts_ended : {last : CommandFault} {old new : Option (List ℕ)} {text : List ℕ}
    (source_old source_new sink_old sink_mid sink_new : ℕ) → source_new ≡ source_old → sink_mid ≡ sink_old →
    EndsWith command.Memory last old new text sink_mid sink_new →
    CountsFault source_old source_new sink_old sink_new last
counts_ended {last} {old} {new} {text} source_old source_new sink_old sink_mid sink_new source sink ends =
    ends_command source_old source_new (source, refl)
    (subst (λ (n : ℕ). EndsWith command.Memory last old new text n sink_new) sink ends)

-- a source that never fails gives the command no fault
pub never_failed : (result : Result ℕ CommandFault) (old new : ℕ) → CountsCommand 0 0 old new result →
    CountsSink old new result
never_failed (Ok _) old new counts = counts.1
never_failed (Err command.Read) old new counts = absurd (omega (arith, counts.0))
never_failed (Err command.Write) old new counts = counts.1
never_failed (Err command.Memory) old new counts = counts.1

-- ---- what was written

-- the text that earlier turns wrote precedes that of a later one
pub refused_later : {old mid new : Option (List ℕ)} (text : List ℕ) → Appends old mid text → EndsRefused mid new →
    EndsRefused old new
refused_later {old} {mid} {new} text written ends = record {
  text = text ++ ends.text;
  error = ends.error;
  bytes = ends.bytes;
  appended =
      subst (Appends old new) (sym (append_assoc text ends.text (refused_line (file_fault_words ends.error))))
      (Appends-trans old mid new text _ written ends.appended);
}

pub served_later : (old mid new : Option (List ℕ)) (text before last : List ℕ) (tally : Tally) →
    Appends old mid text → last ≡ before ++ served_line tally → Appends mid new last → EndsServed old new
served_later old mid new text before last tally written is appended = record {
  text = text ++ before;
  tally = tally;
  appended =
      subst (Appends old new) (sym (append_assoc text before (served_line tally)))
      (Appends-trans old mid new text _ written (subst (Appends mid new) is appended));
}
