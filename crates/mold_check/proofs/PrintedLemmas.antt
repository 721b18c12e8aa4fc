-- What was written of a text whose last line was just appended.
use Rattle.std.proofs.Common.{◌≡◌, ℕ, List, [], ◌++◌, Option, length, take, refl, sym, subst, append-nil}
use Rattle.std.specs.Prelude.{Ok, Err}
use Rattle.std.specs.Io.KnownBytes.{Appends}
use Rattle.mold_devices.specs.Devices.{AppendsPrefix, one_more}
use Rattle.mold_devices.specs.Faults.{CountsSinkFault}
use Rattle.mold_devices.specs.Writing.{EndsWith}
use Rattle.mold_devices.specs.declared.fault.CommandFault.{CommandFault}
use Rattle.mold_devices.specs.declared.fault.CommandFault.TheVariants.{Memory, Write}
use Rattle.mold_devices.proofs.WritingLemmas.{ends_front, ends_sink, ends_whole}
use Rattle.mold_check.specs.Report.{Printed}
use Rattle.mold_check.proofs.ReportLemmas.{front_former, keeps_former}

front_all : (old new : Option (List ℕ)) (text : List ℕ) → Appends old new text → AppendsPrefix old new text
front_all old new text sent = record { front = text; rest = []; parts = sym (append-nil text); appended = sent }

-- All of the text was written.
pub printed_all : (old new : Option (List ℕ)) (failed_old failed_new : ℕ) (before line text left : List ℕ) (status : ℕ) →
    text ≡ before ++ line → Appends old new text → left ≡ [] → failed_new ≡ failed_old →
    Printed old new failed_old failed_new before line status left (Ok status)
printed_all old new failed_old failed_new before line text left status is sent none count =
    let all = subst (Appends old new) is sent in
    record { whole = (all, refl); empty = none; front = front_all old new (before ++ line) all; kept = tt; failures = count }

-- A write failed.
pub printed_part : (old new : Option (List ℕ)) (failed_old failed_new : ℕ) (before line text left : List ℕ) (status : ℕ)
    (why : CommandFault) → text ≡ before ++ line → AppendsPrefix old new text → why ≡ Write →
    failed_new ≡ one_more failed_old →
    Printed old new failed_old failed_new before line status left (Err why)
printed_part old new failed_old failed_new before line text left status why is front write count = record {
  whole = tt;
  empty = tt;
  front = subst (AppendsPrefix old new) is front;
  kept = λ memory. let no : ⊥ = cc in absurd no;
  failures = subst (CountsSinkFault failed_old failed_new) (sym write) count;
}

-- The last line could not be appended.
pub printed_former : (old new : Option (List ℕ)) (failed_old failed_new : ℕ) (before line text left : List ℕ)
    (status len : ℕ) (why : CommandFault) → len ≡ length before → take (length before) text ≡ before →
    EndsWith Memory why old new (take len text) failed_old failed_new →
    Printed old new failed_old failed_new before line status left (Err why)
printed_former old new failed_old failed_new before line text left status len why is same ends = record {
  whole = tt;
  empty = tt;
  front = front_former old new before line text len is same (ends_front ends);
  kept = λ memory. keeps_former old new before text len is same (ends_whole ends memory);
  failures = ends_sink ends;
}
