-- The judge of the datagrams of a folder, one datagram at a time.
use Rattle.std.proofs.Common.{◌≡◌, ◌∙◌, ℕ, ◌+◌, ◌<◌, ◌≤◌, List, Bor, drop, get_or, length, subst, sym}
use Rattle.std.proofs.lemmas.List.{at_drop_all, at_drop_more}
use Rattle.std.specs.Prelude.{Option, Result, Ok, Err, IfOk}
use Rattle.std.specs.Io.KnownBytes.{Appends}
use Rattle.mold_devices.specs.Devices.{one_more}
use Rattle.mold_devices.specs.declared.fault.CommandFault.{CommandFault}
use Rattle.mold_check.specs.EachCheck.{all_judged, with_numbers}
use Rattle.mold_check.specs.Entries.{bytes_of}
use Rattle.mold_check.specs.EntryCheck.{lent_bytes}
use Rattle.mold_check.specs.Judge.{Judging}
use Rattle.mold_check.specs.declared.entry.Entry.{Entry}

-- The judge after the datagrams from this index on, of which the first has this number.
abbrev pub judged_from : {S : Type 0} → Judging S → S → ℕ → List (Bor Entry) → S
judged_from judging s number order = all_judged judging s (with_numbers number (lent_bytes order))

pub judged_more : {S : Type 0} (judging : Judging S) (s : S) (number : ℕ) (order : List (Bor Entry)) (i : ℕ)
    (e : Bor Entry) (all : S) → i < length order → judged_from judging s number (drop i order) ≡ all →
    judged_from judging (judging.added s number (bytes_of (get_or order i e).now)) (one_more number) (drop (i + 1) order) ≡ all
unfolding all_judged with_numbers
judged_more judging s number order i e all within is =
    sym (at_drop_more (judged_from judging s number) order i e within) ∙ is

pub judged_all : {S : Type 0} (judging : Judging S) (s : S) (number : ℕ) (order : List (Bor Entry)) (i : ℕ) (all : S) →
    length order ≤ i → judged_from judging s number (drop i order) ≡ all → s ≡ all
unfolding all_judged with_numbers
judged_all judging s number order i all past is = sym (at_drop_all (judged_from judging s number) order i past) ∙ is

-- The same text and status, in other terms.
pub told_entries : (old new : Option (List ℕ)) (r : Result ℕ CommandFault) (text all : List ℕ) (status so : ℕ) →
    text ≡ all → status ≡ so → IfOk r (λ s. Appends old new text × (s ≡ status)) →
    IfOk r (λ s. Appends old new all × (s ≡ so))
told_entries old new (Ok s) text all status so is ends told = (subst (Appends old new) is told.0, told.1 ∙ ends)
told_entries old new (Err e) text all status so is ends told = tt
