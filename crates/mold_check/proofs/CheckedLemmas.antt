-- A check of entries: its outcome and its report.
use Rattle.std.proofs.Common.{◌≡◌, ℕ, ◌-◌, ◌<◌, List, [], ◌∷◌, ◌++◌, length, get_or, map, Bor, zero, suc, refl, sym, ap, subst, ◌∙◌, arith}
use Rattle.std.specs.Prelude.{Option, Result, Ok, Err, IfOk}
use Rattle.std.specs.Io.KnownBytes.{Appends}
use Rattle.mold_devices.specs.Devices.{AppendsPrefix}
use Rattle.mold_devices.specs.declared.fault.CommandFault.{CommandFault}
use Rattle.mold_capture.specs.Check.{IsRefusedAt}
use Rattle.mold_capture.specs.Outcome.{Outcome, refused, IsOutcome, outcome_in}
use Rattle.mold_capture.specs.Verdict.{IsVerdictOn}
use Rattle.mold_rule.specs.declared.refusal.Refusal.{Refusal}
use Rattle.mold_rule.specs.declared.refusal.Refusal.TheVariants.{Malformed, WrongSession, SequenceZero, PastLast}
use Rattle.mold_rule.specs.declared.refusal.Refusal.TheVariants.{EndConflict, EndBelow, PastEnd, Conflict, Memory}
use Rattle.mold_capture.specs.declared.verdict.Verdict.{Verdict}
use Rattle.mold_capture.specs.declared.verdict.Verdict.TheVariants.{Whole as IsWhole, Incomplete}
use Rattle.mold_check.specs.Entries.{IsOrder, NamesDiffer, bytes_of, name_of}
use Rattle.mold_check.specs.Report.{Checked, counts_line, outcome_status, outcome_text, report}
use Rattle.mold_check.specs.declared.entry.Entry.{Entry}
use Rattle.mold_check.proofs.OrderLemmas.{lent, one_order}

-- A verdict reports an outcome.
pub verdict_outcome : (list : List (List ℕ)) (v : Verdict) → IsVerdictOn v list → IsOutcome list (outcome_in v)
verdict_outcome list (IsWhole messages) is = is
verdict_outcome list (Incomplete missing end) is = is

-- The text of a verdict has no name of an entry.
pub verdict_text : (names : List (List ℕ)) (v : Verdict) → outcome_text [] (outcome_in v) ≡ outcome_text names (outcome_in v)
verdict_text names (IsWhole messages) = refl
verdict_text names (Incomplete missing end) = refl

-- A refusal reports an outcome, unless an allocation failed.
pub refused_outcome : (list : List (List ℕ)) (index : ℕ) (why : Refusal) → (why ≡ Memory → ⊥) → IsRefusedAt index why list →
    IsOutcome list (refused index why)
refused_outcome list index (Malformed error) other is = is
refused_outcome list index WrongSession other is = is
refused_outcome list index SequenceZero other is = is
refused_outcome list index PastLast other is = is
refused_outcome list index (EndConflict end) other is = is
refused_outcome list index (EndBelow known) other is = is
refused_outcome list index (PastEnd end) other is = is
refused_outcome list index (Conflict number) other is = is
refused_outcome list index Memory other is = absurd (other refl)

abbrev pub OneOutcome : Type 0
OneOutcome = (list : List (List ℕ)) (one other : Outcome) → IsOutcome list one → IsOutcome list other → one ≡ other

-- What is printed for an order and an outcome.
abbrev pub report_of : List Entry → List Entry → Outcome → List ℕ
report_of entries order outcome =
    counts_line (length order) (length entries - length order) ++ outcome_text (map name_of order) outcome

-- If the names differ, there is only one report.
pub one_report : OneOutcome → (entries : List Entry) → NamesDiffer entries → (a b : Checked entries) → report a ≡ report b
one_report one entries differ a b =
    let orders : a.order ≡ b.order = one_order entries a.order b.order differ a.ordered b.ordered in
    let outcomes : a.outcome ≡ b.outcome = one (map bytes_of b.order) a.outcome b.outcome
    (subst (λ (l : List Entry). IsOutcome (map bytes_of l) a.outcome) orders a.told) b.told
    in
    (λ i. report_of entries (orders i) (outcomes i))

-- The check of the entries, from its parts.
abbrev pub checked_of : (entries order : List Entry) (list : List (List ℕ)) (outcome : Outcome) → IsOrder entries order →
    list ≡ map bytes_of order → IsOutcome list outcome → Checked entries
checked_of entries order list outcome ordered is told = record {
  order = order;
  ordered = ordered;
  outcome = outcome;
  told = subst (λ (l : List (List ℕ)). IsOutcome l outcome) is told;
}

pub bytes_lent : (order : List (Bor Entry)) → map (λ e. bytes_of e.now) order ≡ map bytes_of (lent order)
bytes_lent [] = refl
bytes_lent (e ∷ order) = ap (λ (l : List (List ℕ)). bytes_of e.now ∷ l) (bytes_lent order)

pub length-lent : (order : List (Bor Entry)) → length (lent order) ≡ length order
length-lent [] = refl
length-lent (e ∷ order) = ap suc (length-lent order)

pub within_order : (order : List (Bor Entry)) (list : List (List ℕ)) (i : ℕ) → list ≡ map bytes_of (lent order) →
    i < length list → i < length order
within_order order list i is within =
    omega (arith, ap (λ (l : List (List ℕ)). length l) is, length-bytes (lent order), length-lent order)
  where
    length-bytes : (entries : List Entry) → length (map bytes_of entries) ≡ length entries
    length-bytes [] = refl
    length-bytes (e ∷ entries) = ap suc (length-bytes entries)

pub name_at : (order : List (Bor Entry)) (i : ℕ) (e : Bor Entry) → i < length order →
    get_or (map name_of (lent order)) i [] ≡ name_of (get_or order i e).now
name_at [] i e within = absurd (omega arith)
name_at (x ∷ order) zero e within = refl
name_at (x ∷ order) (suc i) e within = name_at order i e (omega arith)

-- The text of a report after the text before it.
pub report_text : (entries : List Entry) (order : List (Bor Entry)) (start text : List ℕ) (files others : ℕ)
    (told : List ℕ) (outcome : Outcome) → start ≡ [] → text ≡ start ++ counts_line files (length entries - others)
    → files ≡ length order → others ≡ length order → told ≡ outcome_text (map name_of (lent order)) outcome
    → text ++ told ≡ report_of entries (lent order) outcome
report_text entries order start text files others told outcome none is some same ends =
    let n = files_is order files some in
    let m = files_is order others same in
    let counted = is ∙ ap (λ s. s ++ counts_line files (length entries - others)) none
    ∙ ap (λ (k : ℕ). counts_line k (length entries - others)) n
    ∙ ap (λ (k : ℕ). counts_line (length (lent order)) (length entries - k)) m
    in
    ap (λ t. t ++ told) counted
    ∙ ap (λ t. counts_line (length (lent order)) (length entries - length (lent order)) ++ t) ends
  where
    files_is : (order : List (Bor Entry)) (files : ℕ) → files ≡ length order → files ≡ length (lent order)
    files_is order files is = is ∙ sym (length-lent order)

-- The report was written.
pub told_whole : (old new : Option (List ℕ)) (entries : List Entry) (checked : Checked entries)
    (r : Result ℕ CommandFault) (text : List ℕ) (status : ℕ) → text ≡ report checked
    → status ≡ outcome_status checked.outcome → IfOk r (λ s. Appends old new text × (s ≡ status))
    → IfOk r (λ s. (x : Checked entries) × (Appends old new (report x) × (s ≡ outcome_status x.outcome)))
told_whole old new entries checked (Ok s) text status is ends told =
    (checked, (subst (Appends old new) is told.0, told.1 ∙ ends))
told_whole old new entries checked (Err e) text status is ends told = tt

-- A prefix of the only report was written.
pub told_front : (old new : Option (List ℕ)) → OneOutcome → (entries : List Entry) (checked : Checked entries)
    (text : List ℕ) → text ≡ report checked → AppendsPrefix old new text → NamesDiffer entries
    → (x : Checked entries) → AppendsPrefix old new (report x)
told_front old new one entries checked text is front differ x =
    subst (AppendsPrefix old new) (is ∙ one_report one entries differ checked x) front
