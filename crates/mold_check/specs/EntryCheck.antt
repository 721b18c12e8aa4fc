-- What a check of the datagrams of a folder finds and prints. They are judged by any judge.
use Rattle.std.specs.Prelude.{◌≡◌, ℕ, ◌-◌, List, ◌++◌, length, map}
use Rattle.std.specs.Borrow.{Bor}
use Rattle.mold_check.specs.EachCheck.{all_judged, with_numbers}
use Rattle.mold_check.specs.Entries.{IsOrder, bytes_of}
use Rattle.mold_check.specs.Judge.{Judging}
use Rattle.mold_check.specs.Naming.{lent_names, listed}
use Rattle.mold_check.specs.Report.{counts_line}
use Rattle.mold_check.specs.declared.entry.Entry.{Entry}

-- The state of a check: the datagrams in their order, the number of other entries, and the state of the judge.
pub record EntryChecking (S : Type 0) : Type 0 where
  pub order : List (Bor Entry)
  pub skipped : ℕ
  pub judge : S

-- The bytes of borrowed entries.
abbrev pub lent_bytes : List (Bor Entry) → List (List ℕ)
lent_bytes order = map (λ entry. bytes_of entry.now) order

-- The judge after the datagrams in this order. The number of each is its index.
abbrev pub all_indexed : {S : Type 0} → Judging S → S → List (List ℕ) → S
all_indexed judging start list = all_judged judging start (with_numbers 0 list)

-- The check of these entries: its datagrams are in ascending order of their names, and all are added to the judge, which
-- was `start`.
pub record ChecksEntries {S : Type 0} (judging : Judging S) (start : S) (entries : List Entry) (check : EntryChecking S) :
    Type 0 where
  pub ordered : IsOrder entries (map (λ entry. entry.now) check.order)
  pub skipped : check.skipped ≡ length entries - length check.order
  pub judged : check.judge ≡ all_indexed judging start (lent_bytes check.order)

-- The first line of the report.
abbrev pub entry_counts : {S : Type 0} → EntryChecking S → List ℕ
entry_counts check = counts_line (length check.order) check.skipped

-- What is printed. A datagram is named by its entry.
abbrev pub entry_check_text : {S : Type 0} → Judging S → EntryChecking S → List ℕ
entry_check_text judging check = entry_counts check ++ judging.text (listed (lent_names check.order)) check.judge
