-- How runs represent the carried messages. A run is a part of the list of kept messages. The map has it at the
-- number of its first message.
use Rattle.std.specs.Prelude.{◌≡◌, ℕ, ◌+◌, ◌<◌, ◌≤◌, ◌^◌, List, take, drop, Some, if◌then◌else◌}
use Rattle.std.specs.List.{flat_map}
use Rattle.std.specs.BTreeMap as tree
use Rattle.std.specs.BTreeMap.{BTreeMap, is_at}
use Rattle.std.specs.FinMap as finite
use Rattle.std.specs.Ordering.{nat_cmp}
use Rattle.mold_capture.specs.Seen.{Pairs, numbered}
use Rattle.mold_capture.specs.declared.run.Run.{Run}

-- The runs by the sequence number of their first message.
abbrev pub Runs : Type 0
Runs = BTreeMap ℕ Run

-- The messages of a run.
abbrev pub messages_in : List (List ℕ) → Run → List (List ℕ)
messages_in kept run = take run.count (drop run.start kept)

-- The messages of all runs, each with its sequence number.
abbrev pub run_pairs : List (ℕ × Run) → List (List ℕ) → List (ℕ × List ℕ)
run_pairs entries kept = flat_map (λ e. numbered e.0 (messages_in kept e.1)) entries

-- The carried messages by sequence number, from the entries of the map and the kept messages.
unfoldable pub pairs_of : List (ℕ × Run) → List (List ℕ) → Pairs
pairs_of entries kept = finite.from_entries (run_pairs entries kept)

-- The carried messages by sequence number.
abbrev pub carried : Runs → List (List ℕ) → Pairs
carried runs kept = pairs_of runs.entries kept

-- The map has the run at the number `first`.
abbrev pub HasRun : Runs → ℕ → Run → Type 0
HasRun runs first run = tree.get nat_cmp runs first ≡ Some run

-- No two runs have a number in common.
abbrev pub AreApart : Runs → Type 0
AreApart runs = (f g : ℕ) (run other : Run) → HasRun runs f run → HasRun runs g other → f < g → f + run.count ≤ g

-- The runs are valid for `kept` messages: each run has a message and is within the list, its numbers have 64
-- bits, and no two runs share a number.
pub record AreRuns (runs : Runs) (kept : ℕ) : Type 0 where
  pub fits : kept < 2 ^ 64
  pub ordered : tree.IsOrdered nat_cmp runs
  -- each run has a message
  pub some : (f : ℕ) (run : Run) → HasRun runs f run → 0 < run.count
  -- the messages of a run are in the list
  pub inside : (f : ℕ) (run : Run) → HasRun runs f run → run.start + run.count ≤ kept
  -- the numbers of a run have 64 bits
  pub last : (f : ℕ) (run : Run) → HasRun runs f run → f + run.count < 2 ^ 64
  pub apart : AreApart runs

-- The run, which begins with the number `first`, has a message with this number.
abbrev pub Covers : ℕ → Run → ℕ → Type 0
Covers first run number = (first ≤ number) × (number < first + run.count)

-- No run has a number from `first` up to, but not including, `top`.
abbrev pub AreFree : Runs → ℕ → ℕ → Type 0
AreFree runs first top = (f : ℕ) (run : Run) (number : ℕ) → HasRun runs f run → Covers f run number →
    first ≤ number → number < top → ⊥

-- No run has the number `first` or a larger one.
abbrev pub AreFreeFrom : Runs → ℕ → Type 0
AreFreeFrom runs first = (f : ℕ) (run : Run) (number : ℕ) → HasRun runs f run → Covers f run number →
    first ≤ number → ⊥

-- The map `now` is the map `runs` with the run inserted at the number `f`, or replaced there.
abbrev pub IsPut : Runs → ℕ → Run → Runs → Type 0
IsPut runs f run now =
    (q : ℕ) → tree.get nat_cmp now q ≡ (if is_at (nat_cmp f) q then Some run else tree.get nat_cmp runs q)

-- The run ends with `count` new messages, the first of which has the number `number`. Before them it has no
-- messages, or those of the run that the map has at `first`.
pub record IsGrown (runs : Runs) (kept number count first : ℕ) (run : Run) : Type 0 where
  -- the last new message is the last of the run
  pub ends : first + run.count ≡ number + count
  -- the run ends at the end of the list
  pub places : run.start + run.count ≡ kept + count
  pub long : count ≤ run.count
  -- the messages before the new ones are those of the run that is there
  pub front : count < run.count →
      (old : Run) × (HasRun runs first old × (old.start ≡ run.start) × (old.count + count ≡ run.count))

-- The map `now` has all runs of the map `before`. Each of its runs that starts below index `index` is one of
-- these.
pub record IsSince (before now : Runs) (index : ℕ) : Type 0 where
  pub kept : (f : ℕ) (run : Run) → HasRun before f run → HasRun now f run
  pub others : (f : ℕ) (run : Run) → HasRun now f run → run.start < index → HasRun before f run

-- Each run that starts at index `index` or later begins with a number from `first` up to, but not including, `top`.
abbrev pub BeginWithin : Runs → ℕ → ℕ → ℕ → Type 0
BeginWithin runs index first top =
    (f : ℕ) (run : Run) → HasRun runs f run → index ≤ run.start → (first ≤ f) × (f < top)
