-- The entries ascend, and the last one up to a message leads to it.
use Rattle.std.proofs.Common.{◌≡◌, ℕ, zero, suc, ◌+◌, ◌-◌, ◌<◌, ◌≤◌, List, length, get_or, sym, ap, subst, inl, inr, arith}
use Rattle.std.proofs.lemmas.Bool.{cases_lt}
use Rattle.std.proofs.lemmas.List.{get_or_default}
use Rattle.std.specs.List.{AllAdjacentBelow}
use Rattle.std.specs.List.Sorted.{IsNonDecreasingBy, IsPartitionPoint}
use Rattle.mold_index.specs.Index.{AreApart, IndexState, Indexes, IsEntry, IsNear, LeadsTo}
use Rattle.mold_index.specs.declared.entry.Entry.{Entry}
use Rattle.mold_index.proofs.OffsetLemmas.{offset-mono}

-- The entries before an index are up to the message, and those from it on are above.
abbrev pub IsSplit : List Entry → ℕ → ℕ → Type 0
IsSplit entries number above =
    IsPartitionPoint (λ entry. entry.number ≤ number) (λ entry. number < entry.number) entries above

pub ascending : (entries : List Entry) → AllAdjacentBelow AreApart entries (length entries) →
    IsNonDecreasingBy (λ entry. entry.number) entries
ascending entries apart i zero d order within =
    let same : i ≡ 0 = omega (arith, order) in
    rw same (omega arith)
ascending entries apart i (suc j) d order within =
    elim (cases_lt j i) [
      | inl past ↦
          let same : i ≡ suc j = omega (arith, past, order) in
          rw same (omega arith)
      | inr before ↦
          let more : suc j ≡ j + 1 = omega arith in
          let one = ascending entries apart i j d before (omega (arith, within)) in
          let step = (apart j d (omega (arith, within))).later in
          omega (arith, one, step, ap (λ (n : ℕ). (get_or entries n d).number) more)
    ]

-- If an entry is up to the message and the next one is above it, the entries are split between them.
pub split_after : (entries : List Entry) (i number : ℕ) (d : Entry) → IsNonDecreasingBy (λ entry. entry.number) entries →
    i < length entries → (get_or entries i d).number ≤ number →
    (i + 1 < length entries → number < (get_or entries (i + 1) d).number) → IsSplit entries number (i + 1)
split_after entries i number d up within below above = (
  λ k other low high. omega (
    arith,
    up k i d (omega (arith, high)) within,
    below,
    ap (λ (e : Entry). e.number) (get_or_default entries k other d (omega (arith, high, within))),
  ),
  λ k other low high. omega (
    arith,
    up (i + 1) k d low high,
    above (omega (arith, low, high)),
    ap (λ (e : Entry). e.number) (get_or_default entries k other d high),
  ),
)

-- There is an entry up to each message.
record HasUpTo (index : IndexState) (lengths : List ℕ) (number above : ℕ) : Type 0 where
  k : ℕ
  entry : Entry
  below : k < above
  within : k < length index.entries
  there : get_or index.entries k entry ≡ entry
  near : IsNear index.layout lengths number entry

up_to : (index : IndexState) (lengths : List ℕ) (number above : ℕ) → Indexes index lengths → 1 ≤ number →
    number ≤ length lengths → IsSplit index.entries number above → HasUpTo index lengths number above
up_to index lengths number above is first last split =
    let (k, entry, within, there, near) = is.near number first last in
    record {
      k = k;
      entry = entry;
      below = elim (cases_lt k above) [
        | inl below ↦ below
        | inr past ↦ absurd (omega (
          arith,
          near.before,
          split.1 k entry past within,
          ap (λ (e : Entry). e.number) there,
        ))
      ];
      within = within;
      there = there;
      near = near;
    }

pub some_up_to : (index : IndexState) (lengths : List ℕ) (number above : ℕ) → Indexes index lengths → 1 ≤ number →
    number ≤ length lengths → IsSplit index.entries number above → 0 < above
some_up_to index lengths number above is first last split =
    omega (arith, (up_to index lengths number above is first last split).below)

pub leads : (index : IndexState) (lengths : List ℕ) (number above : ℕ) (entry : Entry) → Indexes index lengths →
    1 ≤ number → number ≤ length lengths → above ≤ length index.entries → IsSplit index.entries number above →
    entry ≡ get_or index.entries (above - 1) entry → LeadsTo index.layout lengths number entry
leads index lengths number above entry is first last bound split there =
    let one = up_to index lengths number above is first last split in
    let within : above - 1 < length index.entries = omega (arith, bound, one.below) in
    let right : IsEntry index.layout lengths entry =
    subst (IsEntry index.layout lengths) (sym there) (is.each (above - 1) entry within) in
    let order : one.entry.number ≤ entry.number =
    omega (
      arith,
      ascending index.entries is.apart one.k (above - 1) entry (omega (arith, one.below)) within,
      ap (λ (e : Entry). e.number) there,
      ap (λ (e : Entry). e.number) one.there,
      ap (λ (e : Entry). e.number) (get_or_default index.entries one.k entry one.entry one.within),
    )
    in
    let one_right : IsEntry index.layout lengths one.entry =
    subst (IsEntry index.layout lengths) one.there (is.each one.k one.entry one.within) in
    record {
      right = right;
      near = record {
        before = omega (
          arith,
          split.0 (above - 1) entry (omega arith) (omega (arith, one.below)),
          ap (λ (e : Entry). e.number) there,
        );
        few = omega (arith, one.near.few, order);
        close = omega (
          arith,
          one.near.close,
          one_right.begins,
          right.begins,
          offset-mono index.layout lengths one.entry.number entry.number order,
        );
      };
    }

-- What the search through a slice of the entries found.
pub split_of : (entries other : List Entry) (number above : ℕ) → other ≡ entries →
    AllAdjacentBelow AreApart entries (length entries) →
    (IsNonDecreasingBy (λ entry. entry.number) other → IsSplit other number above) → IsSplit entries number above
split_of entries other number above same apart split =
    subst (λ (t : List Entry). IsSplit t number above) same
    (split (subst (λ (t : List Entry). IsNonDecreasingBy (λ entry. entry.number) t) (sym same) (ascending entries apart)))
