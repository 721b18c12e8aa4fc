-- The piece that is read for some messages.
use Rattle.std.proofs.Common.{◌≡◌, ℕ, ◌+◌, ◌-◌, ◌<◌, ◌≤◌, min, List, Option, length, get_or, slice_get}
use Rattle.std.proofs.Common.{sym, ap, subst, inl, inr, arith}
use Rattle.std.proofs.lemmas.Bool.{cases_lt}
use Rattle.std.proofs.lemmas.List.{get_or_default}
use Rattle.std.proofs.lemmas.Option.{slice_get_cases}
use Rattle.std.specs.List.{AllAdjacentBelow}
use Rattle.mold_index.specs.Adding.{offset_or}
use Rattle.mold_index.specs.Index.{AreApart, IndexState, Indexes, IsEntry, LeadsTo, offset_of}
use Rattle.mold_index.specs.Piece.{IsPiece}
use Rattle.mold_index.specs.declared.entry.Entry.{Entry}
use Rattle.mold_index.specs.declared.piece.Piece.{Piece}
use Rattle.mold_index.proofs.FindLemmas.{IsSplit, ascending}
use Rattle.mold_index.proofs.OffsetLemmas.{offset-mono, offset_last}

-- The offset after the entries up to a message.
abbrev pub stop_at : IndexState → ℕ → ℕ
stop_at index above = offset_or (slice_get index.entries above) index.end

-- Message `m` begins at or before the first entry from message `to` on, if it is not after that message.
stops_up_to : (index : IndexState) (lengths : List ℕ) (to above m : ℕ) → Indexes index lengths → 1 ≤ to →
    IsSplit index.entries (to - 1) above → m ≤ to → m ≤ length lengths + 1 →
    offset_of index.layout lengths m ≤ stop_at index above
stops_up_to index lengths to above m is some split low last =
    elim ((slice_get_cases index.entries above).1) [
      | inl (x, within, there, same) ↦
          let right : IsEntry index.layout lengths x =
          subst (IsEntry index.layout lengths) same (is.each above x within) in
          let later : to ≤ x.number =
          omega (arith, some, split.1 above x (omega arith) within, ap (λ (e : Entry). e.number) same) in
          omega (
            arith,
            ap (λ (o : Option Entry). offset_or o index.end) there,
            right.begins,
            offset-mono index.layout lengths m x.number (omega (arith, low, later)),
          )
      | inr (past, none) ↦
          omega (
            arith,
            ap (λ (o : Option Entry). offset_or o index.end) none,
            is.ends,
            offset-mono index.layout lengths m (length lengths + 1) last,
          )
    ]

-- That offset is not above the end.
pub stops_within : (index : IndexState) (lengths : List ℕ) (above : ℕ) → Indexes index lengths →
    stop_at index above ≤ offset_of index.layout lengths (length lengths + 1)
stops_within index lengths above is =
    elim ((slice_get_cases index.entries above).1) [
      | inl (x, within, there, same) ↦
          let right : IsEntry index.layout lengths x =
          subst (IsEntry index.layout lengths) same (is.each above x within) in
          omega (
            arith,
            ap (λ (o : Option Entry). offset_or o index.end) there,
            right.begins,
            offset_last index.layout lengths x.number,
          )
      | inr (past, none) ↦ omega (arith, ap (λ (o : Option Entry). offset_or o index.end) none, is.ends)
    ]

-- The last entry before an index is right.
pub entry_right : (index : IndexState) (lengths : List ℕ) (above : ℕ) (entry : Entry) → Indexes index lengths →
    0 < above → above ≤ length index.entries → entry ≡ get_or index.entries (above - 1) entry →
    IsEntry index.layout lengths entry
entry_right index lengths above entry is low bound there =
    subst (IsEntry index.layout lengths) (sym there) (is.each (above - 1) entry (omega (arith, low, bound)))

-- It is below the entry at that index.
apart_at : (index : IndexState) (lengths : List ℕ) (above : ℕ) (entry x : Entry) → Indexes index lengths → 0 < above →
    above < length index.entries → entry ≡ get_or index.entries (above - 1) entry → get_or index.entries above x ≡ x →
    entry.number < x.number
apart_at index lengths above entry x is low within there same =
    let next : above - 1 + 1 ≡ above = omega (arith, low) in
    omega (
      arith,
      (is.apart (above - 1) entry (omega (arith, low, within))).later,
      ap (λ (n : ℕ). (get_or index.entries n entry).number) next,
      ap (λ (e : Entry). e.number) there,
      ap (λ (e : Entry). e.number) same,
      ap (λ (e : Entry). e.number) (get_or_default index.entries above entry x within),
    )

-- An entry with a lower number than another is before it.
under : (index : IndexState) (above : ℕ) (x : Entry) (k : ℕ) (e : Entry) →
    AllAdjacentBelow AreApart index.entries (length index.entries) → above < length index.entries →
    get_or index.entries above x ≡ x → k < length index.entries → get_or index.entries k e ≡ e → e.number < x.number →
    k < above
under index above x k e apart within same inside is_e lower =
    elim (cases_lt k above) [
      | inl below ↦ below
      | inr past ↦ absurd (omega (
        arith,
        lower,
        ascending index.entries apart above k x past inside,
        ap (λ (t : Entry). t.number) same,
        ap (λ (t : Entry). t.number) is_e,
        ap (λ (t : Entry). t.number) (get_or_default index.entries k x e inside),
      ))
    ]

-- An entry near a message is at or before the last entry up to it.
near_before : (index : IndexState) (lengths : List ℕ) (above m : ℕ) (entry : Entry) → Indexes index lengths →
    1 ≤ m → m ≤ length lengths → 0 < above → above ≤ length index.entries →
    entry ≡ get_or index.entries (above - 1) entry →
    ((k : ℕ) (e : Entry) → k < length index.entries → get_or index.entries k e ≡ e → e.number ≤ m → k < above) →
    m < entry.number + 64
near_before index lengths above m entry is first last some bound there before =
    let (k, e, within, same, near) = is.near m first last in
    let low = before k e within same near.before in
    let at : above - 1 < length index.entries = omega (arith, some, bound) in
    let order = ascending index.entries is.apart k (above - 1) entry (omega (arith, low)) at in
    omega (
      arith,
      near.few,
      order,
      ap (λ (x : Entry). x.number) there,
      ap (λ (x : Entry). x.number) same,
      ap (λ (x : Entry). x.number) (get_or_default index.entries k entry e within),
    )

-- There are few messages from the last entry up to a message to the next entry.
pub stops_narrow : (index : IndexState) (lengths : List ℕ) (above : ℕ) (entry : Entry) → Indexes index lengths →
    1 ≤ length lengths → 0 < above → above ≤ length index.entries → entry ≡ get_or index.entries (above - 1) entry →
    stop_at index above ≤ offset_of index.layout lengths (entry.number + 64)
stops_narrow index lengths above entry is some low bound there =
    elim ((slice_get_cases index.entries above).1) [
      | inl (x, within, found, same) ↦
          let right : IsEntry index.layout lengths x =
          subst (IsEntry index.layout lengths) same (is.each above x within) in
          let before = apart_at index lengths above entry x is low within there same in
          let few = near_before index lengths above (x.number - 1) entry is
          (omega (arith, before, (entry_right index lengths above entry is low bound there).first))
          (omega (arith, right.last)) low bound there
          (λ k e inside is_e up. under index above x k e is.apart within same inside is_e
          (omega (arith, up, before)))
          in
          omega (
            arith,
            ap (λ (o : Option Entry). offset_or o index.end) found,
            right.begins,
            offset-mono index.layout lengths x.number (entry.number + 64) (omega (arith, few, before)),
          )
      | inr (past, none) ↦
          let few = near_before index lengths above (length lengths) entry is some (omega arith) low bound there
          (λ k e inside is_e up. omega (arith, past, inside)) in
          omega (
            arith,
            ap (λ (o : Option Entry). offset_or o index.end) none,
            is.ends,
            offset-mono index.layout lengths (length lengths + 1) (entry.number + 64) (omega (arith, few)),
          )
    ]

-- The entry that leads to message `from` is before the offset after the entries up to message `from`, and before that
-- after the entries up to message `to - 1`.
pub begins_before : (index : IndexState) (lengths : List ℕ) (from to above : ℕ) (entry : Entry) → Indexes index lengths →
    from < to → LeadsTo index.layout lengths from entry → IsSplit index.entries (to - 1) above →
    entry.offset ≤ stop_at index above
begins_before index lengths from to above entry is order leads split =
    omega (
      arith,
      leads.right.begins,
      stops_up_to index lengths to above entry.number is (omega (arith, order)) split
          (omega (arith, leads.near.before, order)) (omega (arith, leads.right.last)),
    )

-- The entries up to a message, as those below the next one.
pub split_next : (index : IndexState) (from above : ℕ) → IsSplit index.entries from above →
    IsSplit index.entries (from + 1 - 1) above
split_next index from above split =
    let same : from ≡ from + 1 - 1 = omega arith in
    subst (λ (n : ℕ). IsSplit index.entries n above) same split

-- The piece from the last entry up to the first message.
pub is_piece : (index : IndexState) (lengths : List ℕ) (from to most above after : ℕ) (entry : Entry) (piece : Piece) →
    Indexes index lengths → 1 ≤ from → from ≤ length lengths → from < to →
    LeadsTo index.layout lengths from entry → above ≤ length index.entries → 0 < above →
    entry ≡ get_or index.entries (above - 1) entry → IsSplit index.entries from above →
    IsSplit index.entries (to - 1) after → piece.entry ≡ entry →
    piece.len ≡ min (min (stop_at index above) (entry.offset + 32767) + most) (stop_at index after) - entry.offset →
    IsPiece index.layout lengths from to most piece
is_piece index lengths from to most above after entry piece is first last order leads bound low there split split_to is_e
    sum =
    let right = leads.right in
    let split_from = split_next index from above split in
    let from_stop = stops_up_to index lengths (from + 1) above from is (omega arith) split_from (omega arith)
    (omega (arith, last)) in
    let entry_stop = begins_before index lengths from (from + 1) above entry is (omega arith) leads split_from in
    let after_stop : (m : ℕ) → m ≤ to → m ≤ length lengths + 1 → offset_of index.layout lengths m ≤ stop_at index after =
    λ m low_m last_m. stops_up_to index lengths to after m is (omega (arith, order)) split_to low_m last_m in
    let entry_after = begins_before index lengths from to after entry is order leads split_to in
    let end_stop = stops_within index lengths after is in
    let narrow = stops_narrow index lengths above entry is (omega (arith, first, last)) low bound there in
    let number_is = ap (λ (e : Entry). e.number) is_e in
    let offset_is = ap (λ (e : Entry). e.offset) is_e in
    let stops_is = ap (λ (n : ℕ). offset_of index.layout lengths (n + 64)) number_is in
    record {
      begins = subst (LeadsTo index.layout lengths from) (sym is_e) leads;
      whole = λ number low_n high_n last_n close.
          omega (
            arith,
            sum,
            offset_is,
            close,
            from_stop,
            leads.near.close,
            right.begins,
            entry_stop,
            entry_after,
            after_stop (number + 1) (omega (arith, high_n)) (omega (arith, last_n)),
          );
      within = omega (arith, sum, offset_is, entry_after, right.begins, entry_stop, end_stop);
      short = omega (arith, sum);
      narrow = omega (arith, sum, offset_is, narrow, entry_stop, entry_after, right.begins, stops_is);
    }
