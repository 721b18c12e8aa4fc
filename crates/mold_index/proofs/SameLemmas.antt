-- Lengths have only one index.
use Rattle.std.proofs.Common.{◌≡◌, ℕ, zero, suc, ◌+◌, ◌<◌, ◌≤◌, List, length, get_or, sym, ap, ap₂, subst, ◌∙◌, inl, inr, arith}
use Rattle.std.proofs.lemmas.Bool.{cases_lt}
use Rattle.std.proofs.lemmas.List.{get_or_default, same_lists}
use Rattle.std.specs.List.{All, AllAdjacentBelow, Any}
use Rattle.mold_index.specs.Index.{AreApart, IndexState, Indexes, IsEntry, IsNear, offset_of}
use Rattle.mold_index.specs.declared.entry.Entry.{Entry}
use Rattle.mold_index.specs.declared.layout.Layout.{Layout}
use Rattle.mold_index.proofs.FindLemmas.{ascending}
use Rattle.mold_index.proofs.OffsetLemmas.{offset-mono}

-- The entries of an index.
record AreEntries (layout : Layout) (lengths : List ℕ) (entries : List Entry) : Type 0 where
  each : All (IsEntry layout lengths) entries
  apart : AllAdjacentBelow AreApart entries (length entries)
  near : (number : ℕ) → 1 ≤ number → number ≤ length lengths → Any (IsNear layout lengths number) entries

entries_of : (index : IndexState) (lengths : List ℕ) → Indexes index lengths →
    AreEntries index.layout lengths index.entries
entries_of index lengths is = record { each = is.each; apart = is.apart; near = is.near }

-- Two entries with one number are the same.
same_entry : (layout : Layout) (lengths : List ℕ) (one other : Entry) → IsEntry layout lengths one →
    IsEntry layout lengths other → one.number ≡ other.number → one ≡ other
same_entry layout lengths one other right also same =
    let offset : one.offset ≡ other.offset =
    right.begins ∙ ap (λ (n : ℕ). offset_of layout lengths n) same ∙ sym also.begins in
    let made : ℕ → ℕ → Entry = λ number offset. record { number = number; offset = offset } in
    ap₂ made same offset

-- The first entry is that of the first message.
first_is : (layout : Layout) (lengths : List ℕ) (entries : List Entry) (d : Entry) → AreEntries layout lengths entries →
    1 ≤ length lengths → (0 < length entries) × ((get_or entries 0 d).number ≡ 1)
first_is layout lengths entries d are some =
    let (k, e, within, there, near) = are.near 1 (omega arith) some in
    let inside : 0 < length entries = omega (arith, within) in
    let low = ascending entries are.apart 0 k d (omega arith) within in
    let same = ap (λ (x : Entry). x.number) (get_or_default entries k d e within) in (
      inside,
      omega (
        arith,
        low,
        near.before,
        (are.each 0 d inside).first,
        same,
        ap (λ (x : Entry). x.number) there,
      ),
    )

-- Where two indexes agree, the next entry of one is not before that of the other.
not_before : (layout : Layout) (lengths : List ℕ) (one other : List Entry) (k : ℕ) (d : Entry) →
    AreEntries layout lengths one → AreEntries layout lengths other → k + 1 < length one → k < length other →
    get_or one k d ≡ get_or other k d →
    (k + 1 < length other) × ((get_or other (k + 1) d).number ≤ (get_or one (k + 1) d).number)
not_before layout lengths one other k d are also inside there same =
    let next = are.each (k + 1) d inside in
    let this = also.each k d there in
    let (j, e, within, is, near) = also.near (get_or one (k + 1) d).number next.first next.last in
    let at : (get_or other j d).number ≡ e.number =
    ap (λ (x : Entry). x.number) (get_or_default other j d e within ∙ is) in
    elim (cases_lt k j) [
      | inl after ↦
          let more : k + 1 < length other = omega (arith, after, within) in
          (more, omega (arith, ascending other also.apart (k + 1) j d (omega (arith, after)) within, at, near.before))
      | inr before ↦
          let low : e.number ≤ (get_or other k d).number =
          omega (arith, ascending other also.apart j k d before there, at) in
          let right : IsEntry layout lengths e = subst (IsEntry layout lengths) is (also.each j e within) in
          let rise = offset-mono layout lengths e.number (get_or other k d).number low in
          let number = ap (λ (x : Entry). x.number) same in
          let offset = ap (λ (x : Entry). x.offset) same in
          absurd (elim (are.apart k d inside).far [
            | inl far ↦ omega (arith, far, near.few, low, number)
            | inr far ↦ omega (arith, far, near.close, right.begins, this.begins, rise, next.begins, offset)
          ])
    ]

same_at : (layout : Layout) (lengths : List ℕ) (one other : List Entry) (k : ℕ) (d : Entry) →
    AreEntries layout lengths one → AreEntries layout lengths other → k < length one →
    (k < length other) × (get_or one k d ≡ get_or other k d)
same_at layout lengths one other zero d are also inside =
    let right = are.each 0 d inside in
    let some : 1 ≤ length lengths = omega (arith, right.first, right.last) in
    let first = first_is layout lengths one d are some in
    let first_also = first_is layout lengths other d also some in (
      first_also.0,
      same_entry layout lengths (get_or one 0 d) (get_or other 0 d) right (also.each 0 d first_also.0)
          (first.1 ∙ sym first_also.1),
    )
same_at layout lengths one other (suc k) d are also inside =
    let more : k + 1 ≡ suc k = omega arith in
    let before = same_at layout lengths one other k d are also (omega (arith, inside)) in
    let next = not_before layout lengths one other k d are also (omega (arith, inside)) before.0 before.1 in
    let back = not_before layout lengths other one k d also are next.0 (omega (arith, inside)) (sym before.1) in
    let same =
    same_entry layout lengths (get_or one (k + 1) d) (get_or other (k + 1) d) (are.each (k + 1) d back.0)
    (also.each (k + 1) d next.0) (omega (arith, next.1, back.1)) in (
      omega (arith, next.0),
      ap (λ (n : ℕ). get_or one n d) (sym more) ∙ same ∙ ap (λ (n : ℕ). get_or other n d) more,
    )

not_longer : (layout : Layout) (lengths : List ℕ) (one other : List Entry) → AreEntries layout lengths one →
    AreEntries layout lengths other → length one ≤ length other
not_longer layout lengths one other are also =
    elim (cases_lt (length other) (length one)) [
      | inl longer ↦
          absurd (omega (
            arith,
            (same_at layout lengths one other (length other) (record { number = 0; offset = 0 }) are also longer).0,
          ))
      | inr past ↦ past
    ]

pub same_entries : (one other : IndexState) (lengths : List ℕ) → Indexes one lengths → Indexes other lengths →
    one.layout ≡ other.layout → one.entries ≡ other.entries
same_entries one other lengths is was same =
    let are = entries_of one lengths is in
    let also : AreEntries one.layout lengths other.entries =
    subst (λ (l : Layout). AreEntries l lengths other.entries) (sym same) (entries_of other lengths was) in
    same_lists one.entries other.entries
    (omega (
      arith,
      not_longer one.layout lengths one.entries other.entries are also,
      not_longer one.layout lengths other.entries one.entries also are,
    ))
    (λ k d inside. (same_at one.layout lengths one.entries other.entries k d are also inside).1)
