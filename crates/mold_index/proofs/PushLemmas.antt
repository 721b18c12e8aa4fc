-- An index after a message was appended.
use Rattle.std.proofs.Common.{◌≡◌, ◌⊎◌, ℕ, ◌+◌, ◌-◌, ◌<◌, ◌≤◌, Bool, true, false, true≢false, nat_le, nat_lt, List, [], ◌∷◌, ◌++◌, Option, None, Some}
use Rattle.std.proofs.Common.{length, length-append, get_or, slice_get, cond, refl, sym, ap, subst, ◌∙◌, inl, inr, append-nil, ◌||◌, arith}
use Rattle.std.proofs.lemmas.Bool.{cases_lt}
use Rattle.std.proofs.lemmas.Bool.Decides.{nat_tests}
use Rattle.std.proofs.lemmas.List.{get_or_append_left, get_or_at, length_push}
use Rattle.std.proofs.lemmas.List.Elements.{All-push, All-weaker}
use Rattle.std.proofs.lemmas.List.Quantifiers.{Any-push}
use Rattle.std.proofs.lemmas.Option.{get_or_from_slice_get, slice_get-get_or, slice_get_within}
use Rattle.std.specs.List.{AllAdjacentBelow, Any}
use Rattle.mold_index.specs.Adding.{IsRoom, has_room, is_due, next_entry, with_entry}
use Rattle.mold_index.specs.Index.{Appends, AreApart, IndexState, Indexes, IsEntry, IsNear, fresh_index, offset_of}
use Rattle.mold_index.specs.declared.entry.Entry.{Entry}
use Rattle.mold_index.specs.declared.layout.Layout.{Layout}
use Rattle.mold_index.specs.declared.room.Room.{Room}
use Rattle.mold_index.proofs.OffsetLemmas.{end-push, offset-push}

-- The index with these entries, after a message of `len` bytes.
abbrev pub grown : IndexState → ℕ → List Entry → IndexState
grown index len entries = record {
  layout = index.layout;
  count = index.count + 1;
  end = index.end + (index.layout.overhead + len);
  entries = entries;
}

-- The last entry.
abbrev pub last_of : List Entry → Option Entry
last_of entries = slice_get entries (length entries - 1)

pub indexes_none : (layout : Layout) → Indexes (fresh_index layout) []
indexes_none layout = record {
  counted = refl;
  ends = omega arith;
  each = λ k d within. absurd (omega (arith, within));
  apart = λ k d within. absurd (omega (arith, within));
  near = λ number first last. absurd (omega (arith, first, last));
}

-- What is right stays right.
entry_stays : (layout : Layout) (lengths : List ℕ) (len : ℕ) (entry : Entry) → IsEntry layout lengths entry →
    IsEntry layout (lengths ++ len ∷ []) entry
entry_stays layout lengths len entry right = record {
  first = right.first;
  last = omega (arith, right.last, length_push lengths len);
  begins = right.begins ∙ sym (offset-push layout lengths len entry.number (omega (arith, right.last)));
}

near_stays : (layout : Layout) (lengths : List ℕ) (len number : ℕ) (entry : Entry) → number ≤ length lengths + 1 →
    IsNear layout lengths number entry → IsNear layout (lengths ++ len ∷ []) number entry
near_stays layout lengths len number entry within near = record {
  before = near.before;
  few = near.few;
  close = omega (arith, near.close, offset-push layout lengths len number within);
}

-- The entry for the next message is right.
next_right : (index : IndexState) (lengths : List ℕ) (len : ℕ) → Indexes index lengths →
    IsEntry index.layout (lengths ++ len ∷ []) (next_entry index)
next_right index lengths len is = record {
  first = omega arith;
  last = omega (arith, is.counted, length_push lengths len);
  begins =
      is.ends
      ∙ sym (offset-push index.layout lengths len (length lengths + 1) (omega arith))
      ∙ ap (λ (n : ℕ). offset_of index.layout (lengths ++ len ∷ []) (n + 1)) (sym is.counted);
}

-- The next message begins at the end.
next_begins : (index : IndexState) (lengths : List ℕ) (len : ℕ) → Indexes index lengths →
    offset_of index.layout (lengths ++ len ∷ []) (length lengths + 1) ≡ index.end
next_begins index lengths len is =
    offset-push index.layout lengths len (length lengths + 1) (omega arith) ∙ sym is.ends

any_longer : {X : Type 0} (P Q : X → Type 0) (xs ys : List X) → ((x : X) → P x → Q x) → Any P xs → Any Q (xs ++ ys)
any_longer P Q xs ys weaker (k, x, within, there, holds) = (
  k,
  x,
  omega (arith, within, length-append xs ys),
  get_or_append_left xs ys x k within ∙ there,
  weaker x holds,
)

-- ---- an entry is due

-- Of two numbers, one is far from the other.
far_by : (a b c d : ℕ) → (nat_le 64 (b - a) || nat_le 32768 (d - c)) ≡ true → (a + 64 ≤ b) ⊎ (c + 32768 ≤ d)
far_by a b c d far =
    elim (cases_lt b (a + 64)) [
      | inl near ↦ inr (let test : nat_le 64 (b - a) ≡ false = grind (arith, nat_tests, near) in
          grind (arith, nat_tests, test, far))
      | inr far ↦ inl far
    ]

apart_next : (index : IndexState) (lengths : List ℕ) (last : Entry) → Indexes index lengths →
    IsEntry index.layout lengths last → is_due (Some last) (next_entry index) ≡ true → AreApart last (next_entry index)
apart_next index lengths last is right due = record {
  later = omega (arith, right.last, is.counted);
  far = far_by last.number (index.count + 1) last.offset index.end due;
}

-- The last entry is an element.
last_is : (entries : List Entry) (k : ℕ) (d : Entry) → k + 1 ≡ length entries → last_of entries ≡ Some (get_or entries k d)
last_is entries k d last =
    let at : length entries - 1 ≡ k = omega (arith, last) in
    ap (slice_get entries) at ∙ slice_get-get_or entries k d (omega (arith, last))

apart_more : (index : IndexState) (lengths : List ℕ) → Indexes index lengths →
    is_due (last_of index.entries) (next_entry index) ≡ true →
    AllAdjacentBelow AreApart (index.entries ++ next_entry index ∷ []) (length (index.entries ++ next_entry index ∷ []))
apart_more index lengths is due k d within =
    let es = index.entries in
    let next = next_entry index in
    let here : get_or (es ++ next ∷ []) k d ≡ get_or es k d =
    get_or_append_left es (next ∷ []) d k (omega (arith, within, length_push es next)) in
    elim (cases_lt (k + 1) (length es)) [
      | inl inside ↦
          let after : get_or (es ++ next ∷ []) (k + 1) d ≡ get_or es (k + 1) d =
          get_or_append_left es (next ∷ []) d (k + 1) inside in
          rw (here, after) (is.apart k d inside)
      | inr past ↦
          let last : k + 1 ≡ length es = omega (arith, past, within, length_push es next) in
          let after : get_or (es ++ next ∷ []) (k + 1) d ≡ next = get_or_at es next [] d (k + 1) (sym last) in
          let one = last_is es k d last in
          rw (here, after)
          (apart_next index lengths (get_or es k d) is (is.each k d (omega (arith, last)))
          (subst (λ (o : Option Entry). is_due o next ≡ true) one due))
    ]

near_new : (index : IndexState) (lengths : List ℕ) (len : ℕ) → Indexes index lengths →
    IsNear index.layout (lengths ++ len ∷ []) (length lengths + 1) (next_entry index)
near_new index lengths len is = record {
  before = omega (arith, is.counted);
  few = omega (arith, is.counted);
  close = omega (arith, next_begins index lengths len is);
}

-- What holds of the messages before, and of the new one, holds of all.
near_all : (index : IndexState) (lengths : List ℕ) (len : ℕ) (more : List Entry) → Indexes index lengths →
    Any (IsNear index.layout (lengths ++ len ∷ []) (length lengths + 1)) (index.entries ++ more) →
    (number : ℕ) → 1 ≤ number → number ≤ length (lengths ++ len ∷ []) →
    Any (IsNear index.layout (lengths ++ len ∷ []) number) (index.entries ++ more)
near_all index lengths len more is new number first last =
    elim (cases_lt number (length lengths + 1)) [
      | inl before ↦
          any_longer (IsNear index.layout lengths number) (IsNear index.layout (lengths ++ len ∷ []) number)
          index.entries more
          (λ entry near. near_stays index.layout lengths len number entry (omega (arith, before)) near)
          (is.near number first (omega (arith, before)))
      | inr past ↦
          let at : length lengths + 1 ≡ number = omega (arith, past, last, length_push lengths len) in
          subst (λ (n : ℕ). Any (IsNear index.layout (lengths ++ len ∷ []) n) (index.entries ++ more)) at new
    ]

pub indexes_due : (index : IndexState) (lengths : List ℕ) (len : ℕ) → Indexes index lengths →
    is_due (last_of index.entries) (next_entry index) ≡ true →
    Indexes (grown index len (index.entries ++ next_entry index ∷ [])) (lengths ++ len ∷ [])
indexes_due index lengths len is due = record {
  counted = omega (arith, is.counted, length_push lengths len);
  ends = ap (λ (n : ℕ). n + (index.layout.overhead + len)) is.ends ∙ sym (end-push index.layout lengths len);
  each = All-push (IsEntry index.layout (lengths ++ len ∷ [])) index.entries (next_entry index)
      (All-weaker (IsEntry index.layout lengths) (IsEntry index.layout (lengths ++ len ∷ []))
      (entry_stays index.layout lengths len) index.entries is.each)
      (next_right index lengths len is);
  apart = apart_more index lengths is due;
  near = near_all index lengths len (next_entry index ∷ []) is
      (Any-push (IsNear index.layout (lengths ++ len ∷ []) (length lengths + 1)) index.entries (next_entry index)
      (near_new index lengths len is));
}

-- ---- no entry is due

not_far : (a b c d : ℕ) → (nat_le 64 (b - a) || nat_le 32768 (d - c)) ≡ false → (b < a + 64) × (d < c + 32768)
not_far a b c d near = (
  (elim (cases_lt b (a + 64)) [
    | inl below ↦ below
    | inr past ↦ absurd (let test : nat_le 64 (b - a) ≡ true = grind (arith, nat_tests, past) in
        grind (arith, test, near))
  ]),
  (elim (cases_lt d (c + 32768)) [
    | inl below ↦ below
    | inr past ↦ absurd (let test : nat_le 32768 (d - c) ≡ true = grind (arith, nat_tests, past) in
        grind (arith, test, near))
  ]),
)

near_last : (index : IndexState) (lengths : List ℕ) (len : ℕ) → Indexes index lengths → (last : Option Entry) →
    last_of index.entries ≡ last → is_due last (next_entry index) ≡ false →
    Any (IsNear index.layout (lengths ++ len ∷ []) (length lengths + 1)) index.entries
near_last index lengths len is None there near = absurd (true≢false near)
near_last index lengths len is (Some last) there near =
    let within = slice_get_within index.entries (length index.entries - 1) last there in
    let at : get_or index.entries (length index.entries - 1) last ≡ last =
    get_or_from_slice_get index.entries (length index.entries - 1) last last there in
    let right : IsEntry index.layout lengths last =
    subst (IsEntry index.layout lengths) at (is.each (length index.entries - 1) last within) in
    let close = not_far last.number (index.count + 1) last.offset index.end near in (
      length index.entries - 1,
      last,
      within,
      at,
      record {
        before = omega (arith, right.last);
        few = omega (arith, close.0, is.counted);
        close = omega (arith, close.1, next_begins index lengths len is);
      },
    )

pub indexes_not_due : (index : IndexState) (lengths : List ℕ) (len : ℕ) → Indexes index lengths →
    is_due (last_of index.entries) (next_entry index) ≡ false → Indexes (grown index len index.entries) (lengths ++ len ∷ [])
indexes_not_due index lengths len is near = record {
  counted = omega (arith, is.counted, length_push lengths len);
  ends = ap (λ (n : ℕ). n + (index.layout.overhead + len)) is.ends ∙ sym (end-push index.layout lengths len);
  each = All-weaker (IsEntry index.layout lengths) (IsEntry index.layout (lengths ++ len ∷ []))
      (entry_stays index.layout lengths len) index.entries is.each;
  apart = is.apart;
  near = λ number first last.
      subst (Any (IsNear index.layout (lengths ++ len ∷ []) number)) (append-nil index.entries)
      (near_all index lengths len [] is
      (subst (Any (IsNear index.layout (lengths ++ len ∷ []) (length lengths + 1))) (sym (append-nil index.entries))
      (near_last index lengths len is (last_of index.entries) refl near))
      number first last);
}

-- ---- both

indexes_by : (index : IndexState) (lengths : List ℕ) (len : ℕ) → Indexes index lengths → (due : Bool) →
    is_due (last_of index.entries) (next_entry index) ≡ due →
    Indexes (grown index len (cond due (index.entries ++ next_entry index ∷ []) index.entries)) (lengths ++ len ∷ [])
indexes_by index lengths len is true due = indexes_due index lengths len is due
indexes_by index lengths len is false near = indexes_not_due index lengths len is near

pub indexes_pushed : (index : IndexState) (lengths : List ℕ) (len : ℕ) → Indexes index lengths →
    Indexes (grown index len (with_entry index.entries (next_entry index))) (lengths ++ len ∷ [])
indexes_pushed index lengths len is =
    indexes_by index lengths len is (is_due (last_of index.entries) (next_entry index)) refl

pub indexes_as : (index : IndexState) (lengths : List ℕ) (len end : ℕ) (entries : List Entry) → Indexes index lengths →
    end ≡ index.end + (index.layout.overhead + len) → entries ≡ with_entry index.entries (next_entry index) →
    Indexes (record { layout = index.layout; count = index.count + 1; end = end; entries = entries })
    (lengths ++ len ∷ [])
indexes_as index lengths len end entries is ends same = rw (ends, same) (indexes_pushed index lengths len is)

-- ---- without a check

-- The room has a message that follows `count` messages and begins at offset `end`.
abbrev pub IsInRoom : Room → ℕ → ℕ → Type 0
IsInRoom room count end = (count < room.count) × (end < room.end)

pub room_has : (room : Room) (count end : ℕ) → has_room room count end ≡ true → IsInRoom room count end
room_has room count end has = (
  (elim (cases_lt count room.count) [
    | inl below ↦ below
    | inr past ↦ absurd (let test : nat_lt count room.count ≡ false = grind (arith, nat_tests, past) in
        grind (arith, test, has))
  ]),
  (elim (cases_lt end room.end) [
    | inl below ↦ below
    | inr past ↦ absurd (let test : nat_lt end room.end ≡ false = grind (arith, nat_tests, past) in
        grind (arith, test, has))
  ]),
)

pub indexes_within : (index : IndexState) (room : Room) (lengths : List ℕ) (len end : ℕ) → Indexes index lengths →
    end ≡ index.end + (index.layout.overhead + len) → IsRoom index.entries room → IsInRoom room index.count index.end →
    Indexes (record { layout = index.layout; count = index.count + 1; end = end; entries = index.entries })
    (lengths ++ len ∷ [])
indexes_within index room lengths len end is ends free within =
    rw ends (indexes_not_due index lengths len is (free.near index.count index.end within.0 within.1))

-- ---- several messages

pub appends_none : (index : IndexState) → Appends index index []
appends_none index = record {
  layout = refl;
  indexes = λ before indexes. subst (Indexes index) (sym (append-nil before)) indexes;
}
