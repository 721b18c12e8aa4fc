-- The stored messages bound the memory of the segments.
use Rattle.std.proofs.Common.{◌≡◌, ℕ, zero, suc, ◌+◌, ◌*◌, ◌<◌, ◌≤◌, Bool, cond, List, [], ◌∷◌, length}
use Rattle.std.proofs.Common.{length-take, refl, sym, ap, subst, ◌∙◌, inl, inr, arith}
use Rattle.std.specs.Prelude.{Option, None, Some, slice_index_or, vec_capacity}
use Rattle.std.specs.FinMap as finite
use Rattle.std.specs.FinMap.Entries.{by_order, put}
use Rattle.std.proofs.Common.{nat_cmp}
use Rattle.std.specs.Cmp.{nat_cmp_is, nat_cmp_total}
use Rattle.std.specs.declared.cmp.Ordering.{Ordering}
use Rattle.std.specs.declared.cmp.Ordering.TheVariants.{Less}
use Rattle.std.proofs.lemmas.Bool.{cases_eq, eq-eqb, ne_eqb}
use Rattle.slab.specs.Slab.{entries_from}
use Rattle.mold_receiver.specs.declared.place.Place.{Place}
use Rattle.mold_receiver.specs.declared.segment.Segment.{Segment}
use Rattle.mold_receiver.specs.declared.segment.TheConstants.{SEGMENT_BYTES}
use Rattle.mold_receiver.specs.declared.segments.Segments.{Segments}
use Rattle.mold_receiver.specs.declared.shelf.Shelf.{Shelf}
use Rattle.mold_receiver.specs.Segments.{bytes_of, count_at, memory_of, room_at}
use Rattle.mold_receiver.specs.Places.{place_at}
use Rattle.mold_receiver.specs.Shelf.{IsKept, slots_in, slots_on}
use Rattle.mold_receiver.specs.Slots.{Slot, slot_entries, slots_bytes, store_of}
use Rattle.mold_receiver.specs.Store.{Message, entry_bytes, stored_bytes}
use Rattle.mold_receiver.specs.Tight.{IsTight, block_length, length_in, length_of}
use Rattle.mold_receiver.proofs.SumLemmas.{sum_both, sum_from, sum_zero}

-- The number at one key is counted once at most.
weight_past : (key weight at count : ℕ) → key < at → sum_from (count_at key weight) at count ≡ 0
weight_past key weight at zero past = refl
weight_past key weight at (suc count) past =
    omega (
      arith,
      ap {B = ℕ} (λ (b : Bool). cond b weight 0) (ne_eqb key at (λ e. omega (arith, e, past))),
      weight_past key weight (at + 1) count (omega (arith, past)),
    )

pub weight_once : (key weight at count : ℕ) → sum_from (count_at key weight) at count ≤ weight
weight_once key weight at zero = omega arith
weight_once key weight at (suc count) =
    elim (cases_eq key at) [
      | inl same ↦
          omega (
            arith,
            ap {B = ℕ} (λ (b : Bool). cond b weight 0) (eq-eqb key at same),
            weight_past key weight (at + 1) count (omega (arith, same)),
          )
      | inr other ↦
          omega (
            arith,
            ap {B = ℕ} (λ (b : Bool). cond b weight 0) (ne_eqb key at other),
            weight_once key weight (at + 1) count,
          )
    ]

-- The blocks at these places.
abbrev total_length : Segments → List (Option Place) → ℕ
total_length segments [] = 0
total_length segments (None ∷ places) = total_length segments places
total_length segments (Some place ∷ places) = block_length segments place + total_length segments places

pub sum_lengths : (segments : Segments) (places : List (Option Place)) (at count : ℕ) →
    sum_from (λ key. length_in segments key places) at count ≤ total_length segments places
sum_lengths segments [] at count = omega (arith, sum_zero at count)
sum_lengths segments (None ∷ places) at count = sum_lengths segments places at count
sum_lengths segments (Some place ∷ places) at count =
    omega (
      arith,
      sum_both (λ key. length_of segments key place) (λ key. length_in segments key places) at count,
      weight_once place.segment (block_length segments place) at count,
      sum_lengths segments places at count,
    )

-- The memory of the segments, by a bound for each key.
memory_sum : (f : ℕ → ℕ) (at : ℕ) (slots : List (Option Segment))
    → ((i : ℕ) (segment : Segment) → slice_index_or slots i None ≡ Some segment →
    vec_capacity segment.bytes ≤ f (at + i))
    → memory_of (entries_from at slots) ≤ sum_from f at (length slots)
memory_sum f at [] each = omega arith
memory_sum f at (None ∷ slots) each =
    omega (
      arith,
      memory_sum f (at + 1) slots (λ i s is.
          let next : at + suc i ≡ at + 1 + i = omega arith in
          subst (λ (n : ℕ). vec_capacity s.bytes ≤ f n) next (each (suc i) s is)),
    )
memory_sum f at (Some segment ∷ slots) each =
    let here : at + 0 ≡ at = omega arith in
    omega (
      arith,
      subst (λ (n : ℕ). vec_capacity segment.bytes ≤ f n) here (each 0 segment refl),
      memory_sum f (at + 1) slots (λ i s is.
          let next : at + suc i ≡ at + 1 + i = omega arith in
          subst (λ (n : ℕ). vec_capacity s.bytes ≤ f n) next (each (suc i) s is)),
    )

-- One segment at most is roomy.
room_once : (roomy : Option ℕ) (at count : ℕ) → sum_from (room_at roomy) at count ≤ SEGMENT_BYTES
room_once None at count = omega (arith, sum_zero at count)
room_once (Some key) at count = weight_once key SEGMENT_BYTES at count

pub slots_total : (segments : Segments) (places : List (Option Place)) →
    total_length segments places ≡ slots_bytes (slots_in segments places)
slots_total segments [] = refl
slots_total segments (None ∷ places) = slots_total segments places
slots_total segments (Some place ∷ places) = omega (arith, slots_total segments places)

-- A message with a lower number is the first one.
put_first : (slots : List Slot) (key number : ℕ) (m : Message) → key < number →
    put nat_cmp key m (slot_entries number slots) ≡ (key, m) ∷ slot_entries number slots
put_first [] key number m low = refl
put_first (None ∷ slots) key number m low = put_first slots key (suc number) m (omega (arith, low))
put_first (Some x ∷ slots) key number m low =
    ap (λ (o : Ordering). by_order o ((key, m) ∷ (number, x) ∷ slot_entries (suc number) slots)
    ((number, m) ∷ slot_entries (suc number) slots) ((number, x) ∷ put nat_cmp key m (slot_entries (suc number) slots)))
    (sym (nat_cmp_is key number Less low))

no_items : {X : Type 0} (xs : List X) → length xs ≡ 0 → xs ≡ []
no_items [] none = refl
no_items (x ∷ xs) none = absurd (omega (arith, none))

entries_slots : (number : ℕ) (slots : List Slot) → finite.entries (store_of number slots) ≡ slot_entries number slots
entries_slots number [] =
    no_items (finite.entries (store_of number []))
    (sym (finite.len-entries (store_of number [])) ∙ finite.len-empty nat_cmp Message)
entries_slots number (None ∷ slots) = entries_slots (suc number) slots
entries_slots number (Some m ∷ slots) =
    finite.entries-insert nat_cmp_total (store_of (suc number) slots) number m
    ∙ ap (put nat_cmp number m) (entries_slots (suc number) slots)
    ∙ put_first slots number (suc number) m (omega arith)

entry_slots : (number : ℕ) (slots : List Slot) → entry_bytes (slot_entries number slots) ≡ slots_bytes slots
entry_slots number [] = refl
entry_slots number (None ∷ slots) = entry_slots (suc number) slots
entry_slots number (Some m ∷ slots) = omega (arith, entry_slots (suc number) slots)

-- The stored messages are those in the slots.
pub bytes_slots : (number : ℕ) (slots : List Slot) → stored_bytes (store_of number slots) ≡ slots_bytes slots
bytes_slots number slots = ap entry_bytes (entries_slots number slots) ∙ entry_slots number slots

pub memory_bound : (shelf : Shelf) → IsKept shelf → IsTight shelf →
    memory_of (entries_from 0 shelf.segments.table.slots) ≤ SEGMENT_BYTES + 2 * slots_bytes (slots_on shelf)
memory_bound shelf kept tight =
    let table = shelf.segments.table in
    let places = shelf.ring in
    let f : ℕ → ℕ = λ key. length_in shelf.segments key places in
    let g : ℕ → ℕ = λ key. f key + f key in
    let room : ℕ → ℕ = room_at shelf.segments.roomy in
    let each : (i : ℕ) (segment : Segment) → slice_index_or table.slots i None ≡ Some segment →
    vec_capacity segment.bytes ≤ g (0 + i) + room (0 + i) =
    λ i segment is.
    let key : 0 + i ≡ i = omega arith in
    let some = kept.segments.each i segment is in
    subst (λ (n : ℕ). vec_capacity segment.bytes ≤ g n + room n) (sym key)
    (omega (
      arith,
      tight.exact i,
      ap (λ (o : Option Segment). length (bytes_of o)) is,
      length-take segment.used segment.bytes.items,
      some.used,
      some.exact,
      kept.segments.size i segment is,
    )) in
    omega (
      arith,
      memory_sum (λ key. g key + room key) 0 table.slots each,
      sum_both g room 0 (length table.slots),
      sum_both f f 0 (length table.slots),
      room_once shelf.segments.roomy 0 (length table.slots),
      sum_lengths shelf.segments places 0 (length table.slots),
      slots_total shelf.segments places,
    )

-- The number at one key is counted once if the key is among these.
weight_there : (key weight at count : ℕ) → at ≤ key → key < at + count →
    weight ≤ sum_from (count_at key weight) at count
weight_there key weight at zero low high = absurd (omega (arith, low, high))
weight_there key weight at (suc count) low high =
    elim (cases_eq key at) [
      | inl same ↦ omega (arith, ap {B = ℕ} (λ (b : Bool). cond b weight 0) (eq-eqb key at same))
      | inr other ↦
          omega (arith, weight_there key weight (at + 1) count (omega (arith, low, other)) (omega (arith, high)))
    ]

-- All blocks are counted if the keys of their places are among these.
pub lengths_sum : (segments : Segments) (places : List (Option Place)) (count : ℕ)
    → ((i : ℕ) (place : Place) → place_at places i ≡ Some place → place.segment < count)
    → total_length segments places ≤ sum_from (λ key. length_in segments key places) 0 count
lengths_sum segments [] count keys = omega (arith, sum_zero 0 count)
lengths_sum segments (None ∷ places) count keys = lengths_sum segments places count (λ i p is. keys (suc i) p is)
lengths_sum segments (Some place ∷ places) count keys =
    omega (
      arith,
      sum_both (λ key. length_of segments key place) (λ key. length_in segments key places) 0 count,
      weight_there place.segment (block_length segments place) 0 count (omega arith)
          (omega (arith, keys 0 place refl)),
      lengths_sum segments places count (λ i p is. keys (suc i) p is),
    )

-- The memory of the segments, by a lower bound for each key.
memory_least : (f : ℕ → ℕ) (at : ℕ) (slots : List (Option Segment))
    → ((i : ℕ) → i < length slots → slice_index_or slots i None ≡ None → f (at + i) ≡ 0)
    → ((i : ℕ) (segment : Segment) → slice_index_or slots i None ≡ Some segment →
    f (at + i) ≤ vec_capacity segment.bytes)
    → sum_from f at (length slots) ≤ memory_of (entries_from at slots)
memory_least f at [] none each = omega arith
memory_least f at (None ∷ slots) none each =
    let here : at + 0 ≡ at = omega arith in
    let next : (i : ℕ) → at + suc i ≡ at + 1 + i = λ i. omega arith in
    omega (
      arith,
      subst (λ (n : ℕ). f n ≡ 0) here (none 0 (omega arith) refl),
      memory_least f (at + 1) slots
          (λ i low is. subst (λ (n : ℕ). f n ≡ 0) (next i) (none (suc i) (omega (arith, low)) is))
          (λ i s is. subst (λ (n : ℕ). f n ≤ vec_capacity s.bytes) (next i) (each (suc i) s is)),
    )
memory_least f at (Some segment ∷ slots) none each =
    let here : at + 0 ≡ at = omega arith in
    let next : (i : ℕ) → at + suc i ≡ at + 1 + i = λ i. omega arith in
    omega (
      arith,
      subst (λ (n : ℕ). f n ≤ vec_capacity segment.bytes) here (each 0 segment refl),
      memory_least f (at + 1) slots
          (λ i low is. subst (λ (n : ℕ). f n ≡ 0) (next i) (none (suc i) (omega (arith, low)) is))
          (λ i s is. subst (λ (n : ℕ). f n ≤ vec_capacity s.bytes) (next i) (each (suc i) s is)),
    )

-- A key of a place is one of the table.
pub key_there : (slots : List (Option Segment)) (key : ℕ) → 0 < length (bytes_of (slice_index_or slots key None)) →
    key < length slots
key_there [] key some = absurd (omega (arith, some))
key_there (slot ∷ slots) zero some = omega arith
key_there (slot ∷ slots) (suc key) some = omega (arith, key_there slots key some)

-- The segments have the stored messages.
pub memory_covers : (shelf : Shelf) → IsKept shelf → IsTight shelf →
    slots_bytes (slots_on shelf) ≤ memory_of (entries_from 0 shelf.segments.table.slots)
memory_covers shelf kept tight =
    let table = shelf.segments.table in
    let places = shelf.ring in
    let f : ℕ → ℕ = λ key. length_in shelf.segments key places in
    let none : (i : ℕ) → i < length table.slots → slice_index_or table.slots i None ≡ None → f (0 + i) ≡ 0 =
    λ i low is.
    let key : 0 + i ≡ i = omega arith in
    subst (λ (n : ℕ). f n ≡ 0) (sym key)
    (omega (arith, tight.exact i, ap (λ (o : Option Segment). length (bytes_of o)) is)) in
    let each : (i : ℕ) (segment : Segment) → slice_index_or table.slots i None ≡ Some segment →
    f (0 + i) ≤ vec_capacity segment.bytes =
    λ i segment is.
    let key : 0 + i ≡ i = omega arith in
    let some = kept.segments.each i segment is in
    subst (λ (n : ℕ). f n ≤ vec_capacity segment.bytes) (sym key)
    (omega (
      arith,
      tight.exact i,
      ap (λ (o : Option Segment). length (bytes_of o)) is,
      length-take segment.used segment.bytes.items,
      some.used,
      segment.bytes.ok.0,
      segment.bytes.ok.1,
    )) in
    let keys : (i : ℕ) (place : Place) → place_at places i ≡ Some place → place.segment < length table.slots =
    λ i place is.
    key_there table.slots place.segment (omega (arith, kept.within i place is)) in
    omega (
      arith,
      memory_least f 0 table.slots none each,
      lengths_sum shelf.segments places (length table.slots) keys,
      slots_total shelf.segments places,
    )
