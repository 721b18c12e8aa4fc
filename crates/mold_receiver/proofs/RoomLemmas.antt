-- The room of the store: which messages are dropped, and how many bytes are stored.
use Rattle.std.proofs.Common.{◌≡◌, ℕ, zero, suc, ◌+◌, ◌-◌, ◌<◌, ◌≤◌, ◌⊎◌, Bool, true, false, cond, leb, ltb, ◌&&◌, List, []}
use Rattle.std.proofs.Common.{◌∷◌, length, length-append, refl, sym, ap, subst, ◌∙◌, inl, inr, arith}
use Rattle.std.specs.Prelude.{Option, None, Some, slice_get}
use Rattle.std.specs.FinMap as finite
use Rattle.std.specs.Option.{option_or}
use Rattle.std.proofs.lemmas.Bool.{and_left, and_right, cases_Bool, cases_lt, cases_order, cond-false, cond-true}
use Rattle.std.proofs.lemmas.Bool.{eq-eqb, le-leb, le-ltb, lt-ltb}
use Rattle.mold_wire.specs.Block.{blocks}
use Rattle.mold_wire.specs.Header.{header_bytes}
use Rattle.mold_wire.specs.Packet.{Spells, count_of, messages_of}
use Rattle.mold_wire.specs.Truth.{message_at}
use Rattle.mold_wire.specs.declared.packet.Packet.{Packet}
use Rattle.mold_receiver.specs.Receive.{exceeds, is_dropped, undropped}
use Rattle.mold_receiver.specs.Segments.{count_at}
use Rattle.mold_receiver.specs.Slots.{Slot, slot_at, slots_bytes, store_of}
use Rattle.mold_receiver.specs.Store.{Message, Store, available, cut, stored_bytes}
use Rattle.mold_receiver.specs.View.{IsWellFormed, IsWithinRoom, View}
use Rattle.mold_receiver.proofs.RuleLemmas.{available_below, available_from, message_below, message_past, message_within}
use Rattle.mold_receiver.proofs.RuleLemmas.{none_unless}
use Rattle.mold_receiver.proofs.SizeLemmas.{bytes_slots, weight_once}
use Rattle.mold_receiver.proofs.SlotLemmas.{get-slots, slot_past}
use Rattle.mold_receiver.proofs.StoreLemmas.{get-cut, none_some, same_store}
use Rattle.mold_receiver.proofs.SumLemmas.{sum_both, sum_from, sum_none}
use Rattle.mold_receiver.proofs.TightLemmas.{blocks_length}

pub within_less : (room : Option ℕ) (more less : ℕ) → less ≤ more → IsWithinRoom room more → IsWithinRoom room less
within_less None more less low is = tt
within_less (Some room) more less low is = (is.0, omega (arith, is.1, low))

-- A packet that isn't dropped keeps its messages.
pub undropped_all : (v : View) (p : Packet) → is_dropped v p ≡ false → undropped v p ≡ messages_of p.body
undropped_all v p kept = cond-false (is_dropped v p) [] (messages_of p.body) kept

pub undropped_cases : (v : View) (p : Packet) → (undropped v p ≡ messages_of p.body) ⊎ (undropped v p ≡ [])
undropped_cases v p =
    elim (cases_Bool (is_dropped v p)) [
      | inl dropped ↦ inr (cond-true (is_dropped v p) [] (messages_of p.body) dropped)
      | inr kept ↦ inl (undropped_all v p kept)
    ]

-- A packet that doesn't begin above `next` is not dropped.
pub begun_kept : (v : View) (p : Packet) → p.sequence ≤ v.next → is_dropped v p ≡ false
begun_kept v p begun =
    and_left (ltb v.next p.sequence) (exceeds v.room (stored_bytes v.store + length (blocks (messages_of p.body))))
    (le-ltb v.next p.sequence begun)

pub whole_kept : (v : View) (p : Packet) → v.room ≡ None → is_dropped v p ≡ false
whole_kept v p whole =
    let bytes : ℕ = stored_bytes v.store + length (blocks (messages_of p.body)) in
    and_right (ltb v.next p.sequence) (exceeds v.room bytes) (ap (λ (room : Option ℕ). exceeds room bytes) whole)

no_bytes : stored_bytes finite.empty ≡ 0
no_bytes = bytes_slots 0 []

small_fits : (room : Option ℕ) (bytes : ℕ) → IsWithinRoom room 0 → bytes ≤ 65507 → exceeds room bytes ≡ false
small_fits None bytes is low = refl
small_fits (Some room) bytes is low = le-ltb room bytes (omega (arith, is.0, low))

-- An empty store has room for a datagram.
pub empty_kept : (v : View) (p : Packet) (bytes : List ℕ) → IsWellFormed v → v.store ≡ finite.empty → Spells p bytes →
    length bytes ≤ 65507 → is_dropped v p ≡ false
empty_kept v p bytes well empty spells low =
    let ms = messages_of p.body in
    let header : List ℕ = header_bytes p.session.0 p.sequence (count_of p.body) in
    and_right (ltb v.next p.sequence) (exceeds v.room (stored_bytes v.store + length (blocks ms)))
    (small_fits v.room (stored_bytes v.store + length (blocks ms)) (within_less v.room (stored_bytes v.store) 0
    (omega arith) well.bounded)
    (omega (
      arith,
      ap stored_bytes empty,
      no_bytes,
      low,
      ap (λ (t : List ℕ). length t) spells.spelled,
      length-append header (blocks ms),
    )))

pub no_message : (n q : ℕ) → message_at n [] q ≡ None
no_message n q =
    elim (cases_lt q n) [
      | inl below ↦ message_below n [] q below
      | inr above ↦ message_past n [] q (omega (arith, above))
    ]

-- Each message that isn't dropped is the packet's.
pub undropped_is : (v : View) (p : Packet) (q : ℕ) (m : Message) → message_at p.sequence (undropped v p) q ≡ Some m →
    message_at p.sequence (messages_of p.body) q ≡ Some m
undropped_is v p q m is =
    elim (undropped_cases v p) [
      | inl all ↦ subst (λ (t : List Message). message_at p.sequence t q ≡ Some m) all is
      | inr none ↦ absurd (none_some (sym (no_message p.sequence q)
          ∙ ap (λ (t : List Message). message_at p.sequence t q) (sym none) ∙ is))
    ]

pub undropped_none : (v : View) (p : Packet) (q : ℕ) → message_at p.sequence (messages_of p.body) q ≡ None →
    message_at p.sequence (undropped v p) q ≡ None
undropped_none v p q none =
    none_unless (message_at p.sequence (undropped v p) q) (λ m is.
    none_some (sym none ∙ undropped_is v p q m is))

pub undropped_short : (v : View) (p : Packet) → length (undropped v p) ≤ length (messages_of p.body)
undropped_short v p =
    elim (undropped_cases v p) [
      | inl all ↦ (let e = ap (λ (t : List Message). length t) all in omega (arith, e))
      | inr none ↦ (let e = ap (λ (t : List Message). length t) none in omega (arith, e))
    ]

-- The bytes of a slot's block.
abbrev weight : Option Message → ℕ
weight None = 0
weight (Some m) = 2 + length m

-- The slots with the messages of a store.
abbrev table : (ℕ → Option Message) → ℕ → ℕ → List Slot
table look at zero = []
table look at (suc count) = look at ∷ table look (at + 1) count

table_length : (look : ℕ → Option Message) (at count : ℕ) → length (table look at count) ≡ count
table_length look at zero = refl
table_length look at (suc count) = omega (arith, table_length look (at + 1) count)

table_slot : (look : ℕ → Option Message) (at count i : ℕ) → i < count → slot_at (table look at count) i ≡ look (at + i)
table_slot look at zero i below = absurd (omega (arith, below))
table_slot look at (suc count) zero below = (let e : at ≡ at + 0 = omega arith in ap look e)
table_slot look at (suc count) (suc i) below =
    let e : at + 1 + i ≡ at + suc i = omega arith in
    table_slot look (at + 1) count i (omega (arith, below)) ∙ ap look e

slots_cons : (o : Option Message) (slots : List Slot) → slots_bytes (o ∷ slots) ≡ weight o + slots_bytes slots
slots_cons None slots = omega arith
slots_cons (Some m) slots = omega arith

table_bytes : (look : ℕ → Option Message) (at count : ℕ) →
    slots_bytes (table look at count) ≡ sum_from (λ q. weight (look q)) at count
table_bytes look at zero = refl
table_bytes look at (suc count) =
    omega (arith, slots_cons (look at) (table look (at + 1) count), table_bytes look (at + 1) count)

-- The bytes of a store, as a sum over its numbers.
stored_sum : (s : Store) (count : ℕ) → ((q : ℕ) (m : Message) → finite.get s q ≡ Some m → q < count) →
    stored_bytes s ≡ sum_from (λ q. weight (finite.get s q)) 0 count
stored_sum s count below =
    let slots = table (finite.get s) 0 count in
    let same : store_of 0 slots ≡ s = same_store (store_of 0 slots) s (λ q.
    let zero_less : q - 0 ≡ q = omega arith in
    let plus : 0 + q ≡ q = omega arith in
    get-slots 0 slots q ∙ cond-true (leb 0 q) (slot_at slots (q - 0)) None (le-leb 0 q (omega arith))
    ∙ ap (slot_at slots) zero_less
    ∙ elim (cases_lt q count) [
      | inl inside ↦ table_slot (finite.get s) 0 count q inside ∙ ap (finite.get s) plus
      | inr past ↦
          slot_past slots q (omega (arith, past, table_length (finite.get s) 0 count))
          ∙ sym (none_unless (finite.get s q) (λ m is. omega (arith, past, below q m is)))
    ]) in
    ap stored_bytes (sym same) ∙ bytes_slots 0 slots ∙ table_bytes (finite.get s) 0 count

sum_less : (f g : ℕ → ℕ) (at count : ℕ) → ((k : ℕ) → f k ≤ g k) → sum_from f at count ≤ sum_from g at count
sum_less f g at zero less = omega arith
sum_less f g at (suc count) less = omega (arith, less at, sum_less f g (at + 1) count less)

-- The messages of a packet weigh at most as much as its blocks.
message_weight : (n : ℕ) (m : Message) (ms : List Message) (q : ℕ) →
    weight (message_at n (m ∷ ms) q) ≤ count_at n (2 + length m) q + weight (message_at (suc n) ms q)
message_weight n m ms q =
    elim (cases_order q n) [
      | inl same ↦
          let here : message_at n (m ∷ ms) q ≡ Some m =
          message_within n (m ∷ ms) q (omega (arith, same))
          ∙ ap (slice_get (m ∷ ms)) (let e : q - n ≡ 0 = omega (arith, same) in e) in
          omega (
            arith,
            ap weight here,
            ap {B = ℕ} (λ (b : Bool). cond b (2 + length m) 0) (eq-eqb n q (sym same)),
          )
      | inr (inl below) ↦ omega (arith, ap weight (message_below n (m ∷ ms) q below))
      | inr (inr above) ↦
          let later : message_at n (m ∷ ms) q ≡ message_at (suc n) ms q =
          message_within n (m ∷ ms) q (omega (arith, above))
          ∙ ap (slice_get (m ∷ ms)) (let e : q - n ≡ suc (q - suc n) = omega (arith, above) in e)
          ∙ sym (message_within (suc n) ms q (omega (arith, above))) in
          omega (arith, ap weight later)
    ]

message_sum : (n : ℕ) (ms : List Message) (count : ℕ) →
    sum_from (λ q. weight (message_at n ms q)) 0 count ≤ length (blocks ms)
message_sum n [] count =
    omega (arith, sum_none (λ q. weight (message_at n [] q)) 0 count (λ i. ap weight (no_message n (0 + i))))
message_sum n (m ∷ ms) count =
    omega (
      arith,
      sum_less (λ q. weight (message_at n (m ∷ ms) q)) (λ q. count_at n (2 + length m) q + weight (message_at (suc n) ms q)) 0
          count (message_weight n m ms),
      sum_both (count_at n (2 + length m)) (λ q. weight (message_at (suc n) ms q)) 0 count,
      weight_once n (2 + length m) 0 count,
      message_sum (suc n) ms count,
      blocks_length m ms,
    )

-- Where a new store gets a message: from the old one, or from a packet.
abbrev pub AreFrom : Store → Store → ℕ → List Message → Type 0
AreFrom old new n ms = (q : ℕ) → (finite.get new q ≡ None) ⊎ ((finite.get new q ≡ finite.get old q)
    ⊎ (finite.get new q ≡ message_at n ms q))

-- A new store has at most the bytes of the old one and of the packet's blocks.
pub stored_more : (old new : Store) (n : ℕ) (ms : List Message) (count : ℕ)
    → ((q : ℕ) (m : Message) → finite.get old q ≡ Some m → q < count)
    → ((q : ℕ) (m : Message) → finite.get new q ≡ Some m → q < count) → AreFrom old new n ms
    → stored_bytes new ≤ stored_bytes old + length (blocks ms)
stored_more old new n ms count low high are =
    let f : ℕ → ℕ = λ q. weight (finite.get old q) in
    let g : ℕ → ℕ = λ q. weight (message_at n ms q) in
    omega (
      arith,
      stored_sum old count low,
      stored_sum new count high,
      sum_less (λ q. weight (finite.get new q)) (λ q. f q + g q) 0 count (λ q.
          elim (are q) [
            | inl none ↦ omega (arith, ap weight none)
            | inr (inl same) ↦ omega (arith, ap weight same)
            | inr (inr more) ↦ omega (arith, ap weight more)
          ]),
      sum_both f g 0 count,
      message_sum n ms count,
    )

-- What is available, and what is kept of it.
available_from_either : (s : Store) (next n : ℕ) (ms : List Message) → AreFrom s (available s next n ms) n ms
available_from_either s next n ms q =
    elim (cases_lt q next) [
      | inl below ↦ inr (inl (available_below s next n ms q below))
      | inr from ↦ either (message_at n ms q) (finite.get s q) (finite.get (available s next n ms) q)
          (available_from s next n ms q from)
    ]
  where
    either : (o p r : Option Message) → r ≡ option_or o p → (r ≡ None) ⊎ ((r ≡ p) ⊎ (r ≡ o))
    either None p r is = inr (inl is)
    either (Some m) p r is = inr (inr is)

pub cut_from : (old s : Store) (next window n : ℕ) (ms : List Message) → AreFrom old s n ms →
    AreFrom old (cut s next window) n ms
cut_from old s next window n ms are q =
    let limit = ltb next q && ltb q (next + window) in
    elim (cases_Bool limit) [
      | inr out ↦ inl (get-cut s next window q ∙ cond-false limit (finite.get s q) None out)
      | inl inside ↦
          let same : finite.get (cut s next window) q ≡ finite.get s q =
          get-cut s next window q ∙ cond-true limit (finite.get s q) None inside in
          elim (are q) [
            | inl none ↦ inl (same ∙ none)
            | inr (inl had) ↦ inr (inl (same ∙ had))
            | inr (inr more) ↦ inr (inr (same ∙ more))
          ]
    ]

pub kept_from : (s : Store) (next new window n : ℕ) (ms : List Message) →
    AreFrom s (cut (available s next n ms) new window) n ms
kept_from s next new window n ms = cut_from s (available s next n ms) new window n ms (available_from_either s next n ms)

pub same_from : (s : Store) → AreFrom s s 0 []
same_from s q = inr (inl refl)

-- Nothing of a packet is kept if all its numbers are at most the new `next`.
pub through_from : (s : Store) (next new window n : ℕ) (ms : List Message) → n + length ms ≤ new →
    AreFrom s (cut (available s next n ms) new window) 0 []
through_from s next new window n ms through q =
    elim (kept_from s next new window n ms q) [
      | inl none ↦ inl none
      | inr (inl had) ↦ inr (inl had)
      | inr (inr more) ↦
          elim (cases_lt new q) [
            | inl above ↦ inl (more ∙ message_past n ms q (omega (arith, through, above)))
            | inr low ↦
                let limit = ltb new q && ltb q (new + window) in
                inl (get-cut (available s next n ms) new window q
                ∙ cond-false limit (finite.get (available s next n ms) q) None
                (and_left (ltb new q) (ltb q (new + window)) (le-ltb new q low)))
          ]
    ]

pub within_more : (room : Option ℕ) (less more : ℕ) → exceeds room more ≡ false → IsWithinRoom room less →
    IsWithinRoom room more
within_more None less more fits is = tt
within_more (Some room) less more fits is =
    elim (cases_lt room more) [
      | inl past ↦ absurd (cc (sym fits ∙ lt-ltb room more past))
      | inr low ↦ (is.0, low)
    ]

pub room_left : (above over : Bool) → above ≡ true → (above && over) ≡ false → over ≡ false
room_left true over is fits = fits
room_left false over is fits = absurd (cc is)
