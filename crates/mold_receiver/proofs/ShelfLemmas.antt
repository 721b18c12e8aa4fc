-- Places, and the slots that they represent.
use Rattle.std.proofs.Common.{◌≡◌, ℕ, zero, suc, ◌+◌, ◌<◌, ◌≤◌, Bool, true, false, cond, eqb, List, [], ◌∷◌, ◌++◌, length}
use Rattle.std.proofs.Common.{take, drop, slice_set, replicate, refl, sym, ap, subst, ◌∙◌, inl, inr, arith}
use Rattle.std.specs.Prelude.{Option, None, Some, slice_get}
use Rattle.std.specs.Option.{option_map}
use Rattle.byteorder.specs.Endian.{big_number}
use Rattle.std.proofs.lemmas.Bool.{cases_eq, eq-eqb}
use Rattle.std.proofs.lemmas.List.{length-append, length-drop, take-append-le, drop-append-le}
use Rattle.mold_receiver.specs.declared.place.Place.{Place}
use Rattle.mold_receiver.specs.declared.segments.Segments.{Segments}
use Rattle.mold_receiver.specs.Places.{IsBlockAt, count_in, length_at, message_in, place_at}
use Rattle.mold_receiver.specs.Segments.{bytes_at, one_at}
use Rattle.mold_receiver.specs.Shelf.{AreBlocksAt, message_on, slots_in}
use Rattle.mold_receiver.specs.Slots.{Slot, count_held, slot_at}
use Rattle.mold_receiver.specs.Store.{Message}
use Rattle.mold_receiver.proofs.StoreLemmas.{none_some}

-- A slot's message, from its place.
pub slot_in : (segments : Segments) (places : List (Option Place)) (i : ℕ) →
    slot_at (slots_in segments places) i ≡ option_map (message_on segments) (place_at places i)
slot_in segments [] i = refl
slot_in segments (None ∷ places) zero = refl
slot_in segments (Some place ∷ places) zero = refl
slot_in segments (slot ∷ places) (suc i) = slot_in segments places i

no_message : (segments : Segments) (slot : Option Place) → option_map (message_on segments) slot ≡ None → slot ≡ None
no_message segments None none = refl
no_message segments (Some place) none = absurd (cc none)

-- An empty slot has no place.
pub no_place : (segments : Segments) (places : List (Option Place)) (i : ℕ) →
    slot_at (slots_in segments places) i ≡ None → place_at places i ≡ None
no_place segments places i none = no_message segments (place_at places i) (sym (slot_in segments places i) ∙ none)

-- The slots are the same if each place has the same message.
slots_same : (old new : Segments) (places : List (Option Place))
    → ((i : ℕ) (place : Place) → place_at places i ≡ Some place → message_on new place ≡ message_on old place)
    → slots_in new places ≡ slots_in old places
slots_same old new [] same = refl
slots_same old new (None ∷ places) same =
    ap (λ (t : List Slot). None ∷ t) (slots_same old new places (λ i p is. same (suc i) p is))
slots_same old new (Some place ∷ places) same =
    ap (λ (m : Message). Some m ∷ slots_in new places) (same 0 place refl)
    ∙ ap (λ (t : List Slot). Some (message_on old place) ∷ t) (slots_same old new places (λ i p is. same (suc i) p is))

-- Bytes that are appended change no message.
pub length_more : (bytes more : List ℕ) (start : ℕ) → IsBlockAt bytes start →
    length_at (bytes ++ more) start ≡ length_at bytes start
length_more bytes more start there =
    ap (λ (t : List ℕ). big_number 2 (take 2 t)) (drop-append-le start bytes more (omega (arith, there)))
    ∙ ap (λ (t : List ℕ). big_number 2 t)
    (take-append-le 2 (drop start bytes) more (omega (arith, there, length-drop start bytes)))

pub block_more : (bytes more : List ℕ) (start : ℕ) → IsBlockAt bytes start → IsBlockAt (bytes ++ more) start
block_more bytes more start there =
    omega (arith, there, length_more bytes more start there, length-append bytes more)

pub message_more : (bytes more : List ℕ) (start : ℕ) → IsBlockAt bytes start →
    message_in (bytes ++ more) start ≡ message_in bytes start
message_more bytes more start there =
    ap (λ (n : ℕ). take n (drop (start + 2) (bytes ++ more))) (length_more bytes more start there)
    ∙ ap (λ (t : List ℕ). take (length_at bytes start) t)
    (drop-append-le (start + 2) bytes more (omega (arith, there)))
    ∙ take-append-le (length_at bytes start) (drop (start + 2) bytes) more
    (omega (arith, there, length-drop (start + 2) bytes))

-- The segments of the places have their old bytes, and more bytes may follow them.
abbrev pub HasOld : Segments → Segments → List (Option Place) → Type 0
HasOld old new places =
    (i : ℕ) (place : Place) → place_at places i ≡ Some place →
    (more : List ℕ) × (bytes_at new place.segment ≡ bytes_at old place.segment ++ more)

pub slots_more : (old new : Segments) (places : List (Option Place)) → AreBlocksAt old places →
    HasOld old new places → slots_in new places ≡ slots_in old places
slots_more old new places within has = slots_same old new places (λ i place is.
    let here = has i place is in
    ap (λ (t : List ℕ). message_in t place.start) here.1
    ∙ message_more (bytes_at old place.segment) here.0 place.start (within i place is))

pub within_more : (old new : Segments) (places : List (Option Place)) → AreBlocksAt old places →
    HasOld old new places → AreBlocksAt new places
within_more old new places within has = λ i place is.
    let here = has i place is in
    subst (λ (t : List ℕ). IsBlockAt t place.start) (sym here.1)
    (block_more (bytes_at old place.segment) here.0 place.start (within i place is))

pub place_put_same : (places : List (Option Place)) (i : ℕ) (slot : Option Place) → i < length places →
    place_at (slice_set places i slot) i ≡ slot
place_put_same [] i slot within = absurd (omega arith)
place_put_same (s ∷ places) zero slot within = refl
place_put_same (s ∷ places) (suc i) slot within = place_put_same places i slot (omega arith)

pub place_put_other : (places : List (Option Place)) (i : ℕ) (slot : Option Place) (at : ℕ) → (at ≡ i → ⊥) →
    place_at (slice_set places i slot) at ≡ place_at places at
place_put_other [] i slot at other = refl
place_put_other (s ∷ places) zero slot zero other = absurd (other refl)
place_put_other (s ∷ places) zero slot (suc at) other = refl
place_put_other (s ∷ places) (suc i) slot zero other = refl
place_put_other (s ∷ places) (suc i) slot (suc at) other = place_put_other places i slot at (λ e. other (ap suc e))

-- If a place with a block is written, blocks are at all places.
pub within_put : (segments : Segments) (places : List (Option Place)) (i : ℕ) (place : Place) →
    AreBlocksAt segments places → i < length places → IsBlockAt (bytes_at segments place.segment) place.start →
    AreBlocksAt segments (slice_set places i (Some place))
within_put segments places i place within there block = λ at p is. elim (cases_eq at i) [
  | inl same ↦
      let here : Some place ≡ Some p = sym (place_put_same places i (Some place) there)
      ∙ subst (λ (n : ℕ). place_at (slice_set places i (Some place)) n ≡ Some p) same is in
      let it : place ≡ p = cc here in
      subst (λ (x : Place). IsBlockAt (bytes_at segments x.segment) x.start) it block
  | inr other ↦ within at p (sym (place_put_other places i (Some place) at other) ∙ is)
]

-- Counts of the places in a segment.
pub one_itself : (key : ℕ) → one_at key key ≡ 1
one_itself key = ap {B = ℕ} (λ (b : Bool). cond b 1 0) (eq-eqb key key refl)

pub count_some : (places : List (Option Place)) (i : ℕ) (place : Place) → place_at places i ≡ Some place →
    0 < count_in place.segment places
count_some [] i place is = absurd (none_some is)
count_some (None ∷ places) zero place is = absurd (none_some is)
count_some (Some p ∷ places) zero place is =
    let it : p ≡ place = cc is in
    subst (λ (x : Place). 0 < one_at x.segment place.segment + count_in place.segment places) (sym it)
    (omega (arith, one_itself place.segment))
count_some (None ∷ places) (suc i) place is = count_some places i place is
count_some (Some p ∷ places) (suc i) place is = omega (arith, count_some places i place is)

pub count_put : (places : List (Option Place)) (i : ℕ) (place : Place) (key : ℕ) → i < length places →
    place_at places i ≡ None →
    count_in key (slice_set places i (Some place)) ≡ count_in key places + one_at place.segment key
count_put [] i place key within free = absurd (omega arith)
count_put (None ∷ places) zero place key within free = omega arith
count_put (Some p ∷ places) zero place key within free = absurd (none_some (sym free))
count_put (None ∷ places) (suc i) place key within free = count_put places i place key (omega arith) free
count_put (Some p ∷ places) (suc i) place key within free =
    omega (arith, count_put places i place key (omega arith) free)

pub count_none : (n key : ℕ) → count_in key (replicate n None) ≡ 0
count_none zero key = refl
count_none (suc n) key = count_none n key

one_most : (segment key : ℕ) → one_at segment key ≤ 1
one_most segment key =
    elim (eqb segment key) as (λ (b : Bool). ◌≤◌ (cond {A = ℕ} b 1 0) 1) [
      | true ↦ omega arith
      | false ↦ omega arith
    ]

-- A segment has at most as many messages as all slots.
pub count_held_in : (segments : Segments) (places : List (Option Place)) (key : ℕ) →
    count_in key places ≤ count_held (slots_in segments places)
count_held_in segments [] key = omega arith
count_held_in segments (None ∷ places) key = omega (arith, count_held_in segments places key)
count_held_in segments (Some p ∷ places) key =
    omega (arith, count_held_in segments places key, one_most p.segment key)

-- A slot of the ring that exists has a place.
pub there_some : (ring : List Place) (i : ℕ) → i < length ring → slice_get ring i ≡ None → ⊥
there_some [] i within none = omega (arith, within)
there_some (place ∷ ring) zero within none = none_some (sym none)
there_some (place ∷ ring) (suc i) within none = there_some ring i (omega (arith, within)) none
