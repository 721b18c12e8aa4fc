-- The fields of a shelf stay consistent.
use Rattle.std.proofs.Common.{◌≡◌, ℕ, ◌+◌, ◌<◌, ◌≤◌, Bool, true, false, ltb, List, [], length}
use Rattle.std.proofs.Common.{slice_set, replicate, refl, sym, ap, subst, ◌∙◌, arith}
use Rattle.std.specs.Prelude.{Option, None, Some, is_none}
use Rattle.std.specs.Option.{option_map}
use Rattle.std.proofs.lemmas.Bool.{and_parts, ltb-true}
use Rattle.std.proofs.lemmas.List.{append-nil, map-set, length-map}
use Rattle.mold_receiver.specs.declared.place.Place.{Place}
use Rattle.mold_receiver.specs.declared.segments.Segments.{Segments}
use Rattle.mold_receiver.specs.declared.shelf.Shelf.{Shelf}
use Rattle.mold_receiver.specs.Keeping.{is_fresh}
use Rattle.mold_receiver.specs.Places.{IsBlockAt, count_in}
use Rattle.mold_receiver.specs.Segments.{AreSegments, HasGained, bytes_at, live_at, one_at}
use Rattle.mold_receiver.specs.Shelf.{AreBlocksAt, IsKept, message_on, slots_in, slots_on}
use Rattle.mold_receiver.specs.Slots.{AreSlots, Slot, slot_at}
use Rattle.mold_receiver.specs.Store.{Message}
use Rattle.mold_receiver.proofs.ShelfLemmas.{HasOld, count_none, count_put, count_some}
use Rattle.mold_receiver.proofs.ShelfLemmas.{no_place, slots_more, within_more, within_put}
use Rattle.mold_receiver.proofs.SlotLemmas.{are_empty, are_put, empty_view}
use Rattle.mold_receiver.proofs.SegmentLemmas.{AreMore}

-- The places of a shelf.
abbrev pub places_on : Shelf → List (Option Place)
places_on shelf = shelf.ring

-- Segments with a stored message keep their bytes, and blocks may be appended to them.
has_more : (old : Shelf) (new : Segments) → IsKept old → AreMore old.segments new →
    HasOld old.segments new (places_on old)
has_more old new kept more = λ i place is. more.bytes place.segment

pub more_on : (old : Shelf) (new : Segments) → IsKept old → AreMore old.segments new →
    slots_in new (places_on old) ≡ slots_on old
more_on old new kept more =
    slots_more old.segments new (places_on old) kept.within (has_more old new kept more)

pub kept_more : (old : Shelf) (new : Segments) → IsKept old → AreSegments new → AreMore old.segments new →
    IsKept (record old { segments = new })
kept_more old new kept are more = record {
  slots = subst (λ (t : List Slot). AreSlots t old.held old.occupied)
      (sym (more_on old new kept more)) kept.slots;
  segments = are;
  within = within_more old.segments new (places_on old) kept.within (has_more old new kept more);
  live = λ key. more.live key ∙ kept.live key;
}

-- Segments with the same bytes have the same messages.
has_same : (old new : Segments) (places : List (Option Place)) → ((key : ℕ) → bytes_at new key ≡ bytes_at old key) →
    HasOld old new places
has_same old new places same =
    λ i place is. ([], same place.segment ∙ sym (append-nil (bytes_at old place.segment)))

none_of : (o : Option Message) → is_none o ≡ true → o ≡ None
none_of None none = refl
none_of (Some m) none = absurd (cc none)

-- A message is put into an empty slot.
pub put_on : (old : Shelf) (segments : Segments) (places : List (Option Place)) (slot : ℕ) (place : Place) →
    IsKept old → HasGained old.segments segments place.segment 1
    → IsBlockAt (bytes_at old.segments place.segment) place.start
    → slot < length (places_on old)
    → places ≡ slice_set (places_on old) slot (Some place)
    → slots_in segments places ≡ slice_set (slots_on old) slot (Some (message_on old.segments place))
put_on old segments places slot place kept gained block there is =
    ap (slots_in segments) is
    ∙ slots_more old.segments segments (slice_set (places_on old) slot (Some place))
    (within_put old.segments (places_on old) slot place kept.within there block)
    (has_same old.segments segments (slice_set (places_on old) slot (Some place)) gained.bytes)
    ∙ map-set (option_map (message_on old.segments)) (places_on old) slot (Some place)

pub fresh_there : (old : Shelf) (slot : ℕ) → is_fresh (slots_on old) slot ≡ true → slot < length (places_on old)
fresh_there old slot free =
    let there : slot < length (slots_on old) = ltb-true slot (length (slots_on old))
    (and_parts (ltb slot (length (slots_on old))) (is_none (slot_at (slots_on old) slot)) free).0 in
    omega (
      arith,
      there,
      length-map (places_on old) (option_map (message_on old.segments)),
    )

pub kept_put : (old : Shelf) (ring : List (Option Place)) (segments : Segments) (slot : ℕ) (place : Place) (occupied : List Bool) →
    IsKept old → ring ≡ slice_set (places_on old) slot (Some place)
    → AreSegments segments → HasGained old.segments segments place.segment 1
    → is_fresh (slots_on old) slot ≡ true → IsBlockAt (bytes_at old.segments place.segment) place.start
    → occupied ≡ slice_set old.occupied slot true
    → IsKept (record { ring = ring; occupied = occupied; segments = segments; held = old.held + 1 })
kept_put old ring segments slot place occupied kept is are gained free block flags =
    let slots = slots_on old in
    let parts = and_parts _ (is_none (slot_at slots slot)) free in
    let there : slot < length slots = ltb-true slot (length slots) parts.0 in
    let empty : slot_at slots slot ≡ None = none_of (slot_at slots slot) parts.1 in
    let inside : slot < length (places_on old) = fresh_there old slot free in
    let message = message_on old.segments place in
    let new : slots_in segments ring ≡ slice_set slots slot (Some message) =
    put_on old segments ring slot place kept gained block inside is in
    let set = slice_set (places_on old) slot (Some place) in
    record {
      slots = rw (new, flags)
          (are_put slots old.held old.occupied slot message kept.slots there empty);
      segments = are;
      within = subst (λ (t : List (Option Place)). AreBlocksAt segments t) (sym is)
          (within_more old.segments segments set
          (within_put old.segments (places_on old) slot place kept.within inside block)
          (has_same old.segments segments set gained.bytes));
      live = λ key.
          gained.live key
          ∙ ap (λ (n : ℕ). n + one_at place.segment key) (kept.live key)
          ∙ sym (count_put (places_on old) slot place key inside
          (no_place old.segments (places_on old) slot empty))
          ∙ ap (count_in key) (sym is);
    }

-- All slots are empty, and no segment has a message.
pub new_on : (ring : List (Option Place)) (segments : Segments) (window : ℕ) →
    ring ≡ replicate window None → slots_in segments ring ≡ replicate window None
new_on ring segments window is = ap (slots_in segments) is ∙ empty_view (message_on segments) window

pub kept_new : (ring : List (Option Place)) (occupied : List Bool) (segments : Segments) (window : ℕ) → 0 < window → window ≤ 1048576 →
    ring ≡ replicate window None → AreSegments segments →
    ((key : ℕ) → live_at segments key ≡ 0) →
    occupied ≡ replicate window false →
    IsKept (record { ring = ring; occupied = occupied; segments = segments; held = 0 })
kept_new ring occupied segments window some few is are none flags = record {
  slots = rw (new_on ring segments window is, flags) (are_empty window some few);
  segments = are;
  within = λ i place at. absurd (omega (
    arith,
    count_some ring i place at,
    ap (count_in place.segment) is,
    count_none window place.segment,
  ));
  live = λ key. none key ∙ sym (ap (count_in key) is ∙ count_none window key);
}
