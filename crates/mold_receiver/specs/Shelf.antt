-- The store: a ring of places, and the segments that have the messages.
use Rattle.std.specs.Prelude.{◌≡◌, ℕ, ◌+◌, ◌<◌, ◌≤◌, List, Option, Some, length}
use Rattle.mold_receiver.specs.declared.place.Place.{Place}
use Rattle.mold_receiver.specs.declared.segments.Segments.{Segments}
use Rattle.mold_receiver.specs.declared.shelf.Shelf.{Shelf}
use Rattle.mold_receiver.specs.Places.{IsBlockAt, count_in, end_from, message_in, place_at}
use Rattle.mold_receiver.specs.Segments.{AreSegments, bytes_at, live_at}
use Rattle.mold_receiver.specs.Slots.{Slot, AreSlots, slots_of}
use Rattle.mold_receiver.specs.Store.{Message}

-- The message at a place of the segments.
abbrev pub message_on : Segments → Place → Message
message_on segments place = message_in (bytes_at segments place.segment) place.start

-- The slots whose messages are at these places of the segments.
abbrev pub slots_in : Segments → List (Option Place) → List Slot
slots_in segments places = slots_of (message_on segments) places

-- The slots that a shelf represents.
abbrev pub slots_on : Shelf → List Slot
slots_on shelf = slots_in shelf.segments shelf.ring

-- A whole block starts at each place.
abbrev pub AreBlocksAt : Segments → List (Option Place) → Type 0
AreBlocksAt segments places =
    (i : ℕ) (place : Place) → place_at places i ≡ Some place →
    IsBlockAt (bytes_at segments place.segment) place.start

-- The fields of a shelf are consistent. Its slots match its counts. Its places are in its segments. A segment counts
-- exactly the places that are in it.
pub record IsKept (shelf : Shelf) : Type 0 where
  pub slots : AreSlots (slots_on shelf) shelf.held shelf.occupied
  pub segments : AreSegments shelf.segments
  pub within : AreBlocksAt shelf.segments shelf.ring
  pub live : (key : ℕ) → live_at shelf.segments key ≡ count_in key shelf.ring

-- `count` blocks follow each other in the segment of a slot's place, from that place to offset `end`. The slots from
-- `slot` on have the places of these blocks.
pub record IsExtent (shelf : Shelf) (slot : ℕ) (first : Place) (count end : ℕ) : Type 0 where
  pub some : 0 < count
  pub ends : end ≡ end_from (bytes_at shelf.segments first.segment) first.start count
  pub within : end ≤ length (bytes_at shelf.segments first.segment)
  pub there : (i : ℕ) → i < count →
      place_at shelf.ring (slot + i) ≡ Some (record {
        segment = first.segment;
        start = end_from (bytes_at shelf.segments first.segment) first.start i;
      })
