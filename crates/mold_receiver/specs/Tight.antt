-- The store's memory is in use: a segment has only the bytes of stored messages, and all of these leave together.
use Rattle.std.specs.Prelude.{◌≡◌, ℕ, ◌+◌, ◌<◌, ◌≤◌, ◌⊎◌, List, [], ◌∷◌, Option, None, Some, length}
use Rattle.std.specs.Prelude.{nat_eq, if◌then◌else◌}
use Rattle.mold_receiver.specs.declared.place.Place.{Place}
use Rattle.mold_receiver.specs.declared.segments.Segments.{Segments}
use Rattle.mold_receiver.specs.declared.shelf.Shelf.{Shelf}
use Rattle.mold_receiver.specs.Places.{place_at}
use Rattle.mold_receiver.specs.Segments.{bytes_at, count_at}
use Rattle.mold_receiver.specs.Shelf.{message_on}
use Rattle.mold_wire.specs.declared.block.TheConstants.{LENGTH_BYTES}

-- The length of the block at a place of the segments.
abbrev pub block_length : Segments → Place → ℕ
block_length segments place = LENGTH_BYTES + length (message_on segments place)

-- The length for the key itself, zero for another one.
abbrev pub length_of : Segments → ℕ → Place → ℕ
length_of segments key place = if nat_eq place.segment key then block_length segments place else 0

-- The length of all blocks in the segment with this key that are at these places.
abbrev pub length_in : Segments → ℕ → List (Option Place) → ℕ
length_in segments key [] = 0
length_in segments key (None ∷ places) = length_in segments key places
length_in segments key (Some place ∷ places) = length_of segments key place + length_in segments key places

-- No slot between two messages of one segment is empty.
abbrev pub AreSolid : List (Option Place) → Type 0
AreSolid places =
    (i j k : ℕ) (first last : Place) → i < j → j < k → place_at places i ≡ Some first →
    place_at places k ≡ Some last → first.segment ≡ last.segment → place_at places j ≡ None → ⊥

-- A segment's bytes are the blocks of its stored messages, and no slot between two of these is empty.
pub record IsTight (shelf : Shelf) : Type 0 where
  pub exact : (key : ℕ) → length (bytes_at shelf.segments key) ≡ length_in shelf.segments key shelf.ring
  pub solid : AreSolid shelf.ring

-- The slot before `first` or the slot `end` has a message in this segment.
abbrev pub IsBeside : List (Option Place) → ℕ → ℕ → ℕ → Type 0
IsBeside places first end segment =
    ((before : ℕ) × (place : Place) × (first ≡ before + 1) × (place_at places before ≡ Some place)
    × (place.segment ≡ segment))
    ⊎ ((place : Place) × (place_at places end ≡ Some place) × (place.segment ≡ segment))

-- Places in one segment were written into empty slots from slot `first` up to, but not including, slot `end`. No slot
-- between these two is empty now, and other places are unchanged.
pub record ArePlaced (old new : List (Option Place)) (first end segment : ℕ) : Type 0 where
  pub same : length new ≡ length old
  pub kept : (i : ℕ) (place : Place) → place_at old i ≡ Some place → place_at new i ≡ Some place
  pub added :
      (i : ℕ) (place : Place) → place_at old i ≡ None → place_at new i ≡ Some place →
      (first ≤ i) × (i < end) × (place.segment ≡ segment)
  pub whole : (i : ℕ) → first ≤ i → i < end → i < length old → place_at new i ≡ None → ⊥

-- Messages of one segment, whose blocks have this length together, were put into empty slots. No segment's bytes
-- changed.
pub record HasMarked (old new : Shelf) (first end segment more : ℕ) : Type 0 where
  pub bytes : (key : ℕ) → bytes_at new.segments key ≡ bytes_at old.segments key
  pub placed : ArePlaced old.ring new.ring first end segment
  pub longer : (key : ℕ) → length_in new.segments key new.ring ≡ length_in old.segments key old.ring
      + count_at segment more key
