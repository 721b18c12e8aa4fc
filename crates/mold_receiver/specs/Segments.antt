-- The segments of the store.
use Rattle.std.specs.Prelude.{◌≡◌, ℕ, ◌+◌, ◌*◌, ◌-◌, ◌<◌, ◌≤◌, ◌^◌, ◌⊎◌, ◌++◌, List, [], ◌∷◌, Option, None, Some}
use Rattle.std.specs.Prelude.{length, take, drop, if◌then◌else◌, nat_eq, slice_get, vec_capacity, Vec}
use Rattle.std.specs.Global.{Global}
use Rattle.slab.specs.Slab.{get}
use Rattle.mold_receiver.specs.Places.{count_in}
use Rattle.mold_receiver.specs.declared.place.Place.{Place}
use Rattle.mold_receiver.specs.declared.place.TheConstants.{NO_START}
use Rattle.mold_receiver.specs.declared.segment.Segment.{Segment}
use Rattle.mold_receiver.specs.declared.segment.TheConstants.{SEGMENT_BYTES}
use Rattle.mold_receiver.specs.declared.segments.Segments.{Segments}
use Rattle.mold_receiver.specs.declared.segments.TheConstants.{MAX_SPARE}

-- The memory has this size, and nothing more is reserved.
abbrev pub IsMemory : Vec ℕ Global → ℕ → Type 0
IsMemory bytes size = (length bytes.items ≡ size) × (vec_capacity bytes ≤ size)

-- The bytes of a segment that are in use.
abbrev pub used_bytes : Segment → List ℕ
used_bytes segment = take segment.used segment.bytes.items

-- More of the segment's bytes are in use, and nothing else changed.
pub record IsFilled (old new : Segment) (more : ℕ) : Type 0 where
  pub used : new.used ≡ old.used + more
  pub live : new.live ≡ old.live
  pub size : length new.bytes.items ≡ length old.bytes.items
  pub room : vec_capacity new.bytes ≡ vec_capacity old.bytes

-- The segment's bytes in use are within its memory. Offsets in it fit a place.
pub record IsSegment (segment : Segment) : Type 0 where
  pub some : 0 < segment.used
  pub used : segment.used ≤ length segment.bytes.items
  pub exact : vec_capacity segment.bytes ≤ length segment.bytes.items
  pub few : length segment.bytes.items < NO_START

-- The memory of these segments, in bytes. Each segment has its key.
abbrev pub memory_of : List (ℕ × Segment) → ℕ
memory_of [] = 0
memory_of (entry ∷ entries) = vec_capacity entry.1.bytes + memory_of entries

-- The bytes in use of a segment. No segment has none.
abbrev pub bytes_of : Option Segment → List ℕ
bytes_of None = []
bytes_of (Some segment) = used_bytes segment

-- The number of stored messages in a segment. No segment has none.
abbrev pub live_of : Option Segment → ℕ
live_of None = 0
live_of (Some segment) = segment.live

-- The bytes in use of the segment with this key.
abbrev pub bytes_at : Segments → ℕ → List ℕ
bytes_at segments key = bytes_of (get segments.table key)

-- The number of stored messages in the segment with this key.
abbrev pub live_at : Segments → ℕ → ℕ
live_at segments key = live_of (get segments.table key)

-- The number of bytes in use of a segment. No segment has none.
abbrev pub count_used : Option Segment → ℕ
count_used None = 0
count_used (Some segment) = segment.used

-- The number of bytes in use of these segments together.
abbrev pub used_of : List (Option Segment) → ℕ
used_of [] = 0
used_of (slot ∷ slots) = count_used slot + used_of slots

-- One for the key itself, zero for another one.
abbrev pub one_at : ℕ → ℕ → ℕ
one_at segment key = if nat_eq segment key then 1 else 0

-- The size of a segment's memory, in bytes. No segment has none.
abbrev pub size_of : Option Segment → ℕ
size_of None = 0
size_of (Some segment) = length segment.bytes.items

-- The size of the memory of the segment with this key.
abbrev pub size_at : Segments → ℕ → ℕ
size_at segments key = size_of (get segments.table key)

-- The count for the key itself, zero for another one.
abbrev pub count_at : ℕ → ℕ → ℕ → ℕ
count_at segment count key = if nat_eq segment key then count else 0

-- How many bytes of memory a segment may have beyond twice its bytes in use. Only the roomy one may have some.
abbrev pub room_at : Option ℕ → ℕ → ℕ
room_at None key = 0
room_at (Some roomy) key = count_at roomy SEGMENT_BYTES key

-- The memory has room for these bytes, and has at most `room` bytes beyond twice as many.
pub record IsMemoryFor (bytes : Vec ℕ Global) (used room : ℕ) : Type 0 where
  pub least : used ≤ length bytes.items
  pub most : length bytes.items ≤ 2 * used + room
  pub few : length bytes.items < NO_START
  pub exact : vec_capacity bytes ≤ length bytes.items

-- The memory is that of spare segments: of `SEGMENT_BYTES` bytes each, and of one that is smaller. With the roomy one,
-- these are at most `MAX_SPARE`, for which the list has room.
pub record AreSpare (spare : Vec (Vec ℕ Global) Global) (small : Vec ℕ Global) : Type 0 where
  pub each : (i : ℕ) (bytes : Vec ℕ Global) → slice_get spare.items i ≡ Some bytes → IsMemory bytes SEGMENT_BYTES
  pub few : length spare.items + 2 ≤ MAX_SPARE
  pub room : MAX_SPARE ≤ vec_capacity spare
  pub less : length small.items ≤ SEGMENT_BYTES
  pub exact : vec_capacity small ≤ length small.items

-- The segments are consistent, and each has a key that fits a place. The memory of each, except for the roomy one, is
-- at most twice as large as its bytes in use. All bytes in use are counted.
pub record AreSegments (segments : Segments) : Type 0 where
  pub each : (key : ℕ) (segment : Segment) → get segments.table key ≡ Some segment → IsSegment segment
  pub keys : (key : ℕ) (segment : Segment) → get segments.table key ≡ Some segment → key < 2 ^ 32
  pub size :
      (key : ℕ) (segment : Segment) → get segments.table key ≡ Some segment →
      length segment.bytes.items ≤ 2 * segment.used + room_at segments.roomy key
  pub spare : AreSpare segments.spare segments.small
  pub total : segments.used ≡ used_of segments.table.slots

-- Each segment has the bytes and the count that it had.
pub record AreLeft (old new : Segments) : Type 0 where
  pub live : (key : ℕ) → live_at new key ≡ live_at old key
  pub bytes : (key : ℕ) → bytes_at new key ≡ bytes_at old key

-- The bytes for the key itself, no bytes for another one.
abbrev pub more_at : ℕ → List ℕ → ℕ → List ℕ
more_at segment more key = if nat_eq segment key then more else []

-- These bytes were appended to the segment of the place, and begin there. No count changed.
pub record HasAppended (old new : Segments) (place : Place) (more : List ℕ) : Type 0 where
  pub start : place.start ≡ length (bytes_at old place.segment)
  pub live : (key : ℕ) → live_at new key ≡ live_at old key
  pub bytes : (key : ℕ) → bytes_at new key ≡ bytes_at old key ++ more_at place.segment more key

-- The segment with this key has the bytes that it had, and it has a stored message if it had one. Or it is gone.
abbrev pub StaysOrGoes : Segments → Segments → ℕ → Type 0
StaysOrGoes old new key =
    ((bytes_at new key ≡ bytes_at old key) × (live_at new key ≡ 0 → live_at old key ≡ 0))
    ⊎ ((bytes_at new key ≡ []) × (live_at new key ≡ 0))

-- The segment with this key lost `count` of its stored messages. It is gone if these were the last ones.
pub record HasLost (old new : Segments) (lost count : ℕ) : Type 0 where
  pub live : (key : ℕ) → live_at new key ≡ live_at old key - count_at lost count key
  pub bytes : (key : ℕ) → StaysOrGoes old new key

-- Each segment lost the messages at these places. It is gone if these were its last ones.
pub record AreLost (old new : Segments) (places : List (Option Place)) : Type 0 where
  pub live : (key : ℕ) → live_at new key ≡ live_at old key - count_in key places
  pub bytes : (key : ℕ) → StaysOrGoes old new key

-- The segment with this key got `count` more stored messages. All segments keep their bytes.
pub record HasGained (old new : Segments) (gained count : ℕ) : Type 0 where
  pub live : (key : ℕ) → live_at new key ≡ live_at old key + count_at gained count key
  pub bytes : (key : ℕ) → bytes_at new key ≡ bytes_at old key

-- These bytes were appended: they are the last bytes in use of the place's segment, and begin at its start.
abbrev pub IsAppended : Segments → Place → List ℕ → Type 0
IsAppended segments place bytes = drop place.start (bytes_at segments place.segment) ≡ bytes
