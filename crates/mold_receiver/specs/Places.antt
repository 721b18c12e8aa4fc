-- The places of stored messages, and the ring that has them.
use Rattle.std.specs.Prelude.{ℕ, zero, suc, ◌+◌, ◌≤◌, List, [], ◌∷◌, Option, None, Some, map, nat_lt, nat_eq, slice_get}
use Rattle.std.specs.Prelude.{if◌then◌else◌, length, take, drop}
use Rattle.std.specs.Option.{option_flatten}
use Rattle.byteorder.specs.Endian.{big_number}
use Rattle.mold_receiver.specs.declared.place.Place.{Place}
use Rattle.mold_receiver.specs.declared.place.TheConstants.{NO_START}
use Rattle.mold_receiver.specs.Store.{Message}

-- The place, or none if it marks an empty slot.
abbrev pub place_of : Place → Option Place
place_of place = if nat_lt place.start NO_START then Some place else None

-- What the slots of a ring have.
abbrev pub places_of : List Place → List (Option Place)
places_of ring = map place_of ring

-- The place in a slot, or none if the slot is empty or doesn't exist.
abbrev pub place_at : List (Option Place) → ℕ → Option Place
place_at places i = option_flatten (slice_get places i)

-- The length of the message whose block starts at this offset of the bytes.
abbrev pub length_at : List ℕ → ℕ → ℕ
length_at bytes start = big_number 2 (take 2 (drop start bytes))

-- The message whose block starts at this offset of the bytes.
abbrev pub message_in : List ℕ → ℕ → Message
message_in bytes start = take (length_at bytes start) (drop (start + 2) bytes)

-- A whole block starts at this offset of the bytes.
abbrev pub IsBlockAt : List ℕ → ℕ → Type 0
IsBlockAt bytes start = start + 2 + length_at bytes start ≤ length bytes

-- The messages of `count` blocks that follow each other. The first block starts at this offset of the bytes.
abbrev pub messages_from : List ℕ → ℕ → ℕ → List Message
messages_from bytes start zero = []
messages_from bytes start (suc count) =
    message_in bytes start ∷ messages_from bytes (start + 2 + length_at bytes start) count

-- The offset after these blocks.
abbrev pub end_from : List ℕ → ℕ → ℕ → ℕ
end_from bytes start zero = start
end_from bytes start (suc count) = end_from bytes (start + 2 + length_at bytes start) count

-- The offsets at which these blocks end.
abbrev pub ends_from : List ℕ → ℕ → ℕ → List ℕ
ends_from bytes start zero = []
ends_from bytes start (suc count) =
    (start + 2 + length_at bytes start) ∷ ends_from bytes (start + 2 + length_at bytes start) count

-- The number of places in this segment.
abbrev pub count_in : ℕ → List (Option Place) → ℕ
count_in segment [] = 0
count_in segment (None ∷ places) = count_in segment places
count_in segment (Some place ∷ places) =
    (if nat_eq place.segment segment then 1 else 0) + count_in segment places
