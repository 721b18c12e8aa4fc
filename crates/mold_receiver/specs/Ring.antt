-- Rings: lists whose first slot may be at any index.
use Rattle.std.specs.Prelude.{◌≡◌, ℕ, suc, ◌+◌, ◌-◌, ◌<◌, nat_lt, List, [], ◌∷◌, length, map, slice_index_or, slice_set}
use Rattle.std.specs.Prelude.{Option, None, Some, if◌then◌else◌}
use Rattle.std.specs.List.{range_with_len}
use Rattle.mold_receiver.specs.declared.place.Place.{Place}
use Rattle.mold_receiver.specs.Places.{IsBlockAt, end_from, ends_from, place_at, places_of}
use Rattle.mold_receiver.specs.Store.{Message}

-- The index of a slot in a ring of `count` items whose first slot has the index `head`.
abbrev pub index_of : ℕ → ℕ → ℕ → ℕ
index_of head count slot = if nat_lt (head + slot) count then head + slot else head + slot - count

-- The items of such a ring in the order of its slots, given the item at each index.
unfoldable pub ring_in : {A : Type 0} → (ℕ → A) → ℕ → ℕ → List A
ring_in item head count = map (λ slot. item (index_of head count slot)) (range_with_len 0 count)

-- What the slots of a ring of places have. The first slot has the index `head`.
abbrev pub ring_of : List Place → ℕ → List (Option Place)
ring_of places head = ring_in (λ i. slice_index_or (places_of places) i None) head (length places)

-- The slots of a ring after the places of blocks were written into the slots from `slot` on. The blocks have these
-- messages, and follow each other in a segment. The first one starts at the offset `start`.
abbrev pub placed : List (Option Place) → ℕ → ℕ → ℕ → List Message → List (Option Place)
placed ring slot segment start [] = ring
placed ring slot segment start (message ∷ messages) =
    placed (slice_set ring slot (Some (record { segment = segment; start = start }))) (suc slot) segment
    (start + 2 + length message) messages

-- A whole block starts at each of the places that is in this segment. The segment has these bytes.
abbrev pub AreBlocksIn : List ℕ → ℕ → List (Option Place) → Type 0
AreBlocksIn bytes segment places =
    (i : ℕ) (place : Place) → place_at places i ≡ Some place → place.segment ≡ segment → IsBlockAt bytes place.start

-- The bytes of a segment are `count` blocks, which end at the listed offsets. The slots from `slot` on have the places
-- of these blocks.
pub record IsListed (places : List (Option Place)) (slot segment count : ℕ) (bytes listed : List ℕ) : Type 0 where
  pub ends : listed ≡ ends_from bytes 0 count
  pub whole : end_from bytes 0 count ≡ length bytes
  pub there : (i : ℕ) → i < count →
      place_at places (slot + i) ≡ Some (record { segment = segment; start = end_from bytes 0 i })
