-- The bytes in use of all segments are those of the stored messages.
use Rattle.std.proofs.Common.{◌≡◌, ℕ, ◌+◌, ◌<◌, length, length-take, refl, sym, ap, ◌∙◌, arith}
use Rattle.std.specs.Prelude.{Option, None, Some, slice_index_or}
use Rattle.slab.specs.Slab.{get}
use Rattle.mold_receiver.specs.declared.place.Place.{Place}
use Rattle.mold_receiver.specs.declared.segment.Segment.{Segment}
use Rattle.mold_receiver.specs.declared.shelf.Shelf.{Shelf}
use Rattle.mold_receiver.specs.Places.{place_at}
use Rattle.mold_receiver.specs.Segments.{bytes_of, count_used, used_of}
use Rattle.mold_receiver.specs.Shelf.{IsKept, slots_on}
use Rattle.mold_receiver.specs.Slots.{slots_bytes}
use Rattle.mold_receiver.specs.Tight.{IsTight, length_in}
use Rattle.mold_receiver.proofs.SizeLemmas.{key_there, lengths_sum, slots_total, sum_lengths}
use Rattle.mold_receiver.proofs.SumLemmas.{used_sum}

-- The segments have just the stored messages.
pub used_stored : (shelf : Shelf) → IsKept shelf → IsTight shelf →
    used_of shelf.segments.table.slots ≡ slots_bytes (slots_on shelf)
used_stored shelf kept tight =
    let table = shelf.segments.table in
    let places = shelf.ring in
    let f : ℕ → ℕ = λ key. length_in shelf.segments key places in
    let each : (i : ℕ) → f (0 + i) ≡ count_used (slice_index_or table.slots i None) =
    λ i.
    let key : 0 + i ≡ i = omega arith in
    ap f key ∙ sym (tight.exact i) ∙ used (get table i) i refl in
    let keys : (i : ℕ) (place : Place) → place_at places i ≡ Some place → place.segment < length table.slots =
    λ i place is.
    key_there table.slots place.segment (omega (arith, kept.within i place is)) in
    omega (
      arith,
      used_sum f 0 table.slots (length table.slots) each (omega arith),
      sum_lengths shelf.segments places 0 (length table.slots),
      lengths_sum shelf.segments places (length table.slots) keys,
      slots_total shelf.segments places,
    )
  where
    used : (o : Option Segment) (i : ℕ) → get shelf.segments.table i ≡ o → length (bytes_of o) ≡ count_used o
    used None i is = refl
    used (Some s) i is =
        omega (arith, length-take s.used s.bytes.items, (kept.segments.each i s is).used)
