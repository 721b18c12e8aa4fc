-- How an array is filled with places, one after the other.
use Rattle.std.specs.Option.{unwrap_or}
use Rattle.std.proofs.Common.{Option, Some, slice_get, length-append}
use Rattle.std.proofs.Common.{◌≡◌, ℕ, zero, suc, ◌+◌, ◌≤◌, ◌<◌, List, [], ◌∷◌, ◌++◌, length, take, drop, slice_set, refl, sym, ap}
use Rattle.std.proofs.Common.{◌∙◌, arith}
use Rattle.std.specs.List.{sum_by}
use Rattle.std.proofs.lemmas.List.{length-set}
use Rattle.std.proofs.lemmas.List.Sums.{sum_by-cons}
use Rattle.mold_wire.specs.Packing.{packet_length}
use Rattle.mold_wire.specs.declared.header.TheConstants.{HEADER_LENGTH}
use Rattle.mold_ffi.specs.declared.packets.mold_place.MoldPlace.{MoldPlace}
use Rattle.mold_ffi.specs.Packets.MoldPlace.{places_of, written_front}

-- The array with the places `found` written from an index on.
abbrev pub written_from : ℕ → List MoldPlace → List MoldPlace → List MoldPlace
written_from index found places = take index places ++ written_front found (drop index places)

one_written :
    (index : ℕ) (place : MoldPlace) (found places : List MoldPlace) → index < length places →
    written_from (suc index) found (slice_set places index place) ≡ written_from index (place ∷ found) places
one_written zero place found [] below = absurd (omega arith)
one_written zero place found (old ∷ places) below = refl
one_written (suc index) place found [] below = absurd (omega arith)
one_written (suc index) place found (old ∷ places) below =
    ap (λ (t : List MoldPlace). old ∷ t) (one_written index place found places (omega arith))

drop_none : (number : ℕ) → drop {A = MoldPlace} number [] ≡ []
drop_none zero = refl
drop_none (suc number) = refl

take_none : (number : ℕ) → take {A = MoldPlace} number [] ≡ []
take_none zero = refl
take_none (suc number) = refl

all_written : (index : ℕ) (found places : List MoldPlace) → index ≡ length places → written_from index found places ≡ places
all_written zero found [] full = drop_none (length found)
all_written zero found (old ∷ places) full = absurd (omega arith)
all_written (suc index) found [] full = absurd (omega arith)
all_written (suc index) found (old ∷ places) full =
    ap (λ (t : List MoldPlace). old ∷ t) (all_written index found places (omega arith))

none_left : (index : ℕ) (places : List MoldPlace) → written_from index [] places ≡ places
none_left zero places = ap (λ (t : List MoldPlace). t ++ places) (take_none (length places))
none_left (suc index) [] = refl
none_left (suc index) (old ∷ places) = ap (λ (t : List MoldPlace). old ∷ t) (none_left index places)

-- The invariant of the loop: after the remaining places are written, the array has all places; and where the remaining
-- blocks begin.
pub record HasFilled (at filled : ℕ) (left : List (List ℕ)) (places : List MoldPlace) (blocks : List (List ℕ)) (old : List MoldPlace) : Type 0 where
  pub told : written_from filled (places_of at left) places ≡ written_front (places_of HEADER_LENGTH blocks) old
  pub room : filled ≤ length places
  pub bound : at + sum_by (λ message. 2 + length message) left ≡ packet_length blocks

pub begun : (blocks : List (List ℕ)) (old : List MoldPlace) → HasFilled HEADER_LENGTH 0 blocks old blocks old
unfolding packet_length
begun blocks old = record { told = refl; room = omega arith; bound = refl }

pub filled_more :
    (at filled : ℕ) (message : List ℕ) (left : List (List ℕ)) (places : List MoldPlace) (blocks : List (List ℕ))
    (old : List MoldPlace) → HasFilled at filled (message ∷ left) places blocks old → filled < length places →
    HasFilled (at + 2 + length message) (filled + 1) left
    (slice_set places filled (record { offset = at + 2; length = length message })) blocks old
unfolding places_of
filled_more at filled message left places blocks old has below =
    let place : MoldPlace = record { offset = at + 2; length = length message } in
    let more : List MoldPlace = slice_set places filled place in
    let next : suc filled ≡ filled + 1 = omega arith in
    let behind : at + (2 + length message) ≡ at + 2 + length message = omega arith in
    record {
      told =
          ap (λ (n : ℕ). written_from n (places_of (at + 2 + length message) left) more) (sym next)
          ∙ ap (λ (n : ℕ). written_from (suc filled) (places_of n left) more) (sym behind)
          ∙ one_written filled place (places_of (at + (2 + length message)) left) places below
          ∙ has.told;
      room = omega (arith, length-set places filled place);
      bound = omega (arith, has.bound, sum_by-cons (λ m. 2 + length m) message left);
    }

pub filled_full :
    (at filled : ℕ) (left : List (List ℕ)) (places : List MoldPlace) (blocks : List (List ℕ)) (old : List MoldPlace) →
    HasFilled at filled left places blocks old → filled ≡ length places →
    places ≡ written_front (places_of HEADER_LENGTH blocks) old
filled_full at filled left places blocks old has full =
    sym (all_written filled (places_of at left) places full) ∙ has.told

pub filled_all :
    (at filled : ℕ) (places : List MoldPlace) (blocks : List (List ℕ)) (old : List MoldPlace) →
    HasFilled at filled [] places blocks old → places ≡ written_front (places_of HEADER_LENGTH blocks) old
unfolding places_of
filled_all at filled places blocks old has = sym (none_left filled places) ∙ has.told

-- If there are no places, the array stays.
pub no_places : (old : List MoldPlace) → written_front (places_of HEADER_LENGTH []) old ≡ old
unfolding places_of
no_places old = none_left 0 old

length-places : (at : ℕ) (messages : List (List ℕ)) → length (places_of at messages) ≡ length messages
unfolding places_of
length-places at [] = refl
length-places at (message ∷ messages) = ap suc (length-places (at + (2 + length message)) messages)

abbrev place_at : ℕ → ℕ → MoldPlace
place_at offset len = record { offset = offset; length = len }

-- The place of a message among all places.
place_found :
    (at : ℕ) (before behind : List (List ℕ)) (message : List ℕ) →
    slice_get (places_of at (before ++ message ∷ behind)) (length before)
    ≡ Some (record { offset = at + sum_by (λ m. 2 + length m) before + 2; length = length message })
unfolding places_of
place_found at [] behind message =
    ap (λ (p : MoldPlace). Some p)
    (ap (λ (n : ℕ). place_at n (length message)) (omega arith))
place_found at (first ∷ before) behind message =
    place_found (at + (2 + length first)) before behind message
    ∙ ap (λ (p : MoldPlace). Some p)
    (ap (λ (n : ℕ). place_at n (length message)) (omega (arith, sum_by-cons (λ m. 2 + length m) first before)))

-- After `written_front` the first elements are the new ones, and the others are the old ones.
get_written :
    (i : ℕ) (found old : List MoldPlace) → i < length found → i < length old →
    slice_get (written_front found old) i ≡ slice_get found i
get_written i [] old some room = absurd (omega arith)
get_written i (place ∷ found) [] some room = absurd (omega arith)
get_written zero (place ∷ found) (first ∷ old) some room = refl
get_written (suc i) (place ∷ found) (first ∷ old) some room = get_written i found old (omega arith) (omega arith)

get_kept :
    (i : ℕ) (found old : List MoldPlace) → length found ≤ i → slice_get (written_front found old) i ≡ slice_get old i
get_kept i [] old behind = ap (λ (t : List MoldPlace). slice_get t i) (none_left 0 old)
get_kept i (place ∷ found) [] behind = refl
get_kept zero (place ∷ found) (first ∷ old) behind = absurd (omega arith)
get_kept (suc i) (place ∷ found) (first ∷ old) behind = get_kept i found old (omega arith)

-- The messages of a packet have their places in the array, as far as it has room.
pub placed :
    (messages before behind : List (List ℕ)) (message : List ℕ) (old : List MoldPlace) →
    messages ≡ before ++ message ∷ behind → length before < length old →
    slice_get (written_front (places_of HEADER_LENGTH messages) old) (length before)
    ≡ Some (record { offset = packet_length before + 2; length = length message })
unfolding packet_length
placed messages before behind message old parts room =
    get_written (length before) (places_of HEADER_LENGTH messages) old
    (omega (arith, length-places HEADER_LENGTH messages, ap (λ (t : List (List ℕ)). length t) parts, length-append before (message ∷ behind)))
    room
    ∙ ap (λ (t : List (List ℕ)). slice_get (places_of HEADER_LENGTH t) (length before)) parts
    ∙ place_found HEADER_LENGTH before behind message

pub kept :
    (messages : List (List ℕ)) (old : List MoldPlace) (i : ℕ) → length messages ≤ i →
    slice_get (written_front (places_of HEADER_LENGTH messages) old) i ≡ slice_get old i
kept messages old i behind = get_kept i (places_of HEADER_LENGTH messages) old (omega (arith, length-places HEADER_LENGTH messages))

some_is : (one other : MoldPlace) → Some one ≡ Some other → one ≡ other
some_is one other same = ap (λ (found : Option MoldPlace). unwrap_or found one) same

pub lies_there :
    (bytes : List ℕ) (at : ℕ) (message : List ℕ) (place : MoldPlace) →
    Some place ≡ Some (record { offset = at; length = length message }) →
    take (length message) (drop at bytes) ≡ message → take place.length (drop place.offset bytes) ≡ message
lies_there bytes at message place found lies =
    let is : place ≡ record { offset = at; length = length message } = some_is _ _ found in
    ap (λ (p : MoldPlace). take p.length (drop p.offset bytes)) is ∙ lies
