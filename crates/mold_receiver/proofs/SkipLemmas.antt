-- The first slots are dropped with their messages, and empty ones follow.
use Rattle.std.proofs.Common.{◌≡◌, ℕ, zero, suc, ◌+◌, ◌-◌, ◌<◌, ◌≤◌, Bool, false, List, [], ◌∷◌, ◌++◌, length, take, drop}
use Rattle.std.proofs.Common.{replicate, length-append, refl, sym, ap, subst, ◌∙◌, arith}
use Rattle.std.specs.Prelude.{Option, None, Some, is_some, map, slice_get}
use Rattle.std.specs.Option.{option_flatten, option_map}
use Rattle.std.proofs.lemmas.List.{append-nil, drop-map, length-drop, length-replicate, map-append, take-map}
use Rattle.mold_receiver.specs.declared.place.Place.{Place}
use Rattle.mold_receiver.specs.declared.segments.Segments.{Segments}
use Rattle.mold_receiver.specs.declared.shelf.Shelf.{Shelf}
use Rattle.mold_receiver.specs.Places.{count_in, place_at}
use Rattle.mold_receiver.specs.Segments.{AreLost, AreSegments, bytes_at, live_at}
use Rattle.mold_receiver.specs.Shelf.{AreBlocksAt, IsKept, message_on, slots_in, slots_on}
use Rattle.mold_receiver.specs.Slots.{AreSlots, Slot, count_held, flags_of}
use Rattle.mold_receiver.proofs.ShelfLemmas.{HasOld, count_some, slots_more, within_more}
use Rattle.mold_receiver.proofs.SegmentLemmas.{stays}
use Rattle.mold_receiver.proofs.SlotLemmas.{empty_view, flags_empty}

-- Items of a list of which the first were dropped, and to which empty ones were appended.
module _ {A : Type 0} where
  item_none : (n i : ℕ) → option_flatten (slice_get (replicate {A = Option A} n None) i) ≡ None
  item_none zero i = refl
  item_none (suc n) zero = refl
  item_none (suc n) (suc i) = item_none n i

  item_padded : (xs : List (Option A)) (n i : ℕ) →
      option_flatten (slice_get (xs ++ replicate n None) i) ≡ option_flatten (slice_get xs i)
  item_padded [] n i = item_none n i
  item_padded (x ∷ xs) n zero = refl
  item_padded (x ∷ xs) n (suc i) = item_padded xs n i

  item_dropped : (n : ℕ) (xs : List (Option A)) (i : ℕ) →
      option_flatten (slice_get (drop n xs) i) ≡ option_flatten (slice_get xs (n + i))
  item_dropped zero xs i = ap (λ (k : ℕ). option_flatten (slice_get xs k)) (let e : i ≡ 0 + i = omega arith in e)
  item_dropped (suc n) [] i = refl
  item_dropped (suc n) (x ∷ xs) i =
      item_dropped n xs i
      ∙ ap (λ (k : ℕ). option_flatten (slice_get (x ∷ xs) k)) (let e : suc (n + i) ≡ suc n + i = omega arith in e)

pub place_skipped : (n : ℕ) (places : List (Option Place)) (i : ℕ) →
    place_at (drop n places ++ replicate n None) i ≡ place_at places (n + i)
place_skipped n places i = item_padded (drop n places) n i ∙ item_dropped n places i

-- One slot at a time.
pub first_left : (places now : List (Option Place)) (n : ℕ) → now ≡ drop n places ++ replicate n None →
    place_at now 0 ≡ place_at places n
first_left places now n is =
    ap (λ (t : List (Option Place)). place_at t 0) is
    ∙ place_skipped n places 0
    ∙ ap (λ (k : ℕ). place_at places k) (let e : n + 0 ≡ n = omega arith in e)

module _ {A : Type 0} (x : A) where
  replicate_last : (n : ℕ) → replicate n x ++ x ∷ [] ≡ replicate (suc n) x
  replicate_last zero = refl
  replicate_last (suc n) = ap (λ (t : List A). x ∷ t) (replicate_last n)

  padded_more : (xs : List A) (n : ℕ) → (xs ++ replicate n x) ++ x ∷ [] ≡ xs ++ replicate (suc n) x
  padded_more [] n = replicate_last n
  padded_more (y ∷ xs) n = ap (λ (t : List A). y ∷ t) (padded_more xs n)

  dropped_more : (n pad : ℕ) (xs : List A) → n < length xs →
      drop 1 (drop n xs ++ replicate pad x) ++ x ∷ [] ≡ drop (suc n) xs ++ replicate (suc pad) x
  dropped_more n pad [] inside = absurd (omega arith)
  dropped_more zero pad (y ∷ xs) inside = padded_more xs pad
  dropped_more (suc n) pad (y ∷ xs) inside = dropped_more n pad xs (omega arith)

pub one_left : (places now after : List (Option Place)) (n : ℕ) → now ≡ drop n places ++ replicate n None →
    after ≡ drop 1 now ++ None ∷ [] → n < length places →
    after ≡ drop (n + 1) places ++ replicate (n + 1) None
one_left places now after n is moved inside =
    moved
    ∙ ap (λ (t : List (Option Place)). drop 1 t ++ None ∷ []) is
    ∙ dropped_more None n n places inside
    ∙ ap (λ (k : ℕ). drop k places ++ replicate k None) (let e : suc n ≡ n + 1 = omega arith in e)

slots_skipped : (segments : Segments) (n : ℕ) (places : List (Option Place)) →
    slots_in segments (drop n places ++ replicate n None) ≡ drop n (slots_in segments places) ++ replicate n None
slots_skipped segments n places =
    let f = option_map (message_on segments) in
    map-append f (drop n places) (replicate n None)
    ∙ ap (λ (t : List Slot). t ++ map f (replicate n None)) (sym (drop-map f n places))
    ∙ ap (λ (t : List Slot). drop n (slots_in segments places) ++ t) (empty_view (message_on segments) n)

-- Counts of the two parts.
pub count_split : (places : List (Option Place)) (n key : ℕ) →
    count_in key (take n places) + count_in key (drop n places) ≡ count_in key places
count_split places zero key = omega arith
count_split [] (suc n) key = refl
count_split (None ∷ places) (suc n) key = count_split places n key
count_split (Some p ∷ places) (suc n) key = omega (arith, count_split places n key)

count_padding : (n key : ℕ) → count_in key (replicate n None) ≡ 0
count_padding zero key = refl
count_padding (suc n) key = count_padding n key

count_pad : (places : List (Option Place)) (n key : ℕ) →
    count_in key (places ++ replicate n None) ≡ count_in key places
count_pad [] n key = count_padding n key
count_pad (None ∷ places) n key = count_pad places n key
count_pad (Some p ∷ places) n key = omega (arith, count_pad places n key)

held_split : (slots : List Slot) (n : ℕ) → count_held (take n slots) + count_held (drop n slots) ≡ count_held slots
held_split slots zero = omega arith
held_split [] (suc n) = refl
held_split (None ∷ slots) (suc n) = omega (arith, held_split slots n)
held_split (Some m ∷ slots) (suc n) = omega (arith, held_split slots n)

held_padding : (n : ℕ) → count_held (replicate n None) ≡ 0
held_padding zero = refl
held_padding (suc n) = omega (arith, held_padding n)

held_pad : (slots : List Slot) (n : ℕ) → count_held (slots ++ replicate n None) ≡ count_held slots
held_pad [] n = held_padding n
held_pad (None ∷ slots) n = omega (arith, held_pad slots n)
held_pad (Some m ∷ slots) n = omega (arith, held_pad slots n)

flags_skipped : (slots : List Slot) (n : ℕ) →
    flags_of (drop n slots ++ replicate n None) ≡ drop n (flags_of slots) ++ replicate n false
flags_skipped slots n =
    let f : Slot → Bool = λ slot. is_some slot in
    map-append f (drop n slots) (replicate n None)
    ∙ ap (λ (t : List Bool). t ++ map f (replicate n None)) (sym (drop-map f n slots))
    ∙ ap (λ (t : List Bool). drop n (flags_of slots) ++ t) (flags_empty n)

-- The number of messages that leave.
pub held_first : (segments : Segments) (places : List (Option Place)) (n : ℕ) →
    count_held (slots_in segments (take n places)) + count_held (drop n (slots_in segments places)) ≡ count_held
    (slots_in segments places)
held_first segments places n =
    let f = option_map (message_on segments) in
    ap (λ (t : List Slot). count_held t + count_held (drop n (slots_in segments places))) (sym (take-map f n places))
    ∙ held_split (slots_in segments places) n

-- What a shelf has after its first `n` slots are dropped.
module _ (old : Shelf) (ring : List (Option Place)) (segments : Segments) (n : ℕ) (kept : IsKept old)
    (fits : n ≤ length (slots_on old)) (is : ring ≡ drop n old.ring ++ replicate n None)
    (whole : AreSegments segments) (lost : AreLost old.segments segments (take n old.ring)) where
  pub live_left : (key : ℕ) → live_at segments key ≡ count_in key ring
  live_left key =
      omega (
        arith,
        lost.live key,
        kept.live key,
        count_split old.ring n key,
        count_pad (drop n old.ring) n key,
        ap (count_in key) is,
      )

  has_left : HasOld old.segments segments ring
  has_left i place at = (
    [],
    stays old.segments segments place.segment (lost.bytes place.segment)
        (omega (arith, live_left place.segment, count_some ring i place at))
        ∙ sym (append-nil (bytes_at old.segments place.segment)),
  )

  within_left : AreBlocksAt old.segments ring
  within_left i place at =
      kept.within (n + i) place (sym (place_skipped n old.ring i)
      ∙ ap (λ (t : List (Option Place)). place_at t i) (sym is) ∙ at)

  pub skipped : slots_in segments ring ≡ drop n (slots_on old) ++ replicate n None
  skipped =
      slots_more old.segments segments ring within_left has_left
      ∙ ap (slots_in old.segments) is
      ∙ slots_skipped old.segments n old.ring

  are_skipped : (held : ℕ) (occupied : List Bool) →
      held ≡ old.held - count_held (slots_in old.segments (take n old.ring)) →
      occupied ≡ drop n old.occupied ++ replicate n false →
      AreSlots (drop n (slots_on old) ++ replicate n None) held occupied
  are_skipped held occupied counted flags =
      let slots = slots_on old in
      let same : length (drop n slots ++ replicate n None) ≡ length slots =
      omega (
        arith,
        fits,
        length-append (drop n slots) (replicate n None),
        length-drop n slots,
        length-replicate {A = Slot} n None,
      ) in
      record {
        some = omega (arith, kept.slots.some, same);
        few = omega (arith, kept.slots.few, same);
        counted = omega (
          arith,
          counted,
          kept.slots.counted,
          held_first old.segments old.ring n,
          held_pad (drop n slots) n,
        );
        flagged = flags ∙ ap (λ (t : List Bool). drop n t ++ replicate n false) kept.slots.flagged
            ∙ sym (flags_skipped slots n);
      }

  pub kept_skipped : (held : ℕ) (occupied : List Bool) →
      held ≡ old.held - count_held (slots_in old.segments (take n old.ring)) →
      occupied ≡ drop n old.occupied ++ replicate n false →
      IsKept (record { ring = ring; occupied = occupied; segments = segments; held = held })
  kept_skipped held occupied counted flags = record {
    slots = subst (λ (t : List Slot). AreSlots t held occupied) (sym skipped) (are_skipped held occupied counted flags);
    segments = whole;
    within = within_more old.segments segments ring within_left has_left;
    live = live_left;
  }
