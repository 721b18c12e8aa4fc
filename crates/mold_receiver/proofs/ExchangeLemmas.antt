-- A run that is delivered from the memory of its segment.
use Rattle.std.proofs.Common.{◌≡◌, ℕ, zero, suc, ◌+◌, ◌-◌, ◌<◌, ◌≤◌, ◌^◌, Bool, true, cond, eqb, List, [], ◌∷◌, ◌++◌}
use Rattle.std.proofs.Common.{length, length-append, take, drop, add-one, refl, sym, ap, subst, ◌∙◌, arith, replicate}
use Rattle.std.specs.Prelude.{Option, None, Some, false, is_some, min, slice_get}
use Rattle.std.specs.Option.{option_map}
use Rattle.std.proofs.lemmas.Bool.{eq-eqb}
use Rattle.std.proofs.lemmas.List.{append-nil, length-drop, length-replicate, take-append-drop}
use Rattle.mold_messages.specs.Offsets.{pieces, IsRising, start_at}
use Rattle.mold_messages.specs.Parts.{AreWithin, Marked, marked_by}
use Rattle.mold_wire.specs.declared.limits.TheConstants.{MAX_WIDE_WINDOW}
use Rattle.mold_receiver.specs.declared.place.Place.{Place}
use Rattle.mold_receiver.specs.declared.segments.Segments.{Segments}
use Rattle.mold_receiver.specs.declared.shelf.Shelf.{Shelf}
use Rattle.mold_receiver.specs.Batch.{Handed, followed_by, handed_from}
use Rattle.mold_receiver.specs.Handing.{AreNumbered, HasDelivered, run_in}
use Rattle.mold_receiver.specs.Places.{IsBlockAt, count_in, end_from, ends_from, length_at, message_in, messages_from, place_at}
use Rattle.mold_receiver.specs.Ring.{IsListed}
use Rattle.mold_receiver.specs.Segments.{AreLost, HasLost, bytes_at, count_at, live_at, one_at}
use Rattle.mold_receiver.specs.Shelf.{IsExtent, IsKept, message_on, slots_in, slots_on}
use Rattle.mold_receiver.specs.Slots.{Slot, count_held, slot_at}
use Rattle.mold_receiver.specs.Store.{Message}
use Rattle.mold_receiver.proofs.BatchLemmas.{run_none, slot_within}
use Rattle.mold_receiver.proofs.ReleaseLemmas.{count_take_some, count_taken, held_more}
use Rattle.mold_receiver.proofs.RunLemmas.{end_low, get_within, message_get, messages_long, run_many}
use Rattle.mold_receiver.proofs.SegmentLemmas.{stays, stays_twice}
use Rattle.mold_receiver.proofs.SkipLemmas.{one_left}
use Rattle.mold_receiver.proofs.ShelfLemmas.{count_some, length_more, message_more, slot_in}

-- The offsets at which blocks end.
pub ends_more : (bytes : List ℕ) (start count : ℕ) →
    ends_from bytes start (count + 1) ≡ ends_from bytes start count ++ end_from bytes start (count + 1) ∷ []
ends_more bytes start count =
    let one : count + 1 ≡ suc count = add-one count in
    ap (ends_from bytes start) one
    ∙ ends_suc bytes start count
    ∙ ap (λ (n : ℕ). ends_from bytes start count ++ end_from bytes start n ∷ []) (sym one)
  where
    ends_suc : (bytes : List ℕ) (start count : ℕ) →
        ends_from bytes start (suc count) ≡ ends_from bytes start count ++ end_from bytes start (suc count) ∷ []
    ends_suc bytes start zero = refl
    ends_suc bytes start (suc count) =
        let next : ℕ = start + 2 + length_at bytes start in
        ap (λ (t : List ℕ). next ∷ t) (ends_suc bytes next count)

ends_long : (bytes : List ℕ) (start count : ℕ) → length (ends_from bytes start count) ≡ count
ends_long bytes start zero = refl
ends_long bytes start (suc count) = ap suc (ends_long bytes (start + 2 + length_at bytes start) count)

pub ends_last : (bytes : List ℕ) (start count : ℕ) →
    start_at start (ends_from bytes start count) (length (ends_from bytes start count)) ≡ end_from bytes start count
unfolding start_at
ends_last bytes start zero = refl
ends_last bytes start (suc count) = ends_last bytes (start + 2 + length_at bytes start) count

ends_rise : (bytes : List ℕ) (start count : ℕ) →
    IsRising 2 start (ends_from bytes start count) (end_from bytes start count)
unfolding IsRising
ends_rise bytes start zero = refl
ends_rise bytes start (suc count) = (omega arith, ends_rise bytes (start + 2 + length_at bytes start) count)

pub ends_within : (bytes ends : List ℕ) (count : ℕ) → ends ≡ ends_from bytes 0 count →
    end_from bytes 0 count ≤ length bytes → AreWithin ends (length bytes)
ends_within bytes ends count is fits =
    let last = ends_last bytes 0 count in
    subst (λ (t : List ℕ). AreWithin t (length bytes)) (sym is) (
      subst (λ (n : ℕ). IsRising 2 0 (ends_from bytes 0 count) n) (sym last) (ends_rise bytes 0 count),
      omega (arith, last, fits),
    )

pieces_there : (bytes : List ℕ) (start count : ℕ) →
    pieces 2 start (ends_from bytes start count) bytes ≡ messages_from bytes start count
unfolding pieces
pieces_there bytes start zero = refl
pieces_there bytes start (suc count) =
    let next : ℕ = start + 2 + length_at bytes start in
    let long : next - (start + 2) ≡ length_at bytes start = omega arith in
    ap (λ (n : ℕ). take n (drop (start + 2) bytes) ∷ pieces 2 next (ends_from bytes next count) bytes) long
    ∙ ap (λ (t : List Message). message_in bytes start ∷ t) (pieces_there bytes next count)

-- The messages of a list that takes over memory with these blocks.
pub list_messages : (bytes ends : List ℕ) (count : ℕ) (list : Marked) → ends ≡ ends_from bytes 0 count →
    list ≡ marked_by ends bytes → list.messages ≡ messages_from bytes 0 count
list_messages bytes ends count list is made =
    ap (λ (l : Marked). l.messages) made
    ∙ ap (λ (t : List ℕ). pieces 2 0 t bytes) is
    ∙ pieces_there bytes 0 count

pub list_end : (bytes ends : List ℕ) (count : ℕ) (list : Marked) → ends ≡ ends_from bytes 0 count →
    list ≡ marked_by ends bytes → list.end ≡ end_from bytes 0 count
list_end bytes ends count list is made =
    ap (λ (l : Marked). l.end) made
    ∙ ap (λ (t : List ℕ). start_at 0 t (length t)) is
    ∙ ends_last bytes 0 count

followed_none : (next : ℕ) (ms : List Message) →
    handed_from next ms ≡ followed_by (record { first = 0; messages = [] }) next ms
followed_none next [] = refl
followed_none next (m ∷ ms) = refl

pub batch_is : (old : Handed) (next : ℕ) (ms list : List Message) → old ≡ record { first = 0; messages = [] } →
    list ≡ ms → handed_from next list ≡ followed_by old next ms
batch_is old next ms list empty is =
    ap (handed_from next) is
    ∙ followed_none next ms
    ∙ ap (λ (b : Handed). followed_by b next ms) (sym empty)

-- Bytes that follow the blocks change none of them.
pub end_same : (bytes more : List ℕ) (start count : ℕ) → end_from bytes start count ≤ length bytes →
    end_from (bytes ++ more) start count ≡ end_from bytes start count
end_same bytes more start zero fits = refl
end_same bytes more start (suc count) fits =
    let next : ℕ = start + 2 + length_at bytes start in
    let there : IsBlockAt bytes start = omega (arith, end_low bytes next count, fits) in
    ap (λ (n : ℕ). end_from (bytes ++ more) (start + 2 + n) count) (length_more bytes more start there)
    ∙ end_same bytes more next count fits

pub messages_same : (bytes more : List ℕ) (start count : ℕ) → end_from bytes start count ≤ length bytes →
    messages_from (bytes ++ more) start count ≡ messages_from bytes start count
messages_same bytes more start zero fits = refl
messages_same bytes more start (suc count) fits =
    let next : ℕ = start + 2 + length_at bytes start in
    let there : IsBlockAt bytes start = omega (arith, end_low bytes next count, fits) in
    ap (λ (m : Message). m ∷ messages_from (bytes ++ more) (start + 2 + length_at (bytes ++ more) start) count)
    (message_more bytes more start there)
    ∙ ap (λ (n : ℕ). message_in bytes start ∷ messages_from (bytes ++ more) (start + 2 + n) count)
    (length_more bytes more start there)
    ∙ ap (λ (t : List Message). message_in bytes start ∷ t) (messages_same bytes more next count fits)

pub ends_same : (bytes more : List ℕ) (start count : ℕ) → end_from bytes start count ≤ length bytes →
    ends_from (bytes ++ more) start count ≡ ends_from bytes start count
ends_same bytes more start zero fits = refl
ends_same bytes more start (suc count) fits =
    let next : ℕ = start + 2 + length_at bytes start in
    let there : IsBlockAt bytes start = omega (arith, end_low bytes next count, fits) in
    ap (λ (n : ℕ). (start + 2 + n) ∷ ends_from (bytes ++ more) (start + 2 + n) count)
    (length_more bytes more start there)
    ∙ ap (λ (t : List ℕ). next ∷ t) (ends_same bytes more next count fits)

-- The memory of a segment begins with its bytes in use, which are `count` blocks.
module _ (bytes memory ends : List ℕ) (count : ℕ) (begins : take (length bytes) memory ≡ bytes)
    (is : ends ≡ ends_from bytes 0 count) (whole : end_from bytes 0 count ≡ length bytes) where
  abbrev rest : List ℕ
  rest = drop (length bytes) memory

  parts : memory ≡ bytes ++ rest
  parts = sym (take-append-drop (length bytes) memory) ∙ ap (λ (t : List ℕ). t ++ rest) begins

  pub memory_count : length ends ≡ count
  memory_count = ap (λ (t : List ℕ). length t) is ∙ ends_long bytes 0 count

  pub memory_ends : ends ≡ ends_from memory 0 (length ends)
  memory_ends =
      is
      ∙ sym (ends_same bytes rest 0 count (omega (arith, whole)))
      ∙ ap (λ (t : List ℕ). ends_from t 0 count) (sym parts)
      ∙ ap (ends_from memory 0) (sym memory_count)

  memory_end : end_from memory 0 (length ends) ≡ length bytes
  memory_end =
      ap (end_from memory 0) memory_count
      ∙ ap (λ (t : List ℕ). end_from t 0 count) parts
      ∙ end_same bytes rest 0 count (omega (arith, whole))
      ∙ whole

  pub memory_within : end_from memory 0 (length ends) ≤ length memory
  memory_within =
      omega (
        arith,
        memory_end,
        ap (λ (t : List ℕ). length t) parts,
        length-append bytes rest,
      )

  pub memory_messages : messages_from memory 0 (length ends) ≡ messages_from bytes 0 count
  memory_messages =
      ap (messages_from memory 0) memory_count
      ∙ ap (λ (t : List ℕ). messages_from t 0 count) parts
      ∙ messages_same bytes rest 0 count (omega (arith, whole))

-- Slots are dropped twice.
pub left_twice : (places now : List (Option Place)) (n m : ℕ) → now ≡ drop n places ++ replicate n None →
    n + m ≤ length places → drop m now ++ replicate m None ≡ drop (n + m) places ++ replicate (n + m) None
left_twice places now n zero is fits =
    append-nil now ∙ is ∙ ap (λ (k : ℕ). drop k places ++ replicate k None) (let e : n ≡ n + 0 = omega arith in e)
left_twice places now n (suc m) is fits =
    let some : List (Option Place) = drop m now ++ replicate m None in
    let before : some ≡ drop (n + m) places ++ replicate (n + m) None =
    left_twice places now n m is (omega (arith, fits)) in
    let same : length now ≡ length places =
    ap (λ (t : List (Option Place)). length t) is
    ∙ (let e : length (drop n places ++ replicate n None) ≡ length places = omega (
      arith,
      fits,
      length-append (drop n places) (replicate n None),
      length-drop n places,
      length-replicate {A = Option Place} n None,
    ) in e) in
    ap (λ (k : ℕ). drop k now ++ replicate k None) (let e : suc m ≡ m + 1 = omega arith in e)
    ∙ sym (one_left now some (drop 1 some ++ None ∷ []) m refl refl (omega (arith, fits, same)))
    ∙ one_left places some (drop 1 some ++ None ∷ []) (n + m) before refl (omega (arith, fits))
    ∙ ap (λ (k : ℕ). drop k places ++ replicate k None) (let e : n + m + 1 ≡ n + suc m = omega arith in e)

pub held_any : (one other : Segments) (places : List (Option Place)) →
    count_held (slots_in one places) ≡ count_held (slots_in other places)
held_any one other [] = refl
held_any one other (None ∷ places) = omega (arith, held_any one other places)
held_any one other (Some place ∷ places) = omega (arith, held_any one other places)

pub no_some : {A : Type 0} (o : Option A) → is_some o ≡ false → o ≡ None
no_some None none = refl
no_some (Some x) none = absurd (cc none)

count_zero : (segment key : ℕ) → count_at segment 0 key ≡ 0
count_zero segment key =
    elim (eqb segment key) as (λ (b : Bool). ◌≡◌ {A = ℕ} (cond b 0 0) 0) [ true ↦ refl | false ↦ refl ]

count_same : (segment count : ℕ) → count_at segment count segment ≡ count
count_same segment count = ap {B = ℕ} (λ (b : Bool). cond b count 0) (eq-eqb segment segment refl)

-- The slots from `slot` on have messages of one segment.
module _ (segments : Segments) (places : List (Option Place)) (slot segment : ℕ) (starts : ℕ → ℕ) where
  abbrev ArePlacesOf : ℕ → Type 0
  ArePlacesOf n = (i : ℕ) → i < n → place_at places (slot + i) ≡ Some (record { segment = segment; start = starts i })

  one_more : (count key : ℕ) → count_at segment (suc count) key ≡ count_at segment count key + one_at segment key
  one_more count key =
      elim (eqb segment key) as (λ (b : Bool). ◌≡◌ {A = ℕ} (cond b (suc count) 0) (cond b count 0 + cond b 1 0)) [
        | true ↦ omega arith
        | false ↦ refl
      ]

  pub count_run : (n : ℕ) → ArePlacesOf n → (key : ℕ) →
      count_in key (take (slot + n) places) ≡ count_in key (take slot places) + count_at segment n key
  count_run zero there key =
      omega (
        arith,
        ap (λ (k : ℕ). count_in key (take k places)) (let e : slot + 0 ≡ slot = omega arith in e),
        count_zero segment key,
      )
  count_run (suc n) there key =
      omega (
        arith,
        ap (λ (k : ℕ). count_in key (take k places)) (let e : slot + suc n ≡ suc (slot + n) = omega arith in e),
        count_take_some places (slot + n) _ key (there n (omega arith)),
        count_run n (λ i low. there i (omega (arith, low))) key,
        one_more n key,
      )

  pub held_run : (n : ℕ) → ArePlacesOf n →
      count_held (slots_in segments (take (slot + n) places)) ≡ count_held (slots_in segments (take slot places)) + n
  held_run zero there =
      omega (
        arith,
        ap (λ (k : ℕ). count_held (slots_in segments (take k places))) (let e : slot + 0 ≡ slot = omega arith in e),
      )
  held_run (suc n) there =
      omega (
        arith,
        ap (λ (k : ℕ). count_held (slots_in segments (take k places)))
            (let e : slot + suc n ≡ slot + n + 1 = omega arith in e),
        held_more segments places (slot + n) _ (there n (omega arith)),
        held_run n (λ i low. there i (omega (arith, low))),
      )

-- The messages of a segment that were listed.
pub extent_listed : (shelf : Shelf) (slot count : ℕ) (first : Place) (ends : List ℕ) → IsKept shelf →
    place_at shelf.ring slot ≡ Some first → first.start ≡ 0 → count ≡ live_at shelf.segments first.segment →
    IsListed shelf.ring slot first.segment count (bytes_at shelf.segments first.segment) ends →
    IsExtent shelf slot first count (length (bytes_at shelf.segments first.segment))
extent_listed shelf slot count first ends kept there begins live listed =
    let bytes = bytes_at shelf.segments first.segment in
    record {
      some = omega (arith, live, kept.live first.segment, count_some shelf.ring slot first there);
      ends = sym listed.whole ∙ ap (λ (n : ℕ). end_from bytes n count) (sym begins);
      within = omega arith;
      there = λ i low.
          listed.there i low
          ∙ ap (λ (n : ℕ). Some (record { segment = first.segment; start = end_from bytes n i })) (sym begins);
    }

-- A run that is all of a segment, and the empty slot after it.
module _ (shelf : Shelf) (slot count end next : ℕ) (first : Place) (extent : IsExtent shelf slot first count end) where
  abbrev bytes : List ℕ
  bytes = bytes_at shelf.segments first.segment

  whole_there : (i : ℕ) (m : Message) → slice_get (messages_from bytes first.start count) i ≡ Some m →
      slot_at (slots_on shelf) (slot + i) ≡ Some m
  whole_there i m at =
      let low : i < count =
      omega (arith, get_within (messages_from bytes first.start count) i m at, messages_long bytes first.start count) in
      slot_in shelf.segments shelf.ring (slot + i)
      ∙ ap (option_map (message_on shelf.segments)) (extent.there i low)
      ∙ sym (message_get bytes first.start count i low)
      ∙ at

  pub run_whole : slot_at (slots_on shelf) (slot + count) ≡ None →
      run_in (slots_on shelf) slot ≡ messages_from bytes first.start count
  run_whole none =
      let ms = messages_from bytes first.start count in
      let last : slot_at (slots_on shelf) (slot + length ms) ≡ None =
      ap (λ (n : ℕ). slot_at (slots_on shelf) (slot + n)) (messages_long bytes first.start count) ∙ none in
      run_many (slots_on shelf) slot ms whole_there
      ∙ ap (λ (t : List Message). ms ++ t) (run_none (slots_on shelf) (slot + length ms) last)
      ∙ append-nil ms

  last_message : slot_at (slots_on shelf) (slot + (count - 1)) ≡ Some
      (message_in bytes (end_from bytes first.start (count - 1)))
  last_message =
      whole_there (count - 1) (message_in bytes (end_from bytes first.start (count - 1)))
      (message_get bytes first.start count (count - 1) (omega (arith, extent.some)))

  pub whole_fits : slot + count ≤ length (slots_on shelf)
  whole_fits =
      omega (arith, extent.some, slot_within (slots_on shelf) (slot + (count - 1)) _ last_message)

  pub whole_numbered : AreNumbered (slots_on shelf) next → next + slot + count < 2 ^ 64
  whole_numbered numbered =
      omega (arith, extent.some, numbered (slot + (count - 1)) _ last_message)

  -- The messages of the run, and those in the slots before it.
  run_counted : (key : ℕ) → count_in key (take (slot + count) shelf.ring)
      ≡ count_in key (take slot shelf.ring) + count_at first.segment count key
  run_counted key =
      count_run shelf.segments shelf.ring slot first.segment (λ i. end_from bytes first.start i) count extent.there key

  pub run_held : count_held (slots_in shelf.segments (take (slot + count) shelf.ring))
      ≡ count_held (slots_in shelf.segments (take slot shelf.ring)) + count
  run_held =
      held_run shelf.segments shelf.ring slot first.segment (λ i. end_from bytes first.start i) count extent.there

  -- The messages in the slots before the run left, and those of the run are still there.
  module _ (middle : Segments) (kept : IsKept shelf) (live : count ≡ live_at shelf.segments first.segment)
      (left : AreLost shelf.segments middle (take slot shelf.ring)) where
    pub run_live : live_at middle first.segment ≡ count
    run_live =
        omega (
          arith,
          live,
          left.live first.segment,
          kept.live first.segment,
          run_counted first.segment,
          count_same first.segment count,
          count_taken shelf.ring (slot + count) first.segment,
        )

    pub run_bytes : bytes_at middle first.segment ≡ bytes
    run_bytes =
        stays shelf.segments middle first.segment (left.bytes first.segment) (omega (arith, run_live, extent.some))

    pub run_lost : (new : Segments) → HasLost middle new first.segment (live_at middle first.segment) →
        AreLost shelf.segments new (take (slot + count) shelf.ring)
    run_lost new lost = record {
      live = λ key.
          omega (
            arith,
            lost.live key,
            left.live key,
            run_counted key,
            ap (λ (n : ℕ). count_at first.segment n key) run_live,
          );
      bytes = λ key.
          stays_twice shelf.segments middle new key (left.bytes key) (lost.bytes key) (omega (arith, lost.live key));
    }

  pub has_delivered : (new : List Slot) (before after : Handed) → slot_at (slots_on shelf) (slot + count) ≡ None →
      first.start ≡ 0 → AreNumbered (slots_on shelf) next → length (slots_on shelf) ≤ MAX_WIDE_WINDOW →
      after ≡ followed_by before (next + slot) (messages_from bytes 0 count) →
      new ≡ drop (slot + count) (slots_on shelf) ++ replicate (slot + count) None →
      HasDelivered (slots_on shelf) new before after next slot (slot + count)
  has_delivered new before after none begins numbered few pushed moved =
      let run : run_in (slots_on shelf) slot ≡ messages_from bytes 0 count =
      run_whole none ∙ ap (λ (n : ℕ). messages_from bytes n count) begins in
      let all : slot + count ≡ min (slot + count) (length (slots_on shelf)) = omega (arith, whole_fits) in
      record {
        batch = pushed ∙ ap (followed_by before (next + slot)) (sym run);
        stopped = omega (
          arith,
          ap (λ (t : List Message). length t) run,
          messages_long bytes 0 count,
        );
        fits = omega (arith, whole_numbered numbered);
        near = omega (arith, whole_fits, few);
        moved = moved ∙ ap (λ (n : ℕ). drop n (slots_on shelf) ++ replicate n None) all;
      }
