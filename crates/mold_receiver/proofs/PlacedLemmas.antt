-- The places of a packet's blocks are written into empty slots.
use Rattle.std.proofs.Common.{◌≡◌, ℕ, zero, suc, ◌+◌, ◌*◌, ◌≤◌, Bool, true, false, cond, eqb, ◌&&◌, List, []}
use Rattle.std.proofs.Common.{◌∷◌, ◌++◌, length, length-append, take, drop, slice_set, replicate, refl, sym, ap, subst, ◌∙◌, arith}
use Rattle.std.proofs.Math.Seq.{take-suc-set}
use Rattle.std.specs.Prelude.{Option, Some, is_none, is_some}
use Rattle.std.specs.List.{AllByRecursion}
use Rattle.std.specs.Option.{option_map}
use Rattle.std.proofs.lemmas.Bool.{cond-true, lt-ltb}
use Rattle.std.proofs.lemmas.List.{append-nil, append_assoc, drop-set-lt, length-map, length-set, map-set, take-append-drop}
use Rattle.mold_wire.specs.Block.{IsMessage, be16, block, blocks}
use Rattle.mold_receiver.specs.declared.place.Place.{Place}
use Rattle.mold_receiver.specs.declared.segments.Segments.{Segments}
use Rattle.mold_receiver.specs.declared.shelf.Shelf.{Shelf}
use Rattle.mold_receiver.specs.Keeping.{AreFree, filled, fresh, is_fresh, put_fresh}
use Rattle.mold_receiver.specs.Places.{count_in}
use Rattle.mold_receiver.specs.Ring.{placed}
use Rattle.mold_receiver.specs.Segments.{AreSegments, HasGained, bytes_at, count_at, one_at}
use Rattle.mold_receiver.specs.Shelf.{AreBlocksAt, IsKept, message_on, slots_in, slots_on}
use Rattle.mold_receiver.specs.Slots.{AreSlots, Slot, slot_at}
use Rattle.mold_receiver.specs.Store.{Message}
use Rattle.mold_receiver.proofs.MarkLemmas.{block_there, is_there, message_there}
use Rattle.mold_receiver.proofs.ShelfLemmas.{HasOld, count_put, no_place, slots_more, within_more, within_put}
use Rattle.mold_receiver.proofs.SlotLemmas.{are_put, slot_put_other}

-- The first of the slots is empty, and the others stay empty when it is filled.
free_first : (slots : List Slot) (slot n : ℕ) → AreFree slots slot (suc n) → is_fresh slots slot ≡ true
free_first slots slot n free =
    ap (λ (b : Bool). b && is_none (slot_at slots slot)) (lt-ltb slot (length slots) (omega (arith, free.0)))
    ∙ ap is_none (free.1 slot (omega arith) (omega arith))

free_rest : (slots : List Slot) (slot n : ℕ) (m : Message) → AreFree slots slot (suc n) →
    AreFree (slice_set slots slot (Some m)) (suc slot) n
free_rest slots slot n m free = (
  omega (arith, free.0, length-set slots slot (Some m)),
  λ i low high.
      slot_put_other slots slot (Some m) i (λ e. omega (arith, e, low))
      ∙ free.1 i (omega (arith, low)) (omega (arith, high)),
)

put_free : (slots : List Slot) (slot n : ℕ) (m : Message) → AreFree slots slot (suc n) →
    put_fresh slots slot m ≡ slice_set slots slot (Some m)
put_free slots slot n m free =
    cond-true (is_fresh slots slot) (slice_set slots slot (Some m)) slots (free_first slots slot n free)

-- All messages of a packet whose slots are empty are new.
pub all_fresh : (slots : List Slot) (slot : ℕ) (ms : List Message) → AreFree slots slot (length ms) →
    length (fresh slots slot ms) ≡ length ms
all_fresh slots slot [] free = refl
all_fresh slots slot (m ∷ ms) free =
    let rest : length (fresh slots (suc slot) ms) ≡ length ms =
    all_fresh slots (suc slot) ms
    (omega (arith, free.0), λ i low high. free.1 i (omega (arith, low)) (omega (arith, high))) in
    ap (λ (t : List (ℕ × Message)). length t)
    (cond-true (is_fresh slots slot) ((slot, m) ∷ fresh slots (suc slot) ms) (fresh slots (suc slot) ms)
    (free_first slots slot (length ms) free))
    ∙ ap suc rest

-- The flags of `n` slots from `slot` on are set one after the other.
abbrev set_flags : List Bool → ℕ → ℕ → List Bool
set_flags flags slot zero = flags
set_flags flags slot (suc n) = set_flags (slice_set flags slot true) (suc slot) n

are_filled : (slots : List Slot) (count : ℕ) (flags : List Bool) (slot : ℕ) (ms : List Message) →
    AreSlots slots count flags → AreFree slots slot (length ms) →
    AreSlots (filled slots slot ms) (count + length ms) (set_flags flags slot (length ms))
are_filled slots count flags slot [] are free =
    subst (λ (n : ℕ). AreSlots slots n flags) (let e : count ≡ count + 0 = omega arith in e) are
are_filled slots count flags slot (m ∷ ms) are free =
    let next = slice_set slots slot (Some m) in
    let one = are_put slots count flags slot m are (omega (arith, free.0)) (free.1 slot (omega arith) (omega arith)) in
    let all = are_filled next (count + 1) (slice_set flags slot true) (suc slot) ms one
    (free_rest slots slot (length ms) m free) in
    let same : filled next (suc slot) ms ≡ filled slots slot (m ∷ ms) =
    ap (λ (t : List Slot). filled t (suc slot) ms) (sym (put_free slots slot (length ms) m free)) in
    let sum : count + 1 + length ms ≡ count + suc (length ms) = omega arith in
    subst (λ (t : List Slot). AreSlots t (count + suc (length ms)) (set_flags flags slot (suc (length ms)))) same
    (subst (λ (n : ℕ). AreSlots (filled next (suc slot) ms) n (set_flags flags slot (suc (length ms)))) sum all)

module _ (segments : Segments) (segment : ℕ) where
  -- The rest of the packet, after its first message.
  slots_put : (places : List (Option Place)) (slot start : ℕ) (m : Message) (ms : List Message) → IsMessage m →
      drop start (bytes_at segments segment) ≡ blocks (m ∷ ms) →
      slots_in segments (slice_set places slot (Some (record { segment = segment; start = start }))) ≡ slice_set
      (slots_in segments places) slot (Some m)
  slots_put places slot start m ms short there =
      map-set (option_map (message_on segments)) places slot (Some (record { segment = segment; start = start }))
      ∙ ap (λ (t : Message). slice_set (slots_in segments places) slot (Some t))
      (message_there (bytes_at segments segment) start m ms short there)

  pub placed_slots : (places : List (Option Place)) (slot start : ℕ) (ms : List Message) →
      drop start (bytes_at segments segment) ≡ blocks ms → AllByRecursion IsMessage ms →
      AreFree (slots_in segments places) slot (length ms) →
      slots_in segments (placed places slot segment start ms) ≡ filled (slots_in segments places) slot ms
  placed_slots places slot start [] there each free = refl
  placed_slots places slot start (m ∷ ms) there each free =
      let slots = slots_in segments places in
      let put = slots_put places slot start m ms each.0 there in
      let next = slice_set places slot (Some (record { segment = segment; start = start })) in
      placed_slots next (suc slot) (start + 2 + length m) ms
      (is_there (bytes_at segments segment) start m ms there).behind each.1
      (subst (λ (t : List Slot). AreFree t (suc slot) (length ms)) (sym put) (free_rest slots slot (length ms) m free))
      ∙ ap (λ (t : List Slot). filled t (suc slot) ms) (put ∙ sym (put_free slots slot (length ms) m free))

  pub placed_within : (places : List (Option Place)) (slot start : ℕ) (ms : List Message) →
      drop start (bytes_at segments segment) ≡ blocks ms → AllByRecursion IsMessage ms →
      slot + length ms ≤ length places → AreBlocksAt segments places →
      AreBlocksAt segments (placed places slot segment start ms)
  placed_within places slot start [] there each fits within = within
  placed_within places slot start (m ∷ ms) there each fits within =
      let place : Place = record { segment = segment; start = start } in
      placed_within (slice_set places slot (Some place)) (suc slot) (start + 2 + length m) ms
      (is_there (bytes_at segments segment) start m ms there).behind each.1
      (omega (arith, fits, length-set places slot (Some place)))
      (within_put segments places slot place within (omega (arith, fits))
      (block_there (bytes_at segments segment) start m ms each.0 there))

  count_more : (n key : ℕ) → count_at segment (suc n) key ≡ one_at segment key + count_at segment n key
  count_more n key =
      elim (eqb segment key) as (λ (b : Bool). ◌≡◌ {A = ℕ} (cond b (suc n) 0) (cond b 1 0 + cond b n 0)) [
        | true ↦ omega arith
        | false ↦ refl
      ]

  count_zero : (key : ℕ) → count_at segment 0 key ≡ 0
  count_zero key = elim (eqb segment key) as (λ (b : Bool). ◌≡◌ {A = ℕ} (cond b 0 0) 0) [ true ↦ refl | false ↦ refl ]

  pub placed_count : (places : List (Option Place)) (slot start : ℕ) (ms : List Message) (key : ℕ) →
      drop start (bytes_at segments segment) ≡ blocks ms → AllByRecursion IsMessage ms →
      AreFree (slots_in segments places) slot (length ms) →
      count_in key (placed places slot segment start ms) ≡ count_in key places + count_at segment (length ms) key
  placed_count places slot start [] key there each free = omega (arith, count_zero key)
  placed_count places slot start (m ∷ ms) key there each free =
      let slots = slots_in segments places in
      let place : Place = record { segment = segment; start = start } in
      let put = slots_put places slot start m ms each.0 there in
      let rest = placed_count (slice_set places slot (Some place)) (suc slot) (start + 2 + length m) ms key
      (is_there (bytes_at segments segment) start m ms there).behind each.1
      (subst (λ (t : List Slot). AreFree t (suc slot) (length ms)) (sym put)
      (free_rest slots slot (length ms) m free)) in
      let one = count_put places slot place key
      (omega (arith, free.0, length-map places (option_map (message_on segments))))
      (no_place segments places slot (free.1 slot (omega arith) (omega arith))) in
      omega (arith, rest, one, count_more (length ms) key)

-- The flags of the slots from `slot` on.
pub flags_filled : (flags : List Bool) (slot n : ℕ) → slot + n ≤ length flags →
    take slot flags ++ replicate n true ++ drop (slot + n) flags ≡ set_flags flags slot n
flags_filled flags slot zero fits =
    ap (λ (t : List Bool). t ++ drop (slot + 0) flags) (append-nil (take slot flags))
    ∙ ap (λ (k : ℕ). take slot flags ++ drop k flags) (let e : slot + 0 ≡ slot = omega arith in e)
    ∙ take-append-drop slot flags
flags_filled flags slot (suc n) fits =
    let next = slice_set flags slot true in
    let head : take (suc slot) next ≡ take slot flags ++ true ∷ [] = take-suc-set flags slot true (omega (arith, fits)) in
    let tail : drop (suc slot + n) next ≡ drop (slot + suc n) flags =
    drop-set-lt (suc slot + n) flags slot true (omega arith)
    ∙ ap (λ (k : ℕ). drop k flags) (let e : suc slot + n ≡ slot + suc n = omega arith in e) in
    ap (λ (t : List Bool). t ++ drop (slot + suc n) flags)
    (sym (append_assoc (take slot flags) (true ∷ []) (replicate n true)))
    ∙ ap (λ (t : List Bool). t ++ replicate n true ++ drop (slot + suc n) flags) (sym head)
    ∙ ap (λ (t : List Bool). take (suc slot) next ++ replicate n true ++ t) (sym tail)
    ∙ flags_filled next (suc slot) n (omega (arith, fits, length-set flags slot true))

-- A shelf after the messages of a packet are put into empty slots.
module _ (old : Shelf) (slot : ℕ) (begin : Place) (ms : List Message) (kept : IsKept old)
    (free : AreFree (slots_on old) slot (length ms)) (each : AllByRecursion IsMessage ms)
    (there : drop begin.start (bytes_at old.segments begin.segment) ≡ blocks ms) where
  same_bytes : (segments : Segments) → HasGained old.segments segments begin.segment (length ms) →
      (places : List (Option Place)) → HasOld old.segments segments places
  same_bytes segments gained places i place is =
      ([], gained.bytes place.segment ∙ sym (append-nil (bytes_at old.segments place.segment)))

  ring_within : AreBlocksAt old.segments (placed old.ring slot begin.segment begin.start ms)
  ring_within =
      placed_within old.segments begin.segment old.ring slot begin.start ms there each
      (omega (arith, free.0, length-map old.ring (option_map (message_on old.segments)))) kept.within

  pub filled_on : (ring : List (Option Place)) (segments : Segments) →
      ring ≡ placed old.ring slot begin.segment begin.start ms →
      HasGained old.segments segments begin.segment (length ms) →
      slots_in segments ring ≡ filled (slots_on old) slot ms
  filled_on ring segments is gained =
      ap (slots_in segments) is
      ∙ slots_more old.segments segments (placed old.ring slot begin.segment begin.start ms) ring_within
      (same_bytes segments gained (placed old.ring slot begin.segment begin.start ms))
      ∙ placed_slots old.segments begin.segment old.ring slot begin.start ms there each free

  pub kept_filled : (ring : List (Option Place)) (segments : Segments) (held : ℕ) (occupied : List Bool) →
      ring ≡ placed old.ring slot begin.segment begin.start ms → AreSegments segments →
      HasGained old.segments segments begin.segment (length ms) → held ≡ old.held + length ms →
      occupied ≡ take slot old.occupied ++ replicate (length ms) true ++ drop (slot + length ms) old.occupied →
      IsKept (record { ring = ring; occupied = occupied; segments = segments; held = held })
  kept_filled ring segments held occupied is whole gained counted flags = record {
    slots = rw (
      filled_on ring segments is gained,
      counted,
      flags,
      flags_filled old.occupied slot (length ms) (omega (
        arith,
        free.0,
        ap (λ (t : List Bool). length t) kept.slots.flagged,
        length-map (slots_on old) is_some,
      )),
    ) (are_filled (slots_on old) old.held old.occupied slot ms kept.slots free);
    segments = whole;
    within = subst (λ (t : List (Option Place)). AreBlocksAt segments t) (sym is)
        (within_more old.segments segments (placed old.ring slot begin.segment begin.start ms) ring_within
        (same_bytes segments gained (placed old.ring slot begin.segment begin.start ms)));
    live = λ key.
        gained.live key
        ∙ ap (λ (n : ℕ). n + count_at begin.segment (length ms) key) (kept.live key)
        ∙ sym (placed_count old.segments begin.segment old.ring slot begin.start ms key there each free)
        ∙ ap (count_in key) (sym is);
  }

-- A packet with a message has bytes in its segment, and each of its messages has two bytes or more.
pub blocks_long : (ms : List Message) → 2 * length ms ≤ length (blocks ms)
blocks_long [] = omega arith
blocks_long (m ∷ ms) =
    omega (
      arith,
      blocks_long ms,
      length-append (block m) (blocks ms),
      length-append (be16 (length m)) m,
    )
