-- Runs of stored messages.
use Rattle.std.proofs.Common.{◌≡◌, ℕ, zero, suc, ◌+◌, ◌-◌, ◌<◌, ◌≤◌, List, [], ◌∷◌, ◌++◌, length, length-append, take, drop}
use Rattle.std.proofs.Common.{append_assoc, inl, inr, refl, sym, ap, subst, ◌∙◌, arith, add-one}
use Rattle.std.specs.Prelude.{Option, None, Some, min, slice_get}
use Rattle.std.proofs.lemmas.List.{drop-drop, drop-take, length-drop, length-take}
use Rattle.byteorder.specs.Endian.{big_number}
use Rattle.mold_receiver.specs.Batch.{Handed, followed_by}
use Rattle.mold_receiver.specs.Handing.{run_in}
use Rattle.mold_receiver.specs.Places.{end_from, length_at, message_in, messages_from}
use Rattle.mold_receiver.specs.Slots.{Slot, slot_at}
use Rattle.std.proofs.lemmas.Bool.{cases_lt}
use Rattle.mold_receiver.specs.Store.{Message, behind_some, run_from}
use Rattle.mold_receiver.proofs.BatchLemmas.{IsHanding, followed_twice, run_more}
use Rattle.mold_receiver.proofs.StoreLemmas.{none_some}

-- Blocks that follow each other.
pub end_low : (bytes : List ℕ) (start count : ℕ) → start ≤ end_from bytes start count
end_low bytes start zero = omega arith
end_low bytes start (suc count) = omega (arith, end_low bytes (start + 2 + length_at bytes start) count)

pub messages_long : (bytes : List ℕ) (start count : ℕ) → length (messages_from bytes start count) ≡ count
messages_long bytes start zero = refl
messages_long bytes start (suc count) = ap suc (messages_long bytes (start + 2 + length_at bytes start) count)

pub end_more : (bytes : List ℕ) (start count : ℕ) →
    end_from bytes start (count + 1) ≡ end_from bytes start count + 2 + length_at bytes (end_from bytes start count)
end_more bytes start count = ap (end_from bytes start) (add-one count) ∙ end_suc bytes start count
  where
    end_suc : (bytes : List ℕ) (start count : ℕ) →
        end_from bytes start (suc count) ≡ end_from bytes start count + 2 + length_at bytes (end_from bytes start count)
    end_suc bytes start zero = refl
    end_suc bytes start (suc count) = end_suc bytes (start + 2 + length_at bytes start) count

pub end_rises : (bytes : List ℕ) (start i count : ℕ) → i ≤ count → end_from bytes start i ≤ end_from bytes start count
end_rises bytes start zero count low = end_low bytes start count
end_rises bytes start (suc i) zero low = absurd (omega (arith, low))
end_rises bytes start (suc i) (suc count) low = end_rises bytes (start + 2 + length_at bytes start) i count (omega (arith, low))

-- The message with index i.
pub message_get : (bytes : List ℕ) (start count i : ℕ) → i < count →
    slice_get (messages_from bytes start count) i ≡ Some (message_in bytes (end_from bytes start i))
message_get bytes start zero i within = absurd (omega (arith, within))
message_get bytes start (suc count) zero within = refl
message_get bytes start (suc count) (suc i) within =
    message_get bytes (start + 2 + length_at bytes start) count i (omega (arith, within))

pub get_within : (messages : List Message) (i : ℕ) (message : Message) → slice_get messages i ≡ Some message →
    i < length messages
get_within [] i message is = absurd (none_some is)
get_within (m ∷ messages) zero message is = omega arith
get_within (m ∷ messages) (suc i) message is = omega (arith, get_within messages i message is)

take_short : (n k : ℕ) (bytes : List ℕ) → n ≤ k → take n (take k bytes) ≡ take n bytes
take_short zero k bytes low = refl
take_short (suc n) zero bytes low = absurd (omega (arith, low))
take_short (suc n) (suc k) [] low = refl
take_short (suc n) (suc k) (b ∷ bytes) low = ap (λ (t : List ℕ). b ∷ t) (take_short n k bytes (omega (arith, low)))

-- A part of the bytes, from offset `start` up to offset `end`.
module _ (bytes : List ℕ) (start end : ℕ) (order : start ≤ end) (within : end ≤ length bytes) where
  abbrev part : List ℕ
  part = take (end - start) (drop start bytes)

  pub part_long : length part ≡ end - start
  part_long = omega (arith, length-take (end - start) (drop start bytes), length-drop start bytes, order, within)

  part_read : (n at : ℕ) → at + n ≤ end - start → take n (drop at part) ≡ take n (drop (start + at) bytes)
  part_read n at fits =
      let rest : ℕ = end - start - at in
      let whole : at + rest ≡ end - start = omega (arith, fits) in
      let from : drop at part ≡ take rest (drop at (drop start bytes)) =
      ap (λ (k : ℕ). drop at (take k (drop start bytes))) (sym whole) ∙ drop-take at rest (drop start bytes) in
      ap (take n) from
      ∙ take_short n rest (drop at (drop start bytes)) (omega (arith, fits))
      ∙ ap (take n) (drop-drop at start bytes)

  part_length : (at : ℕ) → at + 2 ≤ end - start → length_at part at ≡ length_at bytes (start + at)
  part_length at fits = ap (big_number 2) (part_read 2 at fits)

  part_message : (at : ℕ) → at + 2 + length_at bytes (start + at) ≤ end - start →
      message_in part at ≡ message_in bytes (start + at)
  part_message at fits =
      let size : length_at part at ≡ length_at bytes (start + at) = part_length at (omega (arith, fits)) in
      ap (λ (n : ℕ). take n (drop (at + 2) part)) size
      ∙ part_read (length_at bytes (start + at)) (at + 2) (omega (arith, fits))
      ∙ ap (λ (k : ℕ). take (length_at bytes (start + at)) (drop k bytes))
      (let e : start + (at + 2) ≡ start + at + 2 = omega arith in e)

  pub part_messages : (at count : ℕ) → end_from bytes (start + at) count ≤ end →
      messages_from part at count ≡ messages_from bytes (start + at) count
  part_messages at zero fits = refl
  part_messages at (suc count) fits =
      let low = end_low bytes (start + at + 2 + length_at bytes (start + at)) count in
      let size : length_at part at ≡ length_at bytes (start + at) = part_length at (omega (arith, fits, low)) in
      let next : start + (at + 2 + length_at bytes (start + at)) ≡ start + at + 2 + length_at bytes (start + at) =
      omega arith in
      ap (λ (m : Message). m ∷ messages_from part (at + 2 + length_at part at) count)
      (part_message at (omega (arith, fits, low)))
      ∙ ap (λ (n : ℕ). message_in bytes (start + at) ∷ messages_from part (at + 2 + n) count) size
      ∙ ap (λ (t : List Message). message_in bytes (start + at) ∷ t)
      (part_messages (at + 2 + length_at bytes (start + at)) count
      (subst (λ (k : ℕ). end_from bytes k count ≤ end) (sym next) fits)
      ∙ ap (λ (k : ℕ). messages_from bytes k count) next)

  pub part_end : (at count : ℕ) → end_from bytes (start + at) count ≤ end →
      start + end_from part at count ≡ end_from bytes (start + at) count
  part_end at zero fits = refl
  part_end at (suc count) fits =
      let low = end_low bytes (start + at + 2 + length_at bytes (start + at)) count in
      let size : length_at part at ≡ length_at bytes (start + at) = part_length at (omega (arith, fits, low)) in
      let next : start + (at + 2 + length_at bytes (start + at)) ≡ start + at + 2 + length_at bytes (start + at) =
      omega arith in
      ap (λ (n : ℕ). start + end_from part (at + 2 + n) count) size
      ∙ part_end (at + 2 + length_at bytes (start + at)) count
      (subst (λ (k : ℕ). end_from bytes k count ≤ end) (sym next) fits)
      ∙ ap (λ (k : ℕ). end_from bytes k count) next

-- The messages of a run begin the run of the slots.
pub run_many : (slots : List Slot) (at : ℕ) (ms : List Message)
    → ((i : ℕ) (m : Message) → slice_get ms i ≡ Some m → slot_at slots (at + i) ≡ Some m)
    → run_in slots at ≡ ms ++ run_in slots (at + length ms)
run_many slots at [] each = ap (run_in slots) (let e : at ≡ at + 0 = omega arith in e)
run_many slots at (m ∷ ms) each =
    let here : slot_at slots at ≡ Some m =
    ap (slot_at slots) (let e : at ≡ at + 0 = omega arith in e) ∙ each 0 m refl in
    run_more slots at m here
    ∙ ap (λ (t : List Message). m ∷ t) (run_many slots (at + 1) ms (λ i x is.
    ap (slot_at slots) (let e : at + 1 + i ≡ at + suc i = omega arith in e) ∙ each (suc i) x is))
    ∙ ap (λ (k : ℕ). m ∷ ms ++ run_in slots k) (let e : at + 1 + length ms ≡ at + suc (length ms) = omega arith in e)

pub handing_many : (old new newer : Handed) (next at : ℕ) (ms left whole : List Message) →
    IsHanding old new next at (ms ++ left) whole → newer ≡ followed_by new at ms →
    IsHanding old newer next (at + length ms) left whole
handing_many old new newer next at ms left whole is pushed = record {
  handed = is.handed ++ ms;
  batch = pushed ∙ ap (λ (b : Handed). followed_by b at ms) is.batch
      ∙ followed_twice old next is.handed at ms is.counted;
  parts = append_assoc is.handed ms left ∙ is.parts;
  counted = omega (arith, is.counted, length-append is.handed ms);
}

-- The first of `left` blocks, and the others.
module _ (bytes : List ℕ) (at left : ℕ) (some : 0 < left) where
  left_is : left ≡ suc (left - 1)
  left_is = omega (arith, some)

  pub first_end : end_from bytes at left ≡ end_from bytes (at + 2 + length_at bytes at) (left - 1)
  first_end = ap (end_from bytes at) left_is

  pub first_message : messages_from bytes at left ≡ message_in bytes at ∷ messages_from bytes
      (at + 2 + length_at bytes at) (left - 1)
  first_message = ap (messages_from bytes at) left_is

  pub first_fits : end_from bytes at left ≡ length bytes → at + 2 + length_at bytes at ≤ length bytes
  first_fits whole = omega (arith, whole, first_end, end_low bytes (at + 2 + length_at bytes at) (left - 1))

-- The last message of a run has a slot.
pub last_there : (slots : List Slot) (at : ℕ) (bytes : List ℕ) (count : ℕ) → 0 < count
    → ((i : ℕ) (m : Message) → slice_get (messages_from bytes 0 count) i ≡ Some m → slot_at slots (at + i) ≡ Some m)
    → slot_at slots (at + (count - 1)) ≡ Some (message_in bytes (end_from bytes 0 (count - 1)))
last_there slots at bytes count some there =
    there (count - 1) (message_in bytes (end_from bytes 0 (count - 1)))
    (message_get bytes 0 count (count - 1) (omega (arith, some)))

-- The whole of these blocks, as bytes of their own.
module _ (bytes span : List ℕ) (start end count : ℕ) (ends : end ≡ end_from bytes start count)
    (within : end ≤ length bytes) (is : span ≡ take (end - start) (drop start bytes)) where
  order : start ≤ end
  order = omega (arith, ends, end_low bytes start count)

  from_start : end_from bytes (start + 0) count ≡ end
  from_start = ap (λ (k : ℕ). end_from bytes k count) (let e : start + 0 ≡ start = omega arith in e) ∙ sym ends

  pub span_whole : end_from span 0 count ≡ length span
  span_whole =
      let fits : end_from bytes (start + 0) count ≤ end = omega (arith, from_start) in
      ap (λ (t : List ℕ). end_from t 0 count) is
      ∙ (let same : end_from (take (end - start) (drop start bytes)) 0 count ≡ length (take (end - start) (drop start bytes)) =
      omega (
        arith,
        part_end bytes start end order within 0 count fits,
        part_long bytes start end order within,
        from_start,
        order,
      ) in
      same)
      ∙ ap (λ (t : List ℕ). length t) (sym is)

  pub span_messages : messages_from span 0 count ≡ messages_from bytes start count
  span_messages =
      ap (λ (t : List ℕ). messages_from t 0 count) is
      ∙ part_messages bytes start end order within 0 count (omega (arith, from_start))
      ∙ ap (λ (k : ℕ). messages_from bytes k count) (let e : start + 0 ≡ start = omega arith in e)

  pub span_get : (i : ℕ) (m : Message) → slice_get (messages_from span 0 count) i ≡ Some m →
      (i < count) × (Some (message_in bytes (end_from bytes start i)) ≡ Some m)
  span_get i m at =
      let low : i < count = omega (arith, get_within (messages_from span 0 count) i m at, messages_long span 0 count) in (
        low,
        sym (message_get bytes start count i low)
            ∙ ap (λ (t : List Message). slice_get t i) (sym span_messages)
            ∙ at,
      )

-- The slot after a run is empty. Slots that don't exist are empty.
slot_past : (slots : List Slot) (at : ℕ) → length slots ≤ at → slot_at slots at ≡ None
slot_past [] at past = refl
slot_past (s ∷ slots) zero past = absurd (omega (arith, past))
slot_past (s ∷ slots) (suc at) past = slot_past slots at (omega (arith, past))

run_ends_from : (slots : List Slot) (most at : ℕ) → length slots ≤ at + most →
    slot_at slots (at + length (run_from (slot_at slots) at most)) ≡ None
unfolding run_from
run_ends_from slots zero at past = slot_past slots (at + 0) (omega (arith, past))
run_ends_from slots (suc most) at past =
    go (slot_at slots at) refl (run_ends_from slots most (suc at) (omega (arith, past)))
  where
    rest : List Message
    rest = run_from (slot_at slots) (suc at) most

    go : (o : Option Message) → slot_at slots at ≡ o → slot_at slots (suc at + length rest) ≡ None →
        slot_at slots (at + length (behind_some o rest)) ≡ None
    go None is later = ap (λ (n : ℕ). slot_at slots n) (let e : at + 0 ≡ at = omega arith in e) ∙ is
    go (Some m) is later =
        ap (λ (n : ℕ). slot_at slots n) (let e : at + suc (length rest) ≡ suc at + length rest = omega arith in e)
        ∙ later

pub run_ends : (slots : List Slot) (at : ℕ) → slot_at slots (at + length (run_in slots at)) ≡ None
run_ends slots at = run_ends_from slots (length slots - at) at (omega arith)

-- The same for a slot that is at most the number of slots.
pub ends_within : (slots : List Slot) (at : ℕ) → slot_at slots at ≡ None → slot_at slots (min at (length slots)) ≡ None
ends_within slots at none =
    elim (cases_lt at (length slots)) [
      | inl low ↦ ap (λ (n : ℕ). slot_at slots n) (let e : min at (length slots) ≡ at = omega (arith, low) in e) ∙ none
      | inr past ↦ slot_past slots (min at (length slots)) (omega (arith, past))
    ]
