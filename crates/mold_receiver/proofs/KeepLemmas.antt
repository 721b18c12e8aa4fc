-- Messages that are put into empty slots.
use Rattle.std.proofs.Common.{◌≡◌, ℕ, suc, ◌+◌, ◌<◌, ◌≤◌, Bool, true, false, cond, ltb, leb, ◌&&◌, List, [], ◌∷◌}
use Rattle.std.proofs.Common.{length, slice_set, refl, sym, ap, subst, ◌∙◌, inl, inr, arith, zero, ◌-◌}
use Rattle.std.specs.Prelude.{Option, None, Some, is_some, is_none, map, slice_get}
use Rattle.std.specs.List.{filter}
use Rattle.std.specs.Option.{option_or}
use Rattle.std.proofs.lemmas.Bool.{cases_Bool, cases_eq, cases_order, cond-true, cond-false, ltb-true, eq-eqb}
use Rattle.std.proofs.lemmas.Bool.{ne_eqb, le-leb, lt-leb, lt-ltb, le-ltb, and_parts, cases_lt}
use Rattle.std.proofs.lemmas.List.{length-map, length-set}
use Rattle.mold_wire.specs.Truth.{message_at}
use Rattle.mold_receiver.specs.Keeping.{count_absent, is_fresh, fresh, fresh_messages, put_fresh, filled}
use Rattle.mold_receiver.specs.Slots.{Slot, slot_at}
use Rattle.mold_receiver.specs.Store.{Message, numbered}
use Rattle.mold_receiver.proofs.SlotLemmas.{slot_put}

length-put_fresh : (slots : List Slot) (i : ℕ) (m : Message) → length (put_fresh slots i m) ≡ length slots
length-put_fresh slots i m =
    elim (is_fresh slots i) as (λ b. length (cond b (slice_set slots i (Some m)) slots) ≡ length slots) [
      | true ↦ length-set slots i (Some m)
      | false ↦ refl
    ]

pub length-filled : (slots : List Slot) (first : ℕ) (ms : List Message) → length (filled slots first ms) ≡ length slots
length-filled slots first [] = refl
length-filled slots first (m ∷ ms) = length-filled (put_fresh slots first m) (suc first) ms
    ∙ length-put_fresh slots first m

-- Another slot is unchanged.
put_other : (slots : List Slot) (i : ℕ) (m : Message) (at : ℕ) → (at ≡ i → ⊥) →
    slot_at (put_fresh slots i m) at ≡ slot_at slots at
put_other slots i m at other =
    elim (is_fresh slots i) as (λ b. is_fresh slots i ≡ b →
    slot_at (cond b (slice_set slots i (Some m)) slots) at ≡ slot_at slots at) [
      | true ↦ λ e.
          slot_put slots i (Some m) at
          (ltb-true i (length slots) (and_parts (ltb i (length slots)) (is_none (slot_at slots i)) e).0)
          ∙ cond-false _ _ _ (ne_eqb at i other)
      | false ↦ λ e. refl
    ] refl

no_some : (o : Option Message) → false ≡ is_some o → o ≡ None
no_some None none = refl
no_some (Some m) none = absurd (cc none)

or_none : (o : Option Message) → option_or o None ≡ o
or_none None = refl
or_none (Some m) = refl

some_or : (o p : Option Message) → is_none o ≡ false → option_or o p ≡ o
some_or None p some = absurd (cc some)
some_or (Some m) p some = refl

pub none_is : (o : Option Message) → is_none o ≡ true → o ≡ None
none_is None none = refl
none_is (Some m) none = absurd (cc none)

-- The message's own slot keeps what it has. If it exists and is empty, it gets the message.
put_here : (slots : List Slot) (i : ℕ) (m : Message) →
    slot_at (put_fresh slots i m) i ≡ option_or (slot_at slots i) (cond (ltb i (length slots)) (Some m) None)
put_here slots i m =
    elim (cases_lt i (length slots)) [
      | inl within ↦
          elim (is_none (slot_at slots i)) as (λ b. is_none (slot_at slots i) ≡ b →
          slot_at (put_fresh slots i m) i ≡ option_or (slot_at slots i) (cond (ltb i (length slots)) (Some m) None)) [
            | true ↦ λ e.
                let free : is_fresh slots i ≡ true = ap (λ (b : Bool). b && is_none (slot_at slots i)) (lt-ltb i (length slots) within) ∙ e in
                ap (λ (t : List Slot). slot_at t i) (cond-true _ (slice_set slots i (Some m)) slots free)
                ∙ slot_put slots i (Some m) i within
                ∙ cond-true _ _ _ (eq-eqb i i refl)
                ∙ sym (ap (λ (o : Option Message). option_or o (cond (ltb i (length slots)) (Some m) None)) (none_is (slot_at slots i) e)
                ∙ cond-true _ (Some m) None (lt-ltb i (length slots) within))
            | false ↦ λ e.
                let taken : is_fresh slots i ≡ false = ap (λ (b : Bool). b && is_none (slot_at slots i)) (lt-ltb i (length slots) within) ∙ e in
                ap (λ (t : List Slot). slot_at t i) (cond-false _ (slice_set slots i (Some m)) slots taken)
                ∙ sym (some_or (slot_at slots i) (cond (ltb i (length slots)) (Some m) None) e)
          ] refl
      | inr past ↦
          let none : is_fresh slots i ≡ false = ap (λ (b : Bool). b && is_none (slot_at slots i)) (le-ltb i (length slots) past) in
          ap (λ (t : List Slot). slot_at t i) (cond-false _ (slice_set slots i (Some m)) slots none)
          ∙ sym (ap (option_or (slot_at slots i)) (cond-false _ (Some m) None (le-ltb i (length slots) past))
          ∙ or_none (slot_at slots i))
    ]

message_here : (first : ℕ) (m : Message) (ms : List Message) → message_at first (m ∷ ms) first ≡ Some m
message_here first m ms =
    let zero_at : first - first ≡ zero = omega arith in
    cond-true _ _ _ (le-leb first first (omega arith)) ∙ ap (slice_get (m ∷ ms)) zero_at

message_behind : (first : ℕ) (m : Message) (ms : List Message) (at : ℕ) → (at ≡ first → ⊥) →
    message_at first (m ∷ ms) at ≡ message_at (suc first) ms at
message_behind first m ms at other =
    elim (cases_order at first) [
      | inl same ↦ absurd (other same)
      | inr (inl below) ↦
          cond-false _ _ _ (lt-leb first at below) ∙ sym (cond-false _ _ _ (lt-leb (suc first) at (omega arith)))
      | inr (inr above) ↦
          let more : at - first ≡ suc (at - suc first) = omega arith in
          cond-true _ _ _ (le-leb first at (omega arith)) ∙ ap (slice_get (m ∷ ms)) more
          ∙ sym (cond-true _ _ _ (le-leb (suc first) at above))
    ]

message_before : (first : ℕ) (ms : List Message) (at : ℕ) → at < first → message_at first ms at ≡ None
message_before first ms at below = cond-false _ _ _ (lt-leb first at below)

both_ways : (b : Bool) (o : Option Message) → cond b o o ≡ o
both_ways true o = refl
both_ways false o = refl

-- After all messages are put, a slot has what it had before, or otherwise the packet's message.
pub slot_filled : (slots : List Slot) (first : ℕ) (ms : List Message) (at : ℕ)
    → slot_at (filled slots first ms) at ≡ option_or (slot_at slots at)
    (cond (ltb at (length slots)) (message_at first ms at) None)
slot_filled slots first [] at =
    sym (ap (option_or (slot_at slots at)) (elim (cases_Bool (leb first at)) [
      | inl t ↦ ap (λ (o : Option Message). cond (ltb at (length slots)) o None) (cond-true _ None None t)
          ∙ both_ways (ltb at (length slots)) None
      | inr f ↦ ap (λ (o : Option Message). cond (ltb at (length slots)) o None) (cond-false _ None None f)
          ∙ both_ways (ltb at (length slots)) None
    ]) ∙ or_none (slot_at slots at))
slot_filled slots first (m ∷ ms) at =
    slot_filled (put_fresh slots first m) (suc first) ms at
    ∙ ap (λ (n : ℕ). option_or (slot_at (put_fresh slots first m) at) (cond (ltb at n) (message_at (suc first) ms at) None))
    (length-put_fresh slots first m)
    ∙ elim (cases_eq at first) [
      | inl same ↦
          subst (λ (n : ℕ). option_or (slot_at (put_fresh slots first m) n) (cond (ltb n (length slots)) (message_at (suc first) ms n) None)
          ≡ option_or (slot_at slots n) (cond (ltb n (length slots)) (message_at first (m ∷ ms) n) None)) (sym same)
          (ap (λ (o : Option Message). option_or (slot_at (put_fresh slots first m) first) (cond (ltb first (length slots)) o None))
          (message_before (suc first) ms first (omega arith))
          ∙ ap (option_or (slot_at (put_fresh slots first m) first)) (both_ways (ltb first (length slots)) None)
          ∙ or_none (slot_at (put_fresh slots first m) first)
          ∙ put_here slots first m
          ∙ sym (ap (λ (o : Option Message). option_or (slot_at slots first) (cond (ltb first (length slots)) o None))
          (message_here first m ms)))
      | inr other ↦
          ap (λ (o : Option Message). option_or o (cond (ltb at (length slots)) (message_at (suc first) ms at) None))
          (put_other slots first m at other)
          ∙ sym (ap (λ (o : Option Message). option_or (slot_at slots at) (cond (ltb at (length slots)) o None))
          (message_behind first m ms at other))
    ]

-- The other slots are as free as before.
still_fresh : (slots : List Slot) (i : ℕ) (m : Message) (at : ℕ) → (at ≡ i → ⊥) →
    is_fresh (put_fresh slots i m) at ≡ is_fresh slots at
still_fresh slots i m at other =
    ap (λ (n : ℕ). ltb at n && is_none (slot_at (put_fresh slots i m) at)) (length-put_fresh slots i m)
    ∙ ap (λ (o : Option Message). ltb at (length slots) && is_none o) (put_other slots i m at other)

fresh_behind : (slots : List Slot) (i : ℕ) (m : Message) (first : ℕ) (ms : List Message) → i < first →
    fresh (put_fresh slots i m) first ms ≡ fresh slots first ms
fresh_behind slots i m first [] below = refl
fresh_behind slots i m first (x ∷ ms) below =
    ap (λ (b : Bool). cond b ((first, x) ∷ fresh (put_fresh slots i m) (suc first) ms) (fresh (put_fresh slots i m) (suc first) ms))
    (still_fresh slots i m first (λ e. omega (arith, e, below)))
    ∙ ap (λ (t : List (ℕ × Message)). cond (is_fresh slots first) ((first, x) ∷ t) t)
    (fresh_behind slots i m (suc first) ms (omega (arith, below)))

-- The number of messages that are put is 1 or 0 for the first one, plus the number for the others.
pub count_fresh : (slots : List Slot) (first : ℕ) (m : Message) (ms : List Message)
    → length (fresh slots first (m ∷ ms)) ≡ cond (is_fresh slots first) 1 0
    + length (fresh (put_fresh slots first m) (suc first) ms)
count_fresh slots first m ms =
    let same = ap (λ (t : List (ℕ × Message)). length t) (fresh_behind slots first m (suc first) ms (omega arith)) in
    elim (is_fresh slots first) as (λ b. length (cond b ((first, m) ∷ fresh slots (suc first) ms) (fresh slots (suc first) ms))
    ≡ cond b 1 0 + length (fresh (put_fresh slots first m) (suc first) ms)) [
      | true ↦ omega (arith, same)
      | false ↦ omega (arith, same)
    ]

-- If there is no empty slot for the first message, only the others count.
pub fresh_later : (slots : List Slot) (first : ℕ) (m : Message) (ms : List Message) → is_fresh slots first ≡ false →
    fresh slots first (m ∷ ms) ≡ fresh slots (suc first) ms
fresh_later slots first m ms taken = cond-false _ _ _ taken

-- The messages to put, without their slots.
pub messages_yes : (slots : List Slot) (first : ℕ) (m : Message) (ms : List Message) → is_fresh slots first ≡ true →
    fresh_messages slots first (m ∷ ms) ≡ m ∷ fresh_messages slots (suc first) ms
messages_yes slots first m ms free =
    ap (λ (t : List (ℕ × Message)). map (λ pair. pair.1) t)
    (cond-true (is_fresh slots first) ((first, m) ∷ fresh slots (suc first) ms) (fresh slots (suc first) ms) free)

pub messages_no : (slots : List Slot) (first : ℕ) (m : Message) (ms : List Message) → is_fresh slots first ≡ false →
    fresh_messages slots first (m ∷ ms) ≡ fresh_messages slots (suc first) ms
messages_no slots first m ms taken =
    ap (λ (t : List (ℕ × Message)). map (λ pair. pair.1) t) (fresh_later slots first m ms taken)

pub messages_behind : (slots : List Slot) (i : ℕ) (m : Message) (first : ℕ) (ms : List Message) → i < first →
    fresh_messages (put_fresh slots i m) first ms ≡ fresh_messages slots first ms
messages_behind slots i m first ms below =
    ap (λ (t : List (ℕ × Message)). map (λ pair. pair.1) t) (fresh_behind slots i m first ms below)

pub length-messages : (slots : List Slot) (first : ℕ) (ms : List Message) →
    length (fresh_messages slots first ms) ≡ length (fresh slots first ms)
length-messages slots first ms = length-map (fresh slots first ms) (λ pair. pair.1)

pub fresh_some : (slots : List Slot) (first : ℕ) (m : Message) (ms : List Message) → is_fresh slots first ≡ true →
    0 < length (fresh slots first (m ∷ ms))
fresh_some slots first m ms free =
    let some = ap (λ (t : List (ℕ × Message)). length t)
    (cond-true (is_fresh slots first) ((first, m) ∷ fresh slots (suc first) ms) (fresh slots (suc first) ms) free) in
    omega (arith, some)

-- A number that isn't greater than 0 is 0.
pub none_said : (n : ℕ) → (0 < n → false ≡ true) → n ≡ 0
none_said zero said = refl
none_said (suc n) said = absurd (cc (said (omega arith)))

pub none_held : (slots : List Slot) (i : ℕ) → false ≡ is_some (slot_at slots i) → slot_at slots i ≡ None
none_held slots i none = no_some (slot_at slots i) none

-- If there is no empty slot for any of the messages, the slots are unchanged.
pub filled_none : (slots : List Slot) (first : ℕ) (ms : List Message) → length (fresh slots first ms) ≡ 0 →
    filled slots first ms ≡ slots
filled_none slots first [] none = refl
filled_none slots first (m ∷ ms) none =
    elim (cases_Bool (is_fresh slots first)) [
      | inl free ↦ absurd (omega (arith, none, fresh_some slots first m ms free))
      | inr taken ↦
          let same : put_fresh slots first m ≡ slots = cond-false _ _ _ taken in
          let later : length (fresh slots (suc first) ms) ≡ 0 =
          sym (ap (λ (t : List (ℕ × Message)). length t) (fresh_later slots first m ms taken)) ∙ none in
          ap (λ (t : List Slot). filled t (suc first) ms) same ∙ filled_none slots (suc first) ms later
    ]

-- One more message may have an empty slot, or none.
pub absent_more : (slots : List Slot) (slot : ℕ) (m : Message) (ms : List Message) →
    count_absent slots slot (m ∷ ms) ≡ cond (is_none (slot_at slots slot)) 1 0 + count_absent slots (suc slot) ms
absent_more slots slot m ms =
    let rest = filter (λ (pair : ℕ × Message). is_none (slot_at slots pair.0)) (numbered (suc slot) ms) in
    elim (is_none (slot_at slots slot)) as (λ (b : Bool). length (cond b ((slot, m) ∷ rest) rest) ≡ cond {A = ℕ} b 1 0
    + length rest) [
      | true ↦ omega arith
      | false ↦ omega arith
    ]

pub absent_few : (slots : List Slot) (slot : ℕ) (ms : List Message) → count_absent slots slot ms ≤ length ms
absent_few slots slot [] = omega arith
absent_few slots slot (m ∷ ms) =
    omega (arith, absent_more slots slot m ms, one (is_none (slot_at slots slot)), absent_few slots (suc slot) ms)
  where
    one : (b : Bool) → cond {A = ℕ} b 1 0 ≤ 1
    one true = omega arith
    one false = omega arith
