-- Slots, and the store that they represent.
use Rattle.std.proofs.Common.{◌≡◌, ℕ, zero, suc, ◌+◌, ◌-◌, ◌<◌, ◌≤◌, Bool, true, false, cond, eqb, leb, ◌&&◌, List}
use Rattle.std.proofs.Common.{[], ◌∷◌, ◌++◌, length, length-append, drop, replicate, slice_set, append_assoc, refl, sym, min}
use Rattle.std.proofs.Common.{ap, subst, ◌∙◌, inl, inr, arith, nat_cmp}
use Rattle.std.specs.Prelude.{Option, None, Some, is_some, slice_get, map}
use Rattle.std.specs.Cmp.{nat_cmp_total}
use Rattle.std.specs.Map.{lookup}
use Rattle.std.specs.FinMap as finite
use Rattle.std.specs.Option.{option_flatten, option_map}
use Rattle.std.proofs.lemmas.Bool.{cases_eq, cases_lt, cases_order, cases_Bool, cond-true, cond-false, le-leb, lt-leb, eq-eqb}
use Rattle.std.proofs.lemmas.Bool.{ne_eqb}
use Rattle.std.proofs.lemmas.Option.{slice_get_past}
use Rattle.std.proofs.lemmas.List.{length-map, map-set, length-replicate, length-set, length-drop, drop-drop, drop-append-le, replicate_more}
use Rattle.std.proofs.lemmas.List.{drop-replicate, replicate-append-replicate}
use Rattle.mold_receiver.specs.Store.{Message, differs}
use Rattle.mold_receiver.specs.Slots.{Slot, slot_at, slot_entries, store_of, count_held, flags_of, AreEmpty, AreSlots}
use Rattle.mold_receiver.specs.Slots.{IsFirstEmpty, IsNextHeld}
use Rattle.mold_receiver.specs.Occupied.{AreUnset, IsFirstFlag, flag_at}
use Rattle.mold_receiver.proofs.StoreLemmas.{get_made, none_some}

pub count_within : (slots : List Slot) → count_held slots ≤ length slots
count_within [] = omega arith
count_within (None ∷ slots) = omega (arith, count_within slots)
count_within (Some m ∷ slots) = omega (arith, count_within slots)

-- If the first slot is empty, not all slots have a message.
pub count_below : (slots : List Slot) → 0 < length slots → slot_at slots 0 ≡ None → count_held slots < length slots
count_below [] some first = absurd (omega (arith, some))
count_below (None ∷ slots) some first = omega (arith, count_within slots)
count_below (Some m ∷ slots) some first = absurd (none_some (sym first))

count-push : (slots : List Slot) → count_held (slots ++ None ∷ []) ≡ count_held slots
count-push [] = refl
count-push (None ∷ slots) = ap (λ (n : ℕ). 0 + n) (count-push slots)
count-push (Some m ∷ slots) = ap (λ (n : ℕ). 1 + n) (count-push slots)

pub count_moved : (slots : List Slot) →
    count_held (drop 1 slots ++ None ∷ []) ≡ count_held slots - cond (is_some (slot_at slots 0)) 1 0
count_moved [] = omega arith
count_moved (None ∷ slots) = omega (arith, count-push slots)
count_moved (Some m ∷ slots) = omega (arith, count-push slots)

count_behind : (b : Bool) (one n m : ℕ) → m ≡ cond b n (n + 1) → one + m ≡ cond b (one + n) (one + n + 1)
count_behind true one n m is = ap (λ (k : ℕ). one + k) is
count_behind false one n m is = omega (arith, is)

pub count_put : (slots : List Slot) (i : ℕ) (message : Message) → i < length slots →
    count_held (slice_set slots i (Some message)) ≡ cond (is_some (slot_at slots i)) (count_held slots)
    (count_held slots + 1)
count_put [] i message within = absurd (omega arith)
count_put (None ∷ slots) zero message within = omega arith
count_put (Some m ∷ slots) zero message within = refl
count_put (None ∷ slots) (suc i) message within =
    count_behind (is_some (slot_at slots i)) 0 (count_held slots) _ (count_put slots i message (omega arith))
count_put (Some m ∷ slots) (suc i) message within =
    count_behind (is_some (slot_at slots i)) 1 (count_held slots) _ (count_put slots i message (omega arith))

slot_put_same : (slots : List Slot) (i : ℕ) (slot : Slot) → i < length slots → slot_at (slice_set slots i slot) i ≡ slot
slot_put_same [] i slot within = absurd (omega arith)
slot_put_same (s ∷ slots) zero slot within = refl
slot_put_same (s ∷ slots) (suc i) slot within = slot_put_same slots i slot (omega arith)

pub slot_put_other : (slots : List Slot) (i : ℕ) (slot : Slot) (at : ℕ) → (at ≡ i → ⊥) →
    slot_at (slice_set slots i slot) at ≡ slot_at slots at
slot_put_other [] i slot at other = refl
slot_put_other (s ∷ slots) zero slot zero other = absurd (other refl)
slot_put_other (s ∷ slots) zero slot (suc at) other = refl
slot_put_other (s ∷ slots) (suc i) slot zero other = refl
slot_put_other (s ∷ slots) (suc i) slot (suc at) other = slot_put_other slots i slot at (λ e. other (ap suc e))

-- A slot that is written has the message, and the others are unchanged.
pub slot_put : (slots : List Slot) (i : ℕ) (slot : Slot) (at : ℕ) → i < length slots →
    slot_at (slice_set slots i slot) at ≡ cond (eqb at i) slot (slot_at slots at)
slot_put slots i slot at within =
    elim (cases_eq at i) [
      | inl same ↦ subst (λ (n : ℕ). slot_at (slice_set slots i slot) n ≡ slot) (sym same)
          (slot_put_same slots i slot within) ∙ sym (cond-true _ _ _ (eq-eqb at i same))
      | inr other ↦ slot_put_other slots i slot at other ∙ sym (cond-false _ _ _ (ne_eqb at i other))
    ]

pub slot_past : (slots : List Slot) (at : ℕ) → length slots ≤ at → slot_at slots at ≡ None
slot_past slots at past = ap option_flatten (slice_get_past slots at past)

slot_empty : (n at : ℕ) → slot_at (replicate n None) at ≡ None
slot_empty zero at = refl
slot_empty (suc n) zero = refl
slot_empty (suc n) (suc at) = slot_empty n at

slot_padded : (slots : List Slot) (n at : ℕ) → slot_at (slots ++ replicate n None) at ≡ slot_at slots at
slot_padded [] n at = slot_empty n at
slot_padded (slot ∷ slots) n zero = refl
slot_padded (slot ∷ slots) n (suc at) = slot_padded slots n at

slot_dropped : (count : ℕ) (slots : List Slot) (at : ℕ) → slot_at (drop count slots) at ≡ slot_at slots (count + at)
slot_dropped zero slots at = ap (slot_at slots) (let e : at ≡ 0 + at = omega arith in e)
slot_dropped (suc count) [] at = refl
slot_dropped (suc count) (slot ∷ slots) at = slot_dropped count slots at
    ∙ ap (slot_at (slot ∷ slots)) (let e : suc (count + at) ≡ suc count + at = omega arith in e)

-- After the slots move by `count`, each has what the slot `count` after it had.
pub slot_moved : (count : ℕ) (slots : List Slot) (at : ℕ) →
    slot_at (drop count slots ++ replicate count None) at ≡ slot_at slots (count + at)
slot_moved count slots at = slot_padded (drop count slots) count at ∙ slot_dropped count slots at

-- Moving by `count` slots and one more.
pub moved_more : (count : ℕ) (slots : List Slot) → count < length slots →
    drop 1 (drop count slots ++ replicate count None) ++ None ∷ [] ≡ drop (count + 1) slots ++ replicate
    (count + 1) None
moved_more count slots within =
    let behind : drop 1 (drop count slots) ≡ drop (count + 1) slots = drop-drop 1 count slots in
    rw (
      drop-append-le 1 (drop count slots) (replicate count None) (omega (arith, length-drop count slots)),
      behind,
      append_assoc (drop (count + 1) slots) (replicate count None) (None ∷ []),
      replicate_more {X = Slot} count None,
    )
    refl

pushed_view : {V : Type 0} (g : V → Message) (xs : List (Option V)) →
    map (option_map g) (xs ++ None ∷ []) ≡ map (option_map g) xs ++ None ∷ []
pushed_view g [] = refl
pushed_view g (x ∷ xs) = ap (λ (t : List Slot). option_map g x ∷ t) (pushed_view g xs)

-- What the ring has after it moves by one slot.
pub moved_view : {V : Type 0} (g : V → Message) (xs : List (Option V)) →
    map (option_map g) (drop 1 xs ++ None ∷ []) ≡ drop 1 (map (option_map g) xs) ++ None ∷ []
moved_view g [] = refl
moved_view g (x ∷ xs) = pushed_view g xs

pub head_view : {V : Type 0} (g : V → Message) (xs : List (Option V)) →
    is_some (option_flatten (slice_get xs 0)) ≡ is_some (slot_at (map (option_map g) xs) 0)
head_view g [] = refl
head_view g (None ∷ xs) = refl
head_view g (Some x ∷ xs) = refl

pub empty_view : {V : Type 0} (g : V → Message) (n : ℕ) → map (option_map g) (replicate n None) ≡ replicate n None
empty_view g zero = refl
empty_view g (suc n) = ap (λ (t : List Slot). None ∷ t) (empty_view g n)

pub count_empty : (n : ℕ) → count_held (replicate n None) ≡ 0
count_empty zero = refl
count_empty (suc n) = omega (arith, count_empty n)

pub all_empty : (slots : List Slot) → count_held slots ≡ 0 → (i : ℕ) → slot_at slots i ≡ None
all_empty [] none i = refl
all_empty (None ∷ slots) none zero = refl
all_empty (None ∷ slots) none (suc i) = all_empty slots (omega (arith, none)) i
all_empty (Some m ∷ slots) none i = absurd (omega (arith, none))

-- The flags of slots.
flags_pushed : (slots : List Slot) → flags_of (slots ++ None ∷ []) ≡ flags_of slots ++ false ∷ []
flags_pushed [] = refl
flags_pushed (slot ∷ slots) = ap (λ (t : List Bool). is_some slot ∷ t) (flags_pushed slots)

flags_moved : (slots : List Slot) → flags_of (drop 1 slots ++ None ∷ []) ≡ drop 1 (flags_of slots) ++ false ∷ []
flags_moved [] = refl
flags_moved (slot ∷ slots) = flags_pushed slots

pub flags_empty : (n : ℕ) → flags_of (replicate n None) ≡ replicate n false
flags_empty zero = refl
flags_empty (suc n) = ap (λ (t : List Bool). false ∷ t) (flags_empty n)

flag_is : (slots : List Slot) (i : ℕ) → flag_at (flags_of slots) i ≡ is_some (slot_at slots i)
flag_is [] i = refl
flag_is (None ∷ slots) zero = refl
flag_is (Some m ∷ slots) zero = refl
flag_is (slot ∷ slots) (suc i) = flag_is slots i

none_from : (o : Option Message) → is_some o ≡ false → o ≡ None
none_from None none = refl
none_from (Some m) none = absurd (cc none)

none_flag : (slots : List Slot) (i : ℕ) → flag_at (flags_of slots) i ≡ false → slot_at slots i ≡ None
none_flag slots i none = none_from (slot_at slots i) (sym (flag_is slots i) ∙ none)

-- A range of slots is empty exactly if none of its flags is set.
pub clear_slots : (slots : List Slot) (flags : List Bool) (from to : ℕ) → flags ≡ flags_of slots →
    AreUnset flags from to → AreEmpty slots from to
clear_slots slots flags from to same clear i low high =
    none_flag slots i (sym (ap (λ (t : List Bool). flag_at t i) same) ∙ clear i low high)

pub clear_flags : (slots : List Slot) (flags : List Bool) (from to : ℕ) → flags ≡ flags_of slots →
    AreEmpty slots from to → AreUnset flags from to
clear_flags slots flags from to same empty i low high =
    ap (λ (t : List Bool). flag_at t i) same ∙ flag_is slots i ∙ ap is_some (empty i low high)

-- The first empty slot, and the next one with a message, from flags.
some_flag : (slots : List Slot) (i : ℕ) → flag_at (flags_of slots) i ≡ true → is_some (slot_at slots i) ≡ true
some_flag slots i set = sym (flag_is slots i) ∙ set

empty_at : (slots : List Slot) (from slot : ℕ) → IsFirstFlag (flags_of slots) from false slot →
    IsFirstEmpty slots from slot
empty_at slots from slot is = record {
  after = is.after;
  held = λ i low high. some_flag slots i (is.others i low high);
  empty = elim is.stops [
    | inl end ↦ slot_past slots slot (omega (arith, end, length-map slots is_some))
    | inr clear ↦ none_flag slots slot clear
  ];
}

pub empty_found : (slots : List Slot) (flags : List Bool) (from slot : ℕ) → flags ≡ flags_of slots →
    IsFirstFlag flags from false slot → IsFirstEmpty slots from slot
empty_found slots flags from slot same is =
    empty_at slots from slot (subst (λ (t : List Bool). IsFirstFlag t from false slot) same is)

pub empty_past : (slots : List Slot) (flags : List Bool) (from : ℕ) → flags ≡ flags_of slots → length flags ≤ from →
    IsFirstEmpty slots from from
empty_past slots flags from same past = record {
  after = omega arith;
  held = λ i low high. absurd (omega (arith, low, high));
  empty = slot_past slots from (omega (arith, past, ap (λ (t : List Bool). length t) same, length-map slots is_some));
}

next_at : (slots : List Slot) (from to first : ℕ) → from ≤ to → IsFirstFlag (flags_of slots) from true first →
    first < length slots → IsNextHeld slots from to (min first to)
next_at slots from to first order is there = record {
  after = omega (arith, order, is.after);
  within = omega arith;
  none = λ i low high. none_flag slots i (is.others i low (omega (arith, high)));
  stops =
      elim (cases_lt first to) [
        | inr past ↦ inl (omega (arith, past))
        | inl below ↦
            let least : min first to ≡ first = omega (arith, below) in
            inr (ap (λ (n : ℕ). is_some (slot_at slots n)) least ∙ elim is.stops [
              | inl end ↦ absurd (omega (arith, end, there, length-map slots is_some))
              | inr set ↦ some_flag slots first set
            ])
      ];
}

pub next_found : (slots : List Slot) (flags : List Bool) (from to first slot : ℕ) → flags ≡ flags_of slots →
    from ≤ to → IsFirstFlag flags from true first → first < length flags → slot ≡ min first to →
    IsNextHeld slots from to slot
next_found slots flags from to first slot same order is there least =
    subst (λ (n : ℕ). IsNextHeld slots from to n) (sym least)
    (next_at slots from to first order (subst (λ (t : List Bool). IsFirstFlag t from true first) same is)
    (omega (arith, there, ap (λ (t : List Bool). length t) same, length-map slots is_some)))

next_end : (slots : List Slot) (from to first : ℕ) → from ≤ to → IsFirstFlag (flags_of slots) from true first →
    length slots ≤ first → IsNextHeld slots from to to
next_end slots from to first order is past = record {
  after = order;
  within = omega arith;
  none = λ i low high.
      elim (cases_lt i first) [
        | inl before ↦ none_flag slots i (is.others i low before)
        | inr later ↦ slot_past slots i (omega (arith, later, past))
      ];
  stops = inl refl;
}

pub next_none : (slots : List Slot) (flags : List Bool) (from to first : ℕ) → flags ≡ flags_of slots → from ≤ to →
    IsFirstFlag flags from true first → length flags ≤ first → IsNextHeld slots from to to
next_none slots flags from to first same order is past =
    next_end slots from to first order (subst (λ (t : List Bool). IsFirstFlag t from true first) same is)
    (omega (arith, past, ap (λ (t : List Bool). length t) same, length-map slots is_some))

pub next_past : (slots : List Slot) (flags : List Bool) (from to : ℕ) → flags ≡ flags_of slots → from ≤ to →
    length flags ≤ from → IsNextHeld slots from to to
next_past slots flags from to same order past = record {
  after = order;
  within = omega arith;
  none = λ i low high.
      slot_past slots i (omega (arith, low, past, ap (λ (t : List Bool). length t) same, length-map slots is_some));
  stops = inl refl;
}

-- The ring stays valid.
pub are_moved : (slots : List Slot) (count : ℕ) (flags : List Bool) → AreSlots slots count flags →
    AreSlots (drop 1 slots ++ None ∷ []) (count - cond (is_some (slot_at slots 0)) 1 0)
    (drop 1 flags ++ false ∷ [])
are_moved slots count flags are =
    let same : length (drop 1 slots ++ None ∷ []) ≡ length slots =
    omega (arith, are.some, length-append (drop 1 slots) (None ∷ []), length-drop 1 slots) in
    record {
      some = omega (arith, are.some, same);
      few = omega (arith, are.few, same);
      counted = ap (λ (n : ℕ). n - cond (is_some (slot_at slots 0)) 1 0) are.counted ∙ sym (count_moved slots);
      flagged = ap (λ (t : List Bool). drop 1 t ++ false ∷ []) are.flagged ∙ sym (flags_moved slots);
    }

pub are_put : (slots : List Slot) (count : ℕ) (flags : List Bool) (i : ℕ) (message : Message) →
    AreSlots slots count flags → i < length slots → slot_at slots i ≡ None →
    AreSlots (slice_set slots i (Some message)) (count + 1) (slice_set flags i true)
are_put slots count flags i message are within free =
    let same : length (slice_set slots i (Some message)) ≡ length slots = length-set slots i (Some message) in
    record {
      some = omega (arith, are.some, same);
      few = omega (arith, are.few, same);
      counted = ap (λ (n : ℕ). n + 1) are.counted
          ∙ sym (count_put slots i message within
          ∙ ap (λ (o : Slot). cond (is_some o) (count_held slots) (count_held slots + 1)) free);
      flagged = ap (λ (t : List Bool). slice_set t i true) are.flagged ∙ sym (map-set is_some slots i (Some message));
    }

pub slot_view : {V : Type 0} (g : V → Message) (xs : List (Option V)) (i : ℕ) →
    is_some (option_flatten (slice_get xs i)) ≡ is_some (slot_at (map (option_map g) xs) i)
slot_view g [] i = refl
slot_view g (None ∷ xs) zero = refl
slot_view g (Some x ∷ xs) zero = refl
slot_view g (x ∷ xs) (suc i) = slot_view g xs i

pub put_past : (slots : List Slot) (i : ℕ) (slot : Slot) → length slots ≤ i → slice_set slots i slot ≡ slots
put_past [] i slot past = refl
put_past (s ∷ slots) zero slot past = absurd (omega arith)
put_past (s ∷ slots) (suc i) slot past = ap (λ (t : List Slot). s ∷ t) (put_past slots i slot (omega arith))

pub are_empty : (n : ℕ) → 0 < n → n ≤ 1048576 → AreSlots (replicate n None) 0 (replicate n false)
are_empty n some few =
    let same : length (replicate {A = Slot} n None) ≡ n = length-replicate n None in
    record {
      some = omega (arith, same);
      few = omega (arith, same);
      counted = sym (count_empty n);
      flagged = sym (flags_empty n);
    }

-- Look-ups in a list of slots, from look-ups in its rest.
lookup_behind : (number : ℕ) (slot : Slot) (slots : List Slot) (at : ℕ)
    → lookup (eqb at) (slot_entries (suc number) slots) ≡ cond (leb (suc number) at)
    (slot_at slots (at - suc number)) None
    → lookup (eqb at) (slot_entries number (slot ∷ slots)) ≡ cond (leb number at)
    (slot_at (slot ∷ slots) (at - number)) None
lookup_behind number None slots at rest =
    elim (cases_order at number) [
      | inl same ↦
          let zero_at : at - number ≡ zero = omega arith in
          rest ∙ cond-false _ _ _ (lt-leb (suc number) at (omega arith))
          ∙ sym (cond-true _ _ _ (le-leb number at (omega arith)) ∙ ap (slot_at (None ∷ slots)) zero_at)
      | inr (inl below) ↦
          rest ∙ cond-false _ _ _ (lt-leb (suc number) at (omega arith))
          ∙ sym (cond-false _ _ _ (lt-leb number at below))
      | inr (inr above) ↦
          let more : at - number ≡ suc (at - suc number) = omega arith in
          rest ∙ cond-true _ _ _ (le-leb (suc number) at above)
          ∙ sym (cond-true _ _ _ (le-leb number at (omega arith)) ∙ ap (slot_at (None ∷ slots)) more)
    ]
lookup_behind number (Some message) slots at rest =
    elim (cases_order at number) [
      | inl same ↦
          let zero_at : at - number ≡ zero = omega arith in
          cond-true _ _ _ (eq-eqb at number same)
          ∙ sym (cond-true _ _ _ (le-leb number at (omega arith)) ∙ ap (slot_at (Some message ∷ slots)) zero_at)
      | inr (inl below) ↦
          cond-false _ _ _ (ne_eqb at number (λ e. omega (arith, e)))
          ∙ rest ∙ cond-false _ _ _ (lt-leb (suc number) at (omega arith))
          ∙ sym (cond-false _ _ _ (lt-leb number at below))
      | inr (inr above) ↦
          let more : at - number ≡ suc (at - suc number) = omega arith in
          cond-false _ _ _ (ne_eqb at number (λ e. omega (arith, e)))
          ∙ rest ∙ cond-true _ _ _ (le-leb (suc number) at above)
          ∙ sym (cond-true _ _ _ (le-leb number at (omega arith)) ∙ ap (slot_at (Some message ∷ slots)) more)
    ]

lookup-slots : (number : ℕ) (slots : List Slot) (at : ℕ) →
    lookup (eqb at) (slot_entries number slots) ≡ cond (leb number at) (slot_at slots (at - number)) None
lookup-slots number [] at =
    elim (cases_Bool (leb number at)) [
      | inl t ↦ sym (cond-true _ None None t)
      | inr f ↦ sym (cond-false _ None None f)
    ]
lookup-slots number (slot ∷ slots) at = lookup_behind number slot slots at (lookup-slots (suc number) slots at)

-- The store has at each number what its slot has.
pub get-slots : (number : ℕ) (slots : List Slot) (at : ℕ) →
    finite.get (store_of number slots) at ≡ cond (leb number at) (slot_at slots (at - number)) None
get-slots number slots at = get_made (slot_entries number slots) at ∙ lookup-slots number slots at

pub len-slots : (number : ℕ) (slots : List Slot) → finite.len (store_of number slots) ≡ count_held slots
len-slots number [] = finite.len-empty nat_cmp Message
len-slots number (None ∷ slots) = len-slots (suc number) slots
    ∙ (let same : count_held slots ≡ 0 + count_held slots = omega arith in same)
len-slots number (Some message ∷ slots) =
    let none : finite.get (store_of (suc number) slots) number ≡ None = get-slots (suc number) slots number
    ∙ cond-false _ _ _ (lt-leb (suc number) number (omega arith)) in
    finite.len-insert nat_cmp_total (store_of (suc number) slots) number message
    ∙ cond-false _ _ _ (ap is_some none)
    ∙ (let more : finite.len (store_of (suc number) slots) + 1 ≡ 1 + count_held slots =
    omega (arith, len-slots (suc number) slots) in more)

-- A stored message differs exactly when its slot's message does.
pub conflict_is : (slots : List Slot) (next number : ℕ) (message : Message) → next ≤ number
    → (leb next number && differs (finite.get (store_of next slots) number) message) ≡ differs
    (slot_at slots (number - next)) message
conflict_is slots next number message low =
    ap (λ (b : Bool). b && differs (finite.get (store_of next slots) number) message) (le-leb next number low)
    ∙ ap (λ (o : Option Message). differs o message) (get-slots next slots number
    ∙ cond-true (leb next number) (slot_at slots (number - next)) None (le-leb next number low))

empty_slots : (slots : List Slot) → count_held slots ≡ 0 → slots ≡ replicate (length slots) None
empty_slots [] none = refl
empty_slots (None ∷ slots) none = ap (λ (t : List Slot). None ∷ t) (empty_slots slots (omega (arith, none)))
empty_slots (Some m ∷ slots) none = absurd (omega (arith, none))

moved_empty : (count n : ℕ) → count ≤ n →
    replicate {A = Slot} n None ≡ drop count (replicate n None) ++ replicate count None
moved_empty count n within =
    let whole : n ≡ (n - count) + count = omega (arith, within) in
    ap (λ (k : ℕ). replicate {A = Slot} k None) whole
    ∙ sym (replicate-append-replicate (n - count) count None)
    ∙ ap (λ (t : List Slot). t ++ replicate count None) (sym (drop-replicate {X = Slot} count n None))

-- Empty slots that move are unchanged.
pub moved_none : (count : ℕ) (slots : List Slot) → count ≤ length slots → count_held slots ≡ 0 →
    slots ≡ drop count slots ++ replicate count None
moved_none count slots within none =
    let empty : slots ≡ replicate (length slots) None = empty_slots slots none in
    empty ∙ moved_empty count (length slots) within
    ∙ ap (λ (t : List Slot). drop count t ++ replicate count None) (sym empty)
