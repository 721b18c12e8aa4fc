-- Segments after one of them changes.
use Rattle.std.proofs.Common.{◌≡◌, ℕ, zero, suc, ◌+◌, ◌-◌, ◌*◌, ◌<◌, ◌≤◌, ◌^◌, ◌⊎◌, Bool, true, false, cond, eqb, List, [], ◌∷◌, ◌++◌}
use Rattle.std.proofs.Common.{length, length-append, length-take, drop, refl, sym, ap, subst, ◌∙◌, inl, inr, arith}
use Rattle.std.proofs.Common.{Vec, Global}
use Rattle.std.specs.Prelude.{Option, None, Some, Result, Ok, Err, IfOk, OnErr, min, slice_get, slice_index_or, vec_capacity}
use Rattle.std.proofs.lemmas.Bool.{cases_eq, eq-eqb, ne_eqb}
use Rattle.std.proofs.lemmas.List.{append-nil, drop_at}
use Rattle.slab.specs.Slab.{SameValues, Slab, Updates, get}
use Rattle.mold_receiver.specs.declared.segment.Segment.{Segment}
use Rattle.mold_receiver.specs.declared.segments.Segments.{Segments}
use Rattle.mold_receiver.specs.declared.place.Place.{Place}
use Rattle.mold_receiver.specs.Segments.{AreLeft, AreSegments, AreSpare, HasAppended, HasGained, HasLost, IsFilled, StaysOrGoes}
use Rattle.mold_receiver.specs.Segments.{IsMemory, IsMemoryFor, IsSegment, bytes_at, bytes_of, count_at, live_at, live_of}
use Rattle.mold_receiver.specs.Segments.{count_used, more_at, room_at, size_at, size_of, used_bytes, used_of}
use Rattle.mold_receiver.specs.declared.segment.TheConstants.{SEGMENT_BYTES}
use Rattle.mold_receiver.specs.declared.segments.TheConstants.{MAX_SPARE}
use Rattle.mold_receiver.proofs.StoreLemmas.{none_some}
use Rattle.mold_receiver.proofs.SumLemmas.{used_few, used_same, used_updates}

count_same : (key count : ℕ) → count_at key count key ≡ count
count_same key count = ap {B = ℕ} (λ (b : Bool). cond b count 0) (eq-eqb key key refl)

count_other : (key count at : ℕ) → (at ≡ key → ⊥) → count_at key count at ≡ 0
count_other key count at other = ap {B = ℕ} (λ (b : Bool). cond b count 0) (ne_eqb key at (λ e. other (sym e)))

-- What a key has after an update.
module _ (old new : Segments) (key : ℕ) (slot : Option Segment) (up : Updates old.table new.table key slot) where
  -- A fact about each segment, from the fact about the changed one and about the others.
  each_of : (P : ℕ → Segment → Type 0) → ((segment : Segment) → slot ≡ Some segment → P key segment)
      → ((at : ℕ) (segment : Segment) → (at ≡ key → ⊥) → get old.table at ≡ Some segment → P at segment)
      → (at : ℕ) (segment : Segment) → get new.table at ≡ Some segment → P at segment
  each_of P here there at segment is =
      elim (cases_eq at key) [
        | inl same ↦
            subst (λ (n : ℕ). P n segment) (sym same)
            (here segment (sym up.changed ∙ subst (λ (n : ℕ). get new.table n ≡ Some segment) same is))
        | inr other ↦ there at segment other (sym (up.others at other) ∙ is)
      ]

  -- A fact about each key.
  key_of : (P : ℕ → Option Segment → Option Segment → Type 0) → P key (get old.table key) slot
      → ((at : ℕ) → (at ≡ key → ⊥) → P at (get old.table at) (get old.table at))
      → (at : ℕ) → P at (get old.table at) (get new.table at)
  key_of P here there at =
      elim (cases_eq at key) [
        | inl same ↦
            subst (λ (n : ℕ). P n (get old.table n) (get new.table n)) (sym same)
            (subst (λ (o : Option Segment). P key (get old.table key) o) (sym up.changed) here)
        | inr other ↦
            subst (λ (o : Option Segment). P at (get old.table at) o) (sym (up.others at other)) (there at other)
      ]

some_same : {X : Type 0} (x y : X) → Some x ≡ Some y → x ≡ y
some_same x y e = cc e

-- The bytes in use are counted, if that is so as far as 64 bits can count.
abbrev pub IsCounted : Slab Segment → ℕ → Type 0
IsCounted table used = used_of table.slots < 2 ^ 64 → used ≡ used_of table.slots

counted : (new : Segments) → ((at : ℕ) (s : Segment) → get new.table at ≡ Some s → IsSegment s)
    → ((at : ℕ) (s : Segment) → get new.table at ≡ Some s → at < 2 ^ 32) → IsCounted new.table new.used
    → new.used ≡ used_of new.table.slots
counted new each keys count =
    count (used_few new.table (λ at s is. let it = each at s is in omega (arith, it.used, it.few))
    (λ at s is. omega (arith, keys at s is)))

pub are_with : (old new : Segments) (key : ℕ) (segment : Segment) → AreSegments old
    → Updates old.table new.table key (Some segment) → IsSegment segment → key < 2 ^ 32
    → length segment.bytes.items ≤ 2 * segment.used + room_at old.roomy key → new.roomy ≡ old.roomy
    → AreSpare new.spare new.small → IsCounted new.table new.used → AreSegments new
are_with old new key segment are up is few size roomy spare count = record {
  each = each;
  keys = keys;
  total = counted new each keys count;
  size = subst (λ (r : Option ℕ). (at : ℕ) (s : Segment) → get new.table at ≡ Some s →
      length s.bytes.items ≤ 2 * s.used + room_at r at) (sym roomy)
      (each_of old new key (Some segment) up (λ at s. length s.bytes.items ≤ 2 * s.used + room_at old.roomy at)
      (λ s e. subst (λ (x : Segment). length x.bytes.items ≤ 2 * x.used + room_at old.roomy key)
      (some_same segment s e) size) (λ at s _ had. are.size at s had));
  spare = spare;
}
  where
    each : (at : ℕ) (s : Segment) → get new.table at ≡ Some s → IsSegment s
    each = each_of old new key (Some segment) up (λ _ s. IsSegment s)
        (λ s e. subst IsSegment (some_same segment s e) is) (λ at s _ had. are.each at s had)

    keys : (at : ℕ) (s : Segment) → get new.table at ≡ Some s → at < 2 ^ 32
    keys = each_of old new key (Some segment) up (λ at _. at < 2 ^ 32)
        (λ s e. few) (λ at s _ had. are.keys at s had)

pub are_without : (old new : Segments) (key : ℕ) → AreSegments old → Updates old.table new.table key None
    → new.roomy ≡ old.roomy → AreSpare new.spare new.small → IsCounted new.table new.used → AreSegments new
are_without old new key are up roomy spare count = record {
  each = each;
  keys = keys;
  total = counted new each keys count;
  size = subst (λ (r : Option ℕ). (at : ℕ) (s : Segment) → get new.table at ≡ Some s →
      length s.bytes.items ≤ 2 * s.used + room_at r at) (sym roomy)
      (each_of old new key None up (λ at s. length s.bytes.items ≤ 2 * s.used + room_at old.roomy at)
      (λ s e. absurd (none_some e)) (λ at s _ had. are.size at s had));
  spare = spare;
}
  where
    each : (at : ℕ) (s : Segment) → get new.table at ≡ Some s → IsSegment s
    each = each_of old new key None up (λ _ s. IsSegment s) (λ s e. absurd (none_some e))
        (λ at s _ had. are.each at s had)

    keys : (at : ℕ) (s : Segment) → get new.table at ≡ Some s → at < 2 ^ 32
    keys = each_of old new key None up (λ at _. at < 2 ^ 32) (λ s e. absurd (none_some e))
        (λ at s _ had. are.keys at s had)

-- Any segment may become the roomy one if none was.
pub are_roomy : (old new : Segments) → AreSegments old → old.roomy ≡ None → new.table ≡ old.table
    → new.spare ≡ old.spare → new.small ≡ old.small → new.used ≡ old.used → AreSegments new
are_roomy old new are none table spare less used =
    let kept : (r : Option ℕ) (at : ℕ) (s : Segment) → get old.table at ≡ Some s →
    length s.bytes.items ≤ 2 * s.used + room_at r at =
    λ r at s had. omega (arith, are.size at s had, ap (λ (o : Option ℕ). room_at o at) none) in
    record {
      each = λ at s had. are.each at s (ap (λ (t : Slab Segment). get t at) (sym table) ∙ had);
      keys = λ at s had. are.keys at s (ap (λ (t : Slab Segment). get t at) (sym table) ∙ had);
      size = λ at s had. kept new.roomy at s (ap (λ (t : Slab Segment). get t at) (sym table) ∙ had);
      spare = subst (λ (x : Vec (Vec ℕ Global) Global). AreSpare x new.small) (sym spare)
          (subst (AreSpare old.spare) (sym less) are.spare);
      total = used ∙ are.total ∙ ap (λ (t : Slab Segment). used_of t.slots) (sym table);
    }

-- No segment is roomy any more, if the roomy one's memory is at most twice as large as its bytes.
pub are_tight : (old new : Segments) (key : ℕ) → AreSegments old → old.roomy ≡ Some key
    → size_at old key ≤ 2 * length (bytes_at old key) → new.table ≡ old.table → new.spare ≡ old.spare
    → new.small ≡ old.small → new.used ≡ old.used → AreSegments new
are_tight old new key are roomy small table spare less used =
    let kept : (r : Option ℕ) (at : ℕ) (s : Segment) → get old.table at ≡ Some s →
    length s.bytes.items ≤ 2 * s.used + room_at r at =
    λ r at s had.
    elim (cases_eq at key) [
      | inl same ↦
          omega (
            arith,
            small,
            ap (λ (n : ℕ). size_at old n) (sym same),
            ap (λ (n : ℕ). length (bytes_at old n)) (sym same),
            ap size_of had,
            ap (λ (o : Option Segment). length (bytes_of o)) had,
            length-take s.used s.bytes.items,
            (are.each at s had).used,
          )
      | inr other ↦
          omega (
            arith,
            are.size at s had,
            ap (λ (o : Option ℕ). room_at o at) roomy,
            count_other key SEGMENT_BYTES at other,
          )
    ] in
    record {
      each = λ at s had. are.each at s (ap (λ (t : Slab Segment). get t at) (sym table) ∙ had);
      keys = λ at s had. are.keys at s (ap (λ (t : Slab Segment). get t at) (sym table) ∙ had);
      size = λ at s had. kept new.roomy at s (ap (λ (t : Slab Segment). get t at) (sym table) ∙ had);
      spare = subst (λ (x : Vec (Vec ℕ Global) Global). AreSpare x new.small) (sym spare)
          (subst (AreSpare old.spare) (sym less) are.spare);
      total = used ∙ are.total ∙ ap (λ (t : Slab Segment). used_of t.slots) (sym table);
    }

-- Segments with the same table have the same bytes and counts.
pub left_of : (old new : Segments) → new.table ≡ old.table → AreLeft old new
left_of old new same = record {
  live = λ key. ap (λ (t : Slab Segment). live_of (get t key)) same;
  bytes = λ key. ap (λ (t : Slab Segment). bytes_of (get t key)) same;
}

pub left_twice : (first second third : Segments) → AreLeft first second → AreLeft second third → AreLeft first third
left_twice first second third one two = record {
  live = λ key. two.live key ∙ one.live key;
  bytes = λ key. two.bytes key ∙ one.bytes key;
}

-- Bytes that are appended after nothing else changed.
pub appended_left : (first second third : Segments) (place : Place) (more : List ℕ) → AreLeft first second →
    HasAppended second third place more → HasAppended first third place more
appended_left first second third place more left added = record {
  start = added.start ∙ ap (λ (t : List ℕ). length t) (left.bytes place.segment);
  live = λ key. added.live key ∙ left.live key;
  bytes = λ key. added.bytes key ∙ ap (λ (t : List ℕ). t ++ more_at place.segment more key) (left.bytes key);
}

more_here : (key : ℕ) (more : List ℕ) → more_at key more key ≡ more
more_here key more = ap {B = List ℕ} (λ (b : Bool). cond b more []) (eq-eqb key key refl)

more_other : (key : ℕ) (more : List ℕ) (at : ℕ) → (at ≡ key → ⊥) → more_at key more at ≡ []
more_other key more at other = ap {B = List ℕ} (λ (b : Bool). cond b more []) (ne_eqb key at (λ e. other (sym e)))

abbrev Appends : ℕ → List ℕ → ℕ → Option Segment → Option Segment → Type 0
Appends key more at old new = (live_of new ≡ live_of old) × (bytes_of new ≡ bytes_of old ++ more_at key more at)

-- The bytes of one segment grow.
pub appended_with : (old new : Segments) (place : Place) (slot : Option Segment) (after : Segment) (more : List ℕ)
    → get old.table place.segment ≡ slot → Updates old.table new.table place.segment (Some after)
    → place.start ≡ length (bytes_of slot) → after.live ≡ live_of slot
    → used_bytes after ≡ bytes_of slot ++ more → HasAppended old new place more
appended_with old new place slot after more was up start live bytes =
    let key = place.segment in
    let all : (at : ℕ) → Appends key more at (get old.table at) (get new.table at) =
    key_of old new key (Some after) up (Appends key more)
    (subst (λ (o : Option Segment). Appends key more key o (Some after)) (sym was)
    (live, bytes ∙ ap (λ (t : List ℕ). bytes_of slot ++ t) (sym (more_here key more))))
    (λ at other. (
      refl,
      sym (ap (λ (t : List ℕ). bytes_of (get old.table at) ++ t) (more_other key more at other)
          ∙ append-nil (bytes_of (get old.table at))),
    )) in
    record {
      start = start ∙ ap (λ (o : Option Segment). length (bytes_of o)) (sym was);
      live = λ at. (all at).0;
      bytes = λ at. (all at).1;
    }

-- Segments with a stored message keep their bytes in use, and may have more bytes after them. No count changed.
pub record AreMore (old new : Segments) : Type 0 where
  pub live : (key : ℕ) → live_at new key ≡ live_at old key
  pub bytes : (key : ℕ) → (more : List ℕ) × (bytes_at new key ≡ bytes_at old key ++ more)

pub more_left : (old new : Segments) → AreLeft old new → AreMore old new
more_left old new left = record {
  live = left.live;
  bytes = λ key. ([], left.bytes key ∙ sym (append-nil (bytes_at old key)));
}

pub more_appended : (old new : Segments) (place : Place) (more : List ℕ) → HasAppended old new place more →
    AreMore old new
more_appended old new place more added = record {
  live = added.live;
  bytes = λ key. (more_at place.segment more key, added.bytes key);
}

pub more_either : {E : Type 0} (old new : Segments) (more : List ℕ) (r : Result Place E) →
    IfOk r (λ place. HasAppended old new place more) → OnErr r (AreLeft old new) → AreMore old new
more_either old new more (Ok place) added left = more_appended old new place more added
more_either old new more (Err e) added left = more_left old new left

-- The bytes that were appended are the last ones of their segment.
pub appended_there : (old new : Segments) (place : Place) (more : List ℕ) → HasAppended old new place more →
    drop place.start (bytes_at new place.segment) ≡ more
appended_there old new place more added =
    let key = place.segment in
    ap (drop place.start) (added.bytes key ∙ ap (λ (t : List ℕ). bytes_at old key ++ t) (more_here key more))
    ∙ drop_at (bytes_at old key) more place.start (sym added.start)

-- A segment with a stored message has the bytes that it had.
pub stays : (old new : Segments) (key : ℕ) → StaysOrGoes old new key → 0 < live_at new key →
    bytes_at new key ≡ bytes_at old key
stays old new key (inl (same, _)) some = same
stays old new key (inr (_, none)) some = absurd (omega (arith, none, some))

pub stays_twice : (one two three : Segments) (key : ℕ) → StaysOrGoes one two key → StaysOrGoes two three key →
    live_at three key ≤ live_at two key → StaysOrGoes one three key
stays_twice one two three key (inl (a, x)) (inl (b, y)) less = inl (b ∙ a, λ none. x (y none))
stays_twice one two three key (inr (a, x)) (inl (b, y)) less = inr (b ∙ a, omega (arith, less, x))
stays_twice one two three key first (inr gone) less = inr gone

abbrev Loses : ℕ → ℕ → ℕ → Option Segment → Option Segment → Type 0
Loses key count at old new =
    (live_of new ≡ live_of old - count_at key count at)
    × (((bytes_of new ≡ bytes_of old) × (live_of new ≡ 0 → live_of old ≡ 0))
    ⊎ ((bytes_of new ≡ []) × (live_of new ≡ 0)))

loses_other : (key count at : ℕ) (slot : Option Segment) → (at ≡ key → ⊥) → Loses key count at slot slot
loses_other key count at slot other = (omega (arith, count_other key count at other), inl (refl, λ none. none))

lost_of : (old new : Segments) (key count : ℕ)
    → ((at : ℕ) → Loses key count at (get old.table at) (get new.table at)) → HasLost old new key count
lost_of old new key count loses = record { live = λ at. (loses at).0; bytes = λ at. (loses at).1 }

pub count_none : (key at : ℕ) → count_at key 0 at ≡ 0
count_none key at = elim (eqb key at) as (λ (b : Bool). ◌≡◌ {A = ℕ} (cond b 0 0) 0) [ true ↦ refl | false ↦ refl ]

pub lost_none : (segments : Segments) (key : ℕ) → HasLost segments segments key 0
lost_none segments key = record {
  live = λ at. omega (arith, count_none key at);
  bytes = λ at. inl (refl, λ none. none);
}

pub lost_gone : (old new : Segments) (key count : ℕ) → live_at old key ≤ count →
    Updates old.table new.table key None → HasLost old new key count
lost_gone old new key count all up =
    lost_of old new key count (key_of old new key None up (Loses key count)
    (omega (arith, all, count_same key count), inr (refl, refl))
    (λ at other. loses_other key count at (get old.table at) other))

pub lost_with : (old new : Segments) (key count : ℕ) (before after : Segment) → get old.table key ≡ Some before
    → Updates old.table new.table key (Some after) → count < before.live → after.live ≡ before.live - count
    → used_bytes after ≡ used_bytes before → HasLost old new key count
lost_with old new key count before after was up some live bytes =
    lost_of old new key count (key_of old new key (Some after) up (Loses key count)
    (subst (λ (o : Option Segment). Loses key count key o (Some after)) (sym was)
    (omega (arith, live, count_same key count), inl (bytes, λ none. absurd (omega (arith, none, live, some)))))
    (λ at other. loses_other key count at (get old.table at) other))

abbrev Gains : ℕ → ℕ → ℕ → Option Segment → Option Segment → Type 0
Gains key count at old new = (live_of new ≡ live_of old + count_at key count at) × (bytes_of new ≡ bytes_of old)

pub gained_with : (old new : Segments) (key count : ℕ) (before after : Segment) → get old.table key ≡ Some before
    → Updates old.table new.table key (Some after) → after.live ≡ before.live + count
    → used_bytes after ≡ used_bytes before → HasGained old new key count
gained_with old new key count before after was up live bytes =
    let gains : (at : ℕ) → Gains key count at (get old.table at) (get new.table at) =
    key_of old new key (Some after) up (Gains key count)
    (subst (λ (o : Option Segment). Gains key count key o (Some after)) (sym was)
    (omega (arith, live, count_same key count), bytes))
    (λ at other. (omega (arith, count_other key count at other), refl)) in
    record { live = λ at. (gains at).0; bytes = λ at. (gains at).1 }

-- The slots of the table decide what its keys have.
pub updates_kept : (first second third : Slab Segment) (key : ℕ) (slot : Option Segment) → second.slots ≡ first.slots
    → Updates second third key slot → Updates first third key slot
updates_kept first second third key slot same up = record {
  changed = up.changed;
  others = λ other differs.
      up.others other differs ∙ ap (λ (t : List (Option Segment)). slice_index_or t other None) same;
}

-- More bytes of a segment are in use.
pub filled_segment : (before after : Segment) (more : ℕ) → IsSegment before → IsFilled before after more
    → before.used + more ≤ length before.bytes.items → IsSegment after
filled_segment before after more is filled fits = record {
  some = omega (arith, is.some, filled.used);
  used = omega (arith, fits, filled.used, filled.size);
  exact = omega (arith, is.exact, filled.size, filled.room);
  few = omega (arith, is.few, filled.size);
}

-- A segment with this memory, of which `used` bytes are in use.
pub new_segment : (segment : Segment) (memory : Vec ℕ Global) (used room : ℕ) → IsMemoryFor memory used room
    → segment.used ≡ used → length segment.bytes.items ≡ length memory.items
    → vec_capacity segment.bytes ≡ vec_capacity memory → 0 < used → IsSegment segment
new_segment segment memory used room is filled size capacity some = record {
  some = omega (arith, some, filled);
  used = omega (arith, is.least, filled, size);
  exact = omega (arith, is.exact, size, capacity);
  few = omega (arith, is.few, size);
}

-- Offsets in a segment's bytes fit a place.
pub bytes_few : (segments : Segments) (key : ℕ) → AreSegments segments →
    length (bytes_at segments key) < 4294967295
bytes_few segments key are = go (get segments.table key) refl
  where
    go : (o : Option Segment) → get segments.table key ≡ o → length (bytes_of o) < 4294967295
    go None is = omega arith
    go (Some s) is =
        let it = are.each key s is in
        omega (arith, length-take s.used s.bytes.items, it.used, it.few)

last_or : (list : List (Vec ℕ Global)) (last : Vec ℕ Global) (i : ℕ) (bytes : Vec ℕ Global)
    → slice_get (list ++ last ∷ []) i ≡ Some bytes → (slice_get list i ≡ Some bytes) ⊎ (last ≡ bytes)
last_or [] last zero bytes is = inr (cc is)
last_or [] last (suc i) bytes is = absurd (none_some is)
last_or (first ∷ list) last zero bytes is = inl is
last_or (first ∷ list) last (suc i) bytes is = last_or list last i bytes is

-- One more segment's memory is spare.
pub spare_pushed : (old new : Vec (Vec ℕ Global) Global) (small bytes : Vec ℕ Global) → AreSpare old small
    → new.items ≡ old.items ++ bytes ∷ [] → vec_capacity new ≡ vec_capacity old → IsMemory bytes SEGMENT_BYTES
    → length old.items + 2 < MAX_SPARE → AreSpare new small
spare_pushed old new small bytes are is room memory few = record {
  each = λ i b at.
      elim (last_or old.items bytes i b (ap (λ (t : List (Vec ℕ Global)). slice_get t i) (sym is) ∙ at)) [
        | inl had ↦ are.each i b had
        | inr same ↦ subst (λ (x : Vec ℕ Global). IsMemory x SEGMENT_BYTES) same memory
      ];
  few = omega (
    arith,
    few,
    ap (λ (t : List (Vec ℕ Global)). length t) is,
    length-append old.items (bytes ∷ []),
  );
  room = omega (arith, are.room, room);
  less = are.less;
  exact = are.exact;
}

-- The bytes in use of a segment that is there.
pub used_there : (segments : Segments) (key : ℕ) (segment : Segment) → AreSegments segments →
    get segments.table key ≡ Some segment → length (bytes_at segments key) ≡ segment.used
used_there segments key segment are is =
    omega (
      arith,
      ap (λ (o : Option Segment). length (bytes_of o)) is,
      length-take segment.used segment.bytes.items,
      (are.each key segment is).used,
    )

-- A key with bytes in use has a segment.
pub is_there : (segments : Segments) (key : ℕ) → 0 < length (bytes_at segments key) → None ≡ get segments.table key → ⊥
is_there segments key some none = absurd (omega (arith, some, ap (λ (o : Option Segment). length (bytes_of o)) none))

-- A segment's bytes are moved to other memory, and more bytes are appended.
pub are_moved : (old new : Segments) (key : ℕ) (before after : Segment) (memory : Vec ℕ Global) (more : ℕ)
    → AreSegments old → 0 < length (bytes_at old key) → get old.table key ≡ Some before
    → Updates old.table new.table key (Some after)
    → IsMemoryFor memory (length (bytes_at old key) + more) (room_at old.roomy key)
    → after.used ≡ before.used + more → length after.bytes.items ≡ length memory.items
    → vec_capacity after.bytes ≡ vec_capacity memory → new.roomy ≡ old.roomy → AreSpare new.spare new.small
    → IsCounted new.table new.used → AreSegments new
are_moved old new key before after memory more are some is up fits filled size capacity roomy spare count =
    let used : after.used ≡ length (bytes_at old key) + more =
    omega (arith, used_there old key before are is, filled) in
    are_with old new key after are up
    (new_segment after memory (length (bytes_at old key) + more) (room_at old.roomy key) fits used size capacity
    (omega (arith, some)))
    (are.keys key before is) (omega (arith, fits.most, size, used)) roomy spare count

-- More bytes of a segment are in use, and counted.
pub counted_more : (old : Segments) (table : Slab Segment) (key more used : ℕ) (before after : Segment)
    → AreSegments old → get old.table key ≡ Some before → Updates old.table table key (Some after)
    → after.used ≡ before.used + more → used ≡ min (old.used + more) (2 ^ 64 - 1) → IsCounted table used
counted_more old table key more used before after are had up filled count few =
    omega (arith, few, count, filled, are.total, used_updates old.table table key (Some after) up, ap count_used had)

-- A segment is new, and its bytes in use are counted.
pub counted_new : (old : Segments) (first table : Slab Segment) (key more used : ℕ) (after : Segment)
    → AreSegments old → first.slots ≡ old.table.slots → get first key ≡ None
    → Updates first table key (Some after) → after.used ≡ more → used ≡ min (old.used + more) (2 ^ 64 - 1)
    → IsCounted table used
counted_new old first table key more used after are same had up filled count few =
    omega (
      arith,
      few,
      count,
      filled,
      are.total,
      used_updates first table key (Some after) up,
      ap count_used had,
      ap used_of same,
    )

-- The bytes in use of a segment that is gone are no longer counted.
pub counted_gone : (old : Segments) (table : Slab Segment) (key used : ℕ) (before : Segment)
    → AreSegments old → get old.table key ≡ Some before → Updates old.table table key None
    → used ≡ old.used - before.used → IsCounted table used
counted_gone old table key used before are had up count few =
    omega (arith, count, are.total, used_updates old.table table key None up, ap count_used had)

-- A segment's bytes in use stay the same.
pub counted_still : (old : Segments) (table : Slab Segment) (key : ℕ) (before after : Segment)
    → AreSegments old → get old.table key ≡ Some before → Updates old.table table key (Some after)
    → after.used ≡ before.used → IsCounted table old.used
counted_still old table key before after are had up same few =
    omega (arith, same, are.total, used_updates old.table table key (Some after) up, ap count_used had)

-- The table's memory changed, but no segment.
pub are_same : (old new : Segments) → AreSegments old → SameValues old.table new.table → new.roomy ≡ old.roomy
    → new.spare ≡ old.spare → new.small ≡ old.small → new.used ≡ old.used → AreSegments new
are_same old new are same roomy spare less used = record {
  each = λ at s had. are.each at s (sym (same at) ∙ had);
  keys = λ at s had. are.keys at s (sym (same at) ∙ had);
  size = λ at s had.
      subst (λ (r : Option ℕ). length s.bytes.items ≤ 2 * s.used + room_at r at) (sym roomy)
      (are.size at s (sym (same at) ∙ had));
  spare = subst (λ (x : Vec (Vec ℕ Global) Global). AreSpare x new.small) (sym spare)
      (subst (AreSpare old.spare) (sym less) are.spare);
  total = used ∙ are.total ∙ sym (used_same old.table new.table same);
}
