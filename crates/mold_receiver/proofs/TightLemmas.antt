-- A segment's bytes are the blocks of its stored messages, and these leave together.
use Rattle.std.proofs.Common.{◌≡◌, ℕ, zero, suc, ◌+◌, ◌<◌, ◌≤◌, ◌⊎◌, Bool, true, false, cond, eqb, ltb, ◌&&◌, List, [], ◌∷◌}
use Rattle.std.proofs.Common.{◌++◌, length, length-append, take, drop, slice_set, replicate, refl, sym, ap, subst, ◌∙◌}
use Rattle.std.proofs.Common.{inl, inr, arith}
use Rattle.std.specs.Prelude.{Option, None, Some, IfSome, is_none}
use Rattle.std.specs.List.{AllByRecursion}
use Rattle.std.specs.Option.{option_map}
use Rattle.std.proofs.lemmas.Bool.{and_parts, cases_eq, cases_lt, lt-ltb, ne_eqb}
use Rattle.std.proofs.lemmas.List.{length-map, length-set}
use Rattle.mold_wire.specs.Block.{IsMessage, be16, block, blocks}
use Rattle.mold_receiver.specs.declared.place.Place.{Place}
use Rattle.mold_receiver.specs.declared.segments.Segments.{Segments}
use Rattle.mold_receiver.specs.declared.shelf.Shelf.{Shelf}
use Rattle.mold_receiver.specs.Keeping.{AreFree, is_fresh}
use Rattle.mold_receiver.specs.Slots.{slot_at}
use Rattle.mold_receiver.specs.Places.{count_in, message_in, place_at}
use Rattle.mold_receiver.specs.Ring.{placed}
use Rattle.mold_receiver.specs.Segments.{AreLeft, AreLost, AreSegments, HasAppended, bytes_at, count_at, live_at, more_at, one_at}
use Rattle.mold_receiver.specs.Shelf.{AreBlocksAt, IsKept, message_on, slots_on}
use Rattle.mold_receiver.specs.Store.{Message}
use Rattle.mold_receiver.specs.Tight.{ArePlaced, AreSolid, HasMarked, IsBeside, IsTight, block_length, length_in, length_of}
use Rattle.mold_receiver.proofs.MarkLemmas.{is_there, message_there}
use Rattle.mold_receiver.proofs.ShelfLemmas.{message_more, no_place, place_put_other, place_put_same, slot_in}
use Rattle.mold_receiver.proofs.KeepLemmas.{none_is}
use Rattle.mold_receiver.proofs.KeptLemmas.{fresh_there}
use Rattle.mold_receiver.proofs.ReleaseLemmas.{count_taken, place_there}
use Rattle.mold_receiver.proofs.SkipLemmas.{live_left, place_skipped}
use Rattle.mold_receiver.proofs.StoreLemmas.{none_some}

-- Segments that have the same messages at some places have blocks of the same length there.
pub length_same : (old new : Segments) (key : ℕ) (places : List (Option Place)) →
    ((i : ℕ) (place : Place) → place_at places i ≡ Some place → message_on new place ≡ message_on old place) →
    length_in new key places ≡ length_in old key places
length_same old new key [] same = refl
length_same old new key (None ∷ places) same = length_same old new key places (λ i p is. same (suc i) p is)
length_same old new key (Some place ∷ places) same =
    let here : length_of new key place ≡ length_of old key place =
    ap (λ (m : Message). cond (eqb place.segment key) (2 + length m) 0) (same 0 place refl) in
    omega (arith, here, length_same old new key places (λ i p is. same (suc i) p is))

-- The same where only the bytes of this segment are known to be the same.
pub length_messages : (old new : Segments) (key : ℕ) (places : List (Option Place)) →
    bytes_at new key ≡ bytes_at old key → length_in new key places ≡ length_in old key places
length_messages old new key [] same = refl
length_messages old new key (None ∷ places) same = length_messages old new key places same
length_messages old new key (Some place ∷ places) same =
    let here : length_of new key place ≡ length_of old key place =
    elim (cases_eq place.segment key) [
      | inl is ↦
          ap (λ (t : List ℕ). cond (eqb place.segment key) (2 + length (message_in t place.start)) 0)
          (ap (bytes_at new) is ∙ same ∙ sym (ap (bytes_at old) is))
      | inr other ↦
          let none : (n : ℕ) → cond {A = ℕ} (eqb place.segment key) n 0 ≡ 0 =
          λ n. ap {B = ℕ} (λ (b : Bool). cond b n 0) (ne_eqb place.segment key other) in
          none (block_length new place) ∙ sym (none (block_length old place))
    ] in
    omega (arith, here, length_messages old new key places same)

-- One more message is in its segment.
pub length_put : (segments : Segments) (places : List (Option Place)) (i : ℕ) (place : Place) (key : ℕ) →
    i < length places → place_at places i ≡ None →
    length_in segments key (slice_set places i (Some place)) ≡ length_in segments key places + length_of segments key place
length_put segments [] i place key there empty = absurd (omega (arith, there))
length_put segments (None ∷ places) zero place key there empty = omega arith
length_put segments (Some p ∷ places) zero place key there empty = absurd (none_some (sym empty))
length_put segments (None ∷ places) (suc i) place key there empty =
    length_put segments places i place key (omega (arith, there)) empty
length_put segments (Some p ∷ places) (suc i) place key there empty =
    omega (arith, length_put segments places i place key (omega (arith, there)) empty)

pub length_split : (segments : Segments) (places : List (Option Place)) (n key : ℕ) →
    length_in segments key (take n places) + length_in segments key (drop n places) ≡ length_in segments key places
length_split segments places zero key = omega arith
length_split segments [] (suc n) key = refl
length_split segments (None ∷ places) (suc n) key = length_split segments places n key
length_split segments (Some p ∷ places) (suc n) key = omega (arith, length_split segments places n key)

length_padding : (segments : Segments) (n key : ℕ) → length_in segments key (replicate n None) ≡ 0
length_padding segments zero key = refl
length_padding segments (suc n) key = length_padding segments n key

pub length_pad : (segments : Segments) (places : List (Option Place)) (n key : ℕ) →
    length_in segments key (places ++ replicate n None) ≡ length_in segments key places
length_pad segments [] n key = length_padding segments n key
length_pad segments (None ∷ places) n key = length_pad segments places n key
length_pad segments (Some p ∷ places) n key = omega (arith, length_pad segments places n key)

-- Without a message in the segment, the length is zero, and with one it isn't.
pub length_none : (segments : Segments) (places : List (Option Place)) (key : ℕ) → count_in key places ≡ 0 →
    length_in segments key places ≡ 0
length_none segments [] key none = refl
length_none segments (None ∷ places) key none = length_none segments places key none
length_none segments (Some p ∷ places) key none =
    let rest = length_none segments places key (omega (arith, none)) in
    elim (eqb p.segment key) as (λ (b : Bool). cond {A = ℕ} b 1 0 + count_in key places ≡ 0 →
    cond {A = ℕ} b (block_length segments p) 0 + length_in segments key places ≡ 0) [
      | true ↦ λ some. absurd (omega (arith, some))
      | false ↦ λ _. omega (arith, rest)
    ] none

pub count_nonzero : (segments : Segments) (places : List (Option Place)) (key : ℕ) →
    0 < length_in segments key places → 0 < count_in key places
count_nonzero segments [] key some = some
count_nonzero segments (None ∷ places) key some = count_nonzero segments places key some
count_nonzero segments (Some p ∷ places) key some =
    elim (eqb p.segment key) as (λ (b : Bool). 0 < cond {A = ℕ} b (block_length segments p) 0 + length_in segments key places →
    0 < cond {A = ℕ} b 1 0 + count_in key places) [
      | true ↦ λ _. omega arith
      | false ↦ λ rest. omega (arith, count_nonzero segments places key (omega (arith, rest)))
    ] some

-- A slot with a message in the segment.
pub record HasPlace (places : List (Option Place)) (key : ℕ) : Type 0 where
  pub at : ℕ
  pub place : Place
  pub is : place_at places at ≡ Some place
  pub segment : place.segment ≡ key

pub place_in : (places : List (Option Place)) (key : ℕ) → 0 < count_in key places → HasPlace places key
place_in [] key some = absurd (omega (arith, some))
place_in (None ∷ places) key some =
    let rest = place_in places key some in
    record { at = suc rest.at; place = rest.place; is = rest.is; segment = rest.segment }
place_in (Some p ∷ places) key some =
    elim (cases_eq p.segment key) [
      | inl same ↦ record { at = 0; place = p; is = refl; segment = same }
      | inr other ↦
          let rest = place_in places key (omega (arith, some, not_one p.segment key other)) in
          record { at = suc rest.at; place = rest.place; is = rest.is; segment = rest.segment }
    ]
  where
    not_one : (segment key : ℕ) → (segment ≡ key → ⊥) → one_at segment key ≡ 0
    not_one segment key other = ap {B = ℕ} (λ (b : Bool). cond b 1 0) (ne_eqb segment key other)

-- Places that are written one after the other.
some_is : {X : Type 0} (x y : X) → Some x ≡ Some y → x ≡ y
some_is x y e = cc e

-- A slot is empty, or it has a place.
cases_place : (o : Option Place) → (o ≡ None) ⊎ ((place : Place) × (o ≡ Some place))
cases_place None = inl refl
cases_place (Some place) = inr (place, refl)

pub placed_none : (places : List (Option Place)) (slot segment : ℕ) →
    (slot < length places → place_at places slot ≡ None → ⊥) → ArePlaced places places slot (slot + 1) segment
placed_none places slot segment taken = record {
  same = refl;
  kept = λ i place is. is;
  added = λ i place none some. absurd (none_some (sym none ∙ some));
  whole = λ i low high there none.
      let here : i ≡ slot = omega (arith, low, high) in
      taken (omega (arith, there, here)) (subst (λ (n : ℕ). place_at places n ≡ None) here none);
}

pub placed_one : (places : List (Option Place)) (slot : ℕ) (place : Place) → slot < length places →
    place_at places slot ≡ None → ArePlaced places (slice_set places slot (Some place)) slot (slot + 1) place.segment
placed_one places slot place there empty = record {
  same = length-set places slot (Some place);
  kept = λ i p is. place_put_other places slot (Some place) i
      (λ e. none_some (sym empty ∙ subst (λ (n : ℕ). place_at places n ≡ Some p) e is)) ∙ is;
  added = λ i p none some.
      elim (cases_eq i slot) [
        | inl same ↦ (
          omega (arith, same),
          omega (arith, same),
          ap (λ (x : Place). x.segment) (sym (some_is place p
              (sym (place_put_same places slot (Some place) there)
              ∙ subst (λ (n : ℕ). place_at (slice_set places slot (Some place)) n ≡ Some p) same some))),
        )
        | inr other ↦ absurd (none_some (sym none ∙ sym (place_put_other places slot (Some place) i other) ∙ some))
      ];
  whole = λ i low high inside none.
      let here : i ≡ slot = omega (arith, low, high) in
      none_some (sym (subst (λ (n : ℕ). place_at (slice_set places slot (Some place)) n ≡ None) here none)
      ∙ place_put_same places slot (Some place) there);
}

pub placed_empty : (places : List (Option Place)) (slot segment : ℕ) → ArePlaced places places slot slot segment
placed_empty places slot segment = record {
  same = refl;
  kept = λ i place is. is;
  added = λ i place none some. absurd (none_some (sym none ∙ some));
  whole = λ i low high. absurd (omega (arith, low, high));
}

-- A slot that is empty now was empty before.
was_empty : (old new : List (Option Place)) (first end segment i : ℕ) → ArePlaced old new first end segment →
    place_at new i ≡ None → place_at old i ≡ None
was_empty old new first end segment i write none =
    elim (cases_place (place_at old i)) [
      | inl empty ↦ empty
      | inr some ↦ absurd (none_some (sym none ∙ write.kept i some.0 some.1))
    ]

pub placed_twice : (one two three : List (Option Place)) (first middle end segment : ℕ) → first ≤ middle →
    middle ≤ end → ArePlaced one two first middle segment → ArePlaced two three middle end segment →
    ArePlaced one three first end segment
placed_twice one two three first middle end segment low high a b = record {
  same = b.same ∙ a.same;
  kept = λ i place is. b.kept i place (a.kept i place is);
  added = λ i place none some.
      elim (cases_place (place_at two i)) [
        | inl empty ↦
            let here = b.added i place empty some in
            (omega (arith, here.0, low), here.1, here.2)
        | inr had ↦
            let here = a.added i had.0 none had.1 in
            let same : had.0 ≡ place = some_is had.0 place (sym (b.kept i had.0 had.1) ∙ some) in (
              here.0,
              omega (arith, here.1, high),
              ap (λ (x : Place). x.segment) (sym same) ∙ here.2,
            )
      ];
  whole = λ i from to there none.
      elim (cases_lt i middle) [
        | inl below ↦ a.whole i from below there (was_empty two three middle end segment i b none)
        | inr above ↦ b.whole i above to (omega (arith, there, a.same)) none
      ];
}

-- No slot is empty between the messages of the segment outside a range of slots, and that range.
pub record IsNear (places : List (Option Place)) (first end segment : ℕ) : Type 0 where
  pub low :
      (i j : ℕ) (place : Place) → i < j → j < first → place_at places i ≡ Some place → place.segment ≡ segment →
      place_at places j ≡ None → ⊥
  pub high :
      (j k : ℕ) (place : Place) → end ≤ j → j < k → place_at places k ≡ Some place → place.segment ≡ segment →
      place_at places j ≡ None → ⊥

pub solid_placed : (old new : List (Option Place)) (first end segment : ℕ) → ArePlaced old new first end segment →
    IsNear old first end segment → AreSolid old → AreSolid new
solid_placed old new first end segment write near solid i j k p q left right at_i at_k same none =
    let empty : place_at old j ≡ None = was_empty old new first end segment j write none in
    let inside : j < length old = omega (arith, place_there new k q at_k, right, write.same) in
    let out : (first ≤ j → j < end → ⊥) = λ from to. write.whole j from to inside none in
    elim (cases_place (place_at old i)) [
      | inl new_i ↦
          let here = write.added i p new_i at_i in
          elim (cases_place (place_at old k)) [
            | inl new_k ↦
                let there = write.added k q new_k at_k in
                out (omega (arith, here.0, left)) (omega (arith, there.1, right))
            | inr old_k ↦
                let is_q : old_k.0 ≡ q = some_is old_k.0 q (sym (write.kept k old_k.0 old_k.1) ∙ at_k) in
                elim (cases_lt j end) [
                  | inl below ↦ out (omega (arith, here.0, left)) below
                  | inr past ↦
                      near.high j k old_k.0 past right old_k.1
                      (ap (λ (x : Place). x.segment) is_q ∙ sym same ∙ here.2) empty
                ]
          ]
      | inr old_i ↦
          let is_p : old_i.0 ≡ p = some_is old_i.0 p (sym (write.kept i old_i.0 old_i.1) ∙ at_i) in
          elim (cases_place (place_at old k)) [
            | inl new_k ↦
                let there = write.added k q new_k at_k in
                elim (cases_lt j first) [
                  | inl below ↦
                      near.low i j old_i.0 left below old_i.1
                      (ap (λ (x : Place). x.segment) is_p ∙ same ∙ there.2) empty
                  | inr past ↦ out past (omega (arith, there.1, right))
                ]
            | inr old_k ↦
                let is_q : old_k.0 ≡ q = some_is old_k.0 q (sym (write.kept k old_k.0 old_k.1) ∙ at_k) in
                solid i j k old_i.0 old_k.0 left right old_i.1 old_k.1
                (ap (λ (x : Place). x.segment) is_p ∙ same ∙ sym (ap (λ (x : Place). x.segment) is_q)) empty
          ]
    ]

pub near_beside : (places : List (Option Place)) (first end segment : ℕ) → first ≤ end → AreSolid places →
    IsBeside places first end segment → IsNear places first end segment
near_beside places first end segment order solid (inl (before, place, follows, at, is)) = record {
  low = λ i j p left below at_i same none.
      elim (cases_lt j before) [
        | inl under ↦ solid i j before p place left under at_i at (same ∙ sym is) none
        | inr here ↦
            let is_before : j ≡ before = omega (arith, here, below, follows) in
            none_some (sym none ∙ subst (λ (n : ℕ). place_at places n ≡ Some place) (sym is_before) at)
      ];
  high = λ j k p past right at_k same none.
      solid before j k place p (omega (arith, past, order, follows)) right at at_k (is ∙ sym same) none;
}
near_beside places first end segment order solid (inr (place, at, is)) = record {
  low = λ i j p left below at_i same none.
      solid i j end p place left (omega (arith, below, order)) at_i at (same ∙ sym is) none;
  high = λ j k p past right at_k same none.
      elim (cases_eq j end) [
        | inl here ↦ none_some (sym none ∙ subst (λ (n : ℕ). place_at places n ≡ Some place) (sym here) at)
        | inr other ↦ solid end j k place p (omega (arith, past, other)) right at at_k (is ∙ sym same) none
      ];
}

-- A segment without bytes has no message.
pub near_new : (segments : Segments) (places : List (Option Place)) (first end segment : ℕ) →
    AreBlocksAt segments places → bytes_at segments segment ≡ [] → IsNear places first end segment
near_new segments places first end segment within empty = record {
  low = λ i j p left below at_i same none. no_block i p at_i same;
  high = λ j k p past right at_k same none. no_block k p at_k same;
}
  where
    no_block : (i : ℕ) (p : Place) → place_at places i ≡ Some p → p.segment ≡ segment → ⊥
    no_block i p at same =
        omega (
          arith,
          within i p at,
          ap (λ (n : ℕ). length (bytes_at segments n)) same,
          ap (λ (t : List ℕ). length t) empty,
        )

-- The places of a packet's blocks.
pub placed_all : (places : List (Option Place)) (slot segment start : ℕ) (ms : List Message) →
    slot + length ms ≤ length places → ((i : ℕ) → slot ≤ i → i < slot + length ms → place_at places i ≡ None) →
    ArePlaced places (placed places slot segment start ms) slot (slot + length ms) segment
placed_all places slot segment start [] fits empty =
    subst (λ (n : ℕ). ArePlaced places places slot n segment) (let e : slot ≡ slot + 0 = omega arith in e)
    (placed_empty places slot segment)
placed_all places slot segment start (m ∷ ms) fits empty =
    let place : Place = record { segment = segment; start = start } in
    let next = slice_set places slot (Some place) in
    let one = placed_one places slot place (omega (arith, fits)) (empty slot (omega arith) (omega arith)) in
    let first : ArePlaced places next slot (suc slot) segment =
    subst (λ (n : ℕ). ArePlaced places next slot n segment) (let e : slot + 1 ≡ suc slot = omega arith in e) one in
    let rest = placed_all next (suc slot) segment (start + 2 + length m) ms
    (omega (arith, fits, length-set places slot (Some place)))
    (λ i low high. place_put_other places slot (Some place) i (λ e. omega (arith, e, low))
    ∙ empty i (omega (arith, low)) (omega (arith, high))) in
    subst (λ (n : ℕ). ArePlaced places (placed next (suc slot) segment (start + 2 + length m) ms) slot n segment)
    (let e : suc slot + length ms ≡ slot + suc (length ms) = omega arith in e)
    (placed_twice places next (placed next (suc slot) segment (start + 2 + length m) ms) slot (suc slot)
    (suc slot + length ms) segment (omega arith) (omega arith) first rest)

count_sum : (segment a b key : ℕ) → count_at segment (a + b) key ≡ count_at segment a key + count_at segment b key
count_sum segment a b key =
    elim (eqb segment key) as (λ (c : Bool). ◌≡◌ {A = ℕ} (cond c (a + b) 0) (cond c a 0 + cond c b 0)) [
      | true ↦ refl
      | false ↦ refl
    ]

count_zero : (segment key : ℕ) → count_at segment 0 key ≡ 0
count_zero segment key =
    elim (eqb segment key) as (λ (b : Bool). ◌≡◌ {A = ℕ} (cond b 0 0) 0) [ true ↦ refl | false ↦ refl ]

pub blocks_length : (m : Message) (ms : List Message) →
    length (blocks (m ∷ ms)) ≡ 2 + length m + length (blocks ms)
blocks_length m ms =
    omega (arith, length-append (block m) (blocks ms), length-append (be16 (length m)) m)

pub placed_length : (segments : Segments) (segment : ℕ) (places : List (Option Place)) (slot start : ℕ) (ms : List Message) (key : ℕ) →
    drop start (bytes_at segments segment) ≡ blocks ms → AllByRecursion IsMessage ms →
    slot + length ms ≤ length places → ((i : ℕ) → slot ≤ i → i < slot + length ms → place_at places i ≡ None) →
    length_in segments key (placed places slot segment start ms) ≡ length_in segments key places
    + count_at segment (length (blocks ms)) key
placed_length segments segment places slot start [] key there each fits empty =
    omega (arith, count_zero segment key)
placed_length segments segment places slot start (m ∷ ms) key there each fits empty =
    let place : Place = record { segment = segment; start = start } in
    let next = slice_set places slot (Some place) in
    let bytes = bytes_at segments segment in
    let rest = placed_length segments segment next (suc slot) (start + 2 + length m) ms key
    (is_there bytes start m ms there).behind each.1 (omega (arith, fits, length-set places slot (Some place)))
    (λ i low high. place_put_other places slot (Some place) i (λ e. omega (arith, e, low))
    ∙ empty i (omega (arith, low)) (omega (arith, high))) in
    let one = length_put segments places slot place key (omega (arith, fits)) (empty slot (omega arith) (omega arith)) in
    let here : length_of segments key place ≡ count_at segment (2 + length m) key =
    ap (λ (t : Message). count_at segment (2 + length t) key) (message_there bytes start m ms each.0 there) in
    omega (
      arith,
      rest,
      one,
      here,
      count_sum segment (2 + length m) (length (blocks ms)) key,
      ap (λ (n : ℕ). count_at segment n key) (blocks_length m ms),
    )

more_length : (segment : ℕ) (more : List ℕ) (key : ℕ) →
    length (more_at segment more key) ≡ count_at segment (length more) key
more_length segment more key =
    elim (eqb segment key) as (λ (b : Bool). length (cond {A = List ℕ} b more []) ≡ cond b (length more) 0) [
      | true ↦ refl
      | false ↦ refl
    ]

-- Bytes were appended to a segment, and then messages of these bytes were put into slots.
pub tight_marked : (old middle new : Shelf) (place : Place) (more : List ℕ) (first end : ℕ) → IsKept old → IsTight old →
    middle.ring ≡ old.ring → HasAppended old.segments middle.segments place more →
    HasMarked middle new first end place.segment (length more) → IsNear old.ring first end place.segment →
    IsTight new
tight_marked old middle new place more first end kept tight ring added marked near = record {
  exact = λ key.
      let same : length_in middle.segments key old.ring ≡ length_in old.segments key old.ring =
      length_same old.segments middle.segments key old.ring (λ i p is.
      ap (λ (t : List ℕ). message_in t p.start) (added.bytes p.segment)
      ∙ message_more (bytes_at old.segments p.segment) (more_at place.segment more p.segment) p.start
      (kept.within i p is)) in
      omega (
        arith,
        ap (λ (t : List ℕ). length t) (marked.bytes key),
        ap (λ (t : List ℕ). length t) (added.bytes key),
        length-append (bytes_at old.segments key) (more_at place.segment more key),
        more_length place.segment more key,
        marked.longer key,
        ap (λ (t : List (Option Place)). length_in middle.segments key t) ring,
        same,
        tight.exact key,
      );
  solid = solid_placed old.ring new.ring first end place.segment
      (subst (λ (t : List (Option Place)). ArePlaced t new.ring first end place.segment) ring marked.placed) near
      tight.solid;
}

-- The messages of a packet are put into empty slots.
module _ (old : Shelf) (slot : ℕ) (begin : Place) (ms : List Message) (kept : IsKept old)
    (free : AreFree (slots_on old) slot (length ms)) (each : AllByRecursion IsMessage ms)
    (there : drop begin.start (bytes_at old.segments begin.segment) ≡ blocks ms) where
  no_places : (i : ℕ) → slot ≤ i → i < slot + length ms → place_at old.ring i ≡ None
  no_places i low high = no_place old.segments old.ring i (free.1 i low high)

  fits_ring : slot + length ms ≤ length old.ring
  fits_ring = omega (arith, free.0, length-map old.ring (option_map (message_on old.segments)))

  pub marked_all : (new : Shelf) → new.ring ≡ placed old.ring slot begin.segment begin.start ms →
      ((key : ℕ) → bytes_at new.segments key ≡ bytes_at old.segments key) →
      HasMarked old new slot (slot + length ms) begin.segment (length (blocks ms))
  marked_all new ring same = record {
    bytes = same;
    placed = subst (λ (t : List (Option Place)). ArePlaced old.ring t slot (slot + length ms) begin.segment) (sym ring)
        (placed_all old.ring slot begin.segment begin.start ms fits_ring no_places);
    longer = λ key.
        length_same old.segments new.segments key new.ring
        (λ i p is. ap (λ (t : List ℕ). message_in t p.start) (same p.segment))
        ∙ ap (λ (t : List (Option Place)). length_in old.segments key t) ring
        ∙ placed_length old.segments begin.segment old.ring slot begin.start ms key there each fits_ring no_places;
  }

-- A shelf whose segments have the same bytes.
pub tight_left : (old new : Shelf) → IsKept old → IsTight old → new.ring ≡ old.ring → AreLeft old.segments new.segments →
    IsTight new
tight_left old new kept tight ring left = record {
  exact = λ key.
      ap (λ (t : List ℕ). length t) (left.bytes key)
      ∙ tight.exact key
      ∙ sym (ap (λ (t : List (Option Place)). length_in new.segments key t) ring
      ∙ length_same old.segments new.segments key old.ring
      (λ i p is. ap (λ (t : List ℕ). message_in t p.start) (left.bytes p.segment)));
  solid = subst AreSolid (sym ring) tight.solid;
}

pub tight_new : (shelf : Shelf) (window : ℕ) → shelf.ring ≡ replicate window None →
    ((key : ℕ) → bytes_at shelf.segments key ≡ []) → IsTight shelf
tight_new shelf window ring empty = record {
  exact = λ key.
      ap (λ (t : List ℕ). length t) (empty key)
      ∙ sym (ap (λ (t : List (Option Place)). length_in shelf.segments key t) ring
      ∙ length_padding shelf.segments window key);
  solid = λ i j k p q left right at_i at_k same none.
      none_some (sym (nothing window i) ∙ ap (λ (t : List (Option Place)). place_at t i) (sym ring) ∙ at_i);
}
  where
    nothing : (n i : ℕ) → place_at (replicate n None) i ≡ None
    nothing zero i = refl
    nothing (suc n) zero = refl
    nothing (suc n) (suc i) = nothing n i

-- The segment beside some slots has bytes.
pub beside_there : (segments : Segments) (places : List (Option Place)) (first end key : ℕ) → AreBlocksAt segments places →
    IsBeside places first end key → 0 < length (bytes_at segments key)
beside_there segments places first end key within (inl (before, place, follows, at, is)) =
    omega (arith, within before place at, ap (λ (n : ℕ). length (bytes_at segments n)) is)
beside_there segments places first end key within (inr (place, at, is)) =
    omega (arith, within end place at, ap (λ (n : ℕ). length (bytes_at segments n)) is)

pub if_some : (o : Option ℕ) (P Q : ℕ → Type 0) → ((n : ℕ) → P n → Q n) → IfSome o P → IfSome o Q
if_some None P Q implies is = tt
if_some (Some n) P Q implies is = implies n is

pub some_of : (o : Option ℕ) (P : ℕ → Type 0) (n : ℕ) → o ≡ Some n → IfSome o P → P n
some_of None P n is p = absurd (none_some is)
some_of (Some m) P n is p = subst P (some_is m n is) p

-- Where bytes are appended beside some slots, or make a segment, no slot between those of the segment is empty.
pub near_appended : (shelf : Shelf) (first end : ℕ) (beside : Option ℕ) (segment : ℕ) → IsKept shelf → IsTight shelf →
    first ≤ end → IfSome beside (λ key. IsBeside shelf.ring first end key) →
    (beside ≡ Some segment) ⊎ (bytes_at shelf.segments segment ≡ []) → IsNear shelf.ring first end segment
near_appended shelf first end beside segment kept tight order is (inl same) =
    near_beside shelf.ring first end segment order tight.solid
    (some_of beside (λ key. IsBeside shelf.ring first end key) segment same is)
near_appended shelf first end beside segment kept tight order is (inr new) =
    near_new shelf.segments shelf.ring first end segment kept.within new

take_short : (n : ℕ) (places : List (Option Place)) → length (take n places) ≤ n
take_short zero places = omega arith
take_short (suc n) [] = omega arith
take_short (suc n) (p ∷ places) = omega (arith, take_short n places)

-- What a shelf has after its first slots are dropped, up to an empty one.
module _ (old : Shelf) (n : ℕ) (kept : IsKept old) (tight : IsTight old) (ends : place_at old.ring n ≡ None) where
  -- A segment that has a message in the dropped slots has none in the others.
  all_leave : (ring : List (Option Place)) (key : ℕ) → ring ≡ drop n old.ring ++ replicate n None →
      0 < count_in key (take n old.ring) → 0 < count_in key ring → ⊥
  all_leave ring key is some rest =
      let a = place_in (take n old.ring) key some in
      let b = place_in ring key rest in
      let inside : a.at < n = omega (arith, place_there (take n old.ring) a.at a.place a.is, take_short n old.ring) in
      let first : place_at old.ring a.at ≡ Some a.place = sym (place_taken n old.ring a.at inside) ∙ a.is in
      let last : place_at old.ring (n + b.at) ≡ Some b.place =
      sym (place_skipped n old.ring b.at) ∙ ap (λ (t : List (Option Place)). place_at t b.at) (sym is) ∙ b.is in
      elim (cases_eq b.at 0) [
        | inl zero_at ↦
            none_some (sym ends ∙ ap (λ (i : ℕ). place_at old.ring i) (let e : n ≡ n + b.at = omega (arith, zero_at) in e)
            ∙ last)
        | inr other ↦
            tight.solid a.at n (n + b.at) a.place b.place inside (omega (arith, other)) first last
            (a.segment ∙ sym b.segment) ends
      ]
    where
      place_taken : (n : ℕ) (places : List (Option Place)) (i : ℕ) → i < n →
          place_at (take n places) i ≡ place_at places i
      place_taken zero places i low = absurd (omega (arith, low))
      place_taken (suc n) [] i low = refl
      place_taken (suc n) (p ∷ places) zero low = refl
      place_taken (suc n) (p ∷ places) (suc i) low = place_taken n places i (omega (arith, low))

  pub tight_skipped : (new : Shelf) → n ≤ length (slots_on old) → new.ring ≡ drop n old.ring ++ replicate n None →
      AreSegments new.segments → AreLost old.segments new.segments (take n old.ring) → IsTight new
  tight_skipped new fits is whole lost = record {
    exact = λ key.
        let parts = length_split old.segments old.ring n key in
        let padded : length_in old.segments key new.ring ≡ length_in old.segments key (drop n old.ring) =
        ap (λ (t : List (Option Place)). length_in old.segments key t) is
        ∙ length_pad old.segments (drop n old.ring) n key in
        let count : live_at new.segments key ≡ count_in key new.ring =
        live_left old new.ring new.segments n kept fits is whole lost key in
        elim (lost.bytes key) [
          | inl left ↦
              let first : length_in old.segments key (take n old.ring) ≡ 0 =
              elim (cases_lt 0 (count_in key (take n old.ring))) [
                | inl some ↦
                    elim (cases_lt 0 (count_in key new.ring)) [
                      | inl rest ↦ absurd (all_leave new.ring key is some rest)
                      | inr none ↦ absurd (omega (
                        arith,
                        some,
                        left.1 (omega (arith, none, count)),
                        kept.live key,
                        count_taken old.ring n key,
                      ))
                    ]
                | inr none ↦ length_none old.segments (take n old.ring) key (omega (arith, none))
              ] in
              let same : length_in new.segments key new.ring ≡ length_in old.segments key new.ring =
              length_messages old.segments new.segments key new.ring left.0 in
              omega (arith, ap (λ (t : List ℕ). length t) left.0, tight.exact key, parts, padded, first, same)
          | inr gone ↦
              omega (
                arith,
                ap (λ (t : List ℕ). length t) gone.0,
                length_none new.segments new.ring key (omega (arith, count, gone.1)),
              )
        ];
    solid = λ i j k p q left right at_i at_k same none.
        tight.solid (n + i) (n + j) (n + k) p q (omega (arith, left)) (omega (arith, right)) (sym (from i) ∙ at_i)
        (sym (from k) ∙ at_k) same (sym (from j) ∙ none);
  }
    where
      from : (i : ℕ) → place_at new.ring i ≡ place_at old.ring (n + i)
      from i = ap (λ (t : List (Option Place)). place_at t i) is ∙ place_skipped n old.ring i

-- What a free slot has in the ring, and what a taken one has.
pub fresh_place : (shelf : Shelf) (slot : ℕ) → is_fresh (slots_on shelf) slot ≡ true →
    (slot < length shelf.ring) × (place_at shelf.ring slot ≡ None)
fresh_place shelf slot free = (
  fresh_there shelf slot free,
  no_place shelf.segments shelf.ring slot
      (none_is (slot_at (slots_on shelf) slot)
      (and_parts (ltb slot (length (slots_on shelf))) (is_none (slot_at (slots_on shelf) slot)) free).1),
)

pub taken_place : (shelf : Shelf) (slot : ℕ) → is_fresh (slots_on shelf) slot ≡ false → slot < length shelf.ring →
    place_at shelf.ring slot ≡ None → ⊥
taken_place shelf slot taken there none =
    let slots = slots_on shelf in
    let empty : slot_at slots slot ≡ None =
    slot_in shelf.segments shelf.ring slot ∙ ap (option_map (message_on shelf.segments)) none in
    let within : slot < length slots =
    omega (arith, there, length-map shelf.ring (option_map (message_on shelf.segments))) in
    let free : is_fresh slots slot ≡ true =
    ap (λ (b : Bool). b && is_none (slot_at slots slot)) (lt-ltb slot (length slots) within)
    ∙ ap is_none empty in
    absurd (cc (sym taken ∙ free))

-- One more of the messages that have a place in new bytes is put into its slot.
module _ (shelf new : Shelf) (slot : ℕ) (place : Place) (m : Message) (ms : List Message) (short : IsMessage m)
    (there : drop place.start (bytes_at shelf.segments place.segment) ≡ blocks (m ∷ ms))
    (free : is_fresh (slots_on shelf) slot ≡ true)
    (ring : new.ring ≡ slice_set shelf.ring slot (Some place))
    (same : (key : ℕ) → bytes_at new.segments key ≡ bytes_at shelf.segments key) where
  pub longer_one : (key : ℕ) →
      length_in new.segments key new.ring + count_at place.segment (length (blocks ms)) key ≡ length_in shelf.segments key
      shelf.ring + count_at place.segment (length (blocks (m ∷ ms))) key
  longer_one key =
      let at = fresh_place shelf slot free in
      let here : length_of shelf.segments key place ≡ count_at place.segment (2 + length m) key =
      ap (λ (t : Message). count_at place.segment (2 + length t) key)
      (message_there (bytes_at shelf.segments place.segment) place.start m ms short there) in
      omega (
        arith,
        length_same shelf.segments new.segments key new.ring
            (λ i p is. ap (λ (t : List ℕ). message_in t p.start) (same p.segment)),
        ap (λ (t : List (Option Place)). length_in shelf.segments key t) ring,
        length_put shelf.segments shelf.ring slot place key at.0 at.1,
        here,
        count_sum place.segment (2 + length m) (length (blocks ms)) key,
        ap (λ (n : ℕ). count_at place.segment n key) (blocks_length m ms),
      )

  pub placed_more : (old : List (Option Place)) (first : ℕ) → first ≤ slot →
      ArePlaced old shelf.ring first slot place.segment → ArePlaced old new.ring first (slot + 1) place.segment
  placed_more old first order before =
      let at = fresh_place shelf slot free in
      subst (λ (t : List (Option Place)). ArePlaced old t first (slot + 1) place.segment) (sym ring)
      (placed_twice old shelf.ring (slice_set shelf.ring slot (Some place)) first slot (slot + 1) place.segment order
      (omega arith) before (placed_one shelf.ring slot place at.0 at.1))

pub placed_still : (shelf : Shelf) (slot : ℕ) (old : List (Option Place)) (first segment : ℕ) →
    is_fresh (slots_on shelf) slot ≡ false → first ≤ slot →
    ArePlaced old shelf.ring first slot segment → ArePlaced old shelf.ring first (slot + 1) segment
placed_still shelf slot old first segment taken order before =
    placed_twice old shelf.ring shelf.ring first slot (slot + 1) segment order (omega arith) before
    (placed_none shelf.ring slot segment (taken_place shelf slot taken))
