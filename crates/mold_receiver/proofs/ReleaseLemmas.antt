-- The messages in the first slots leave their segments.
use Rattle.std.proofs.Common.{◌≡◌, ℕ, zero, suc, ◌+◌, ◌<◌, ◌≤◌, Bool, true, false, cond, eqb, List, [], ◌∷◌, length}
use Rattle.std.proofs.Common.{take, refl, sym, ap, subst, ◌∙◌, inl, inr, arith, add-one}
use Rattle.std.specs.Prelude.{Option, None, Some}
use Rattle.std.proofs.lemmas.Bool.{cases_eq, eq-eqb, ne_eqb}
use Rattle.mold_receiver.specs.declared.place.Place.{Place}
use Rattle.mold_receiver.specs.declared.segments.Segments.{Segments}
use Rattle.mold_receiver.specs.Places.{count_in, place_at}
use Rattle.mold_receiver.specs.Segments.{HasLost, StaysOrGoes, count_at, live_at, one_at}
use Rattle.mold_receiver.specs.Shelf.{slots_in}
use Rattle.mold_receiver.specs.Slots.{count_held}
use Rattle.mold_receiver.proofs.SegmentLemmas.{stays_twice}
use Rattle.mold_receiver.proofs.StoreLemmas.{none_some}

-- Counts of the first places.
pub count_take_some : (places : List (Option Place)) (i : ℕ) (place : Place) (key : ℕ) → place_at places i ≡ Some place →
    count_in key (take (suc i) places) ≡ count_in key (take i places) + one_at place.segment key
count_take_some [] i place key is = absurd (none_some is)
count_take_some (None ∷ places) zero place key is = absurd (none_some is)
count_take_some (Some p ∷ places) zero place key is =
    let it : p ≡ place = cc is in
    omega (arith, ap (λ (x : Place). one_at x.segment key) it)
count_take_some (None ∷ places) (suc i) place key is = count_take_some places i place key is
count_take_some (Some p ∷ places) (suc i) place key is = omega (arith, count_take_some places i place key is)

count_take_none : (places : List (Option Place)) (i key : ℕ) → place_at places i ≡ None →
    count_in key (take (suc i) places) ≡ count_in key (take i places)
count_take_none [] i key is = ap {B = ℕ} (λ (t : List (Option Place)). count_in key t) (nothing i)
  where
    nothing : (n : ℕ) → ◌≡◌ {A = List (Option Place)} (take (suc n) []) (take n [])
    nothing zero = refl
    nothing (suc n) = refl
count_take_none (None ∷ places) zero key is = refl
count_take_none (Some p ∷ places) zero key is = absurd (none_some (sym is))
count_take_none (None ∷ places) (suc i) key is = count_take_none places i key is
count_take_none (Some p ∷ places) (suc i) key is = ap (λ (n : ℕ). one_at p.segment key + n) (count_take_none places i key is)

pub count_taken : (places : List (Option Place)) (n key : ℕ) → count_in key (take n places) ≤ count_in key places
count_taken places zero key = omega arith
count_taken [] (suc n) key = omega arith
count_taken (None ∷ places) (suc n) key = count_taken places n key
count_taken (Some p ∷ places) (suc n) key = omega (arith, count_taken places n key)

held_take_some : (segments : Segments) (places : List (Option Place)) (i : ℕ) (place : Place) →
    place_at places i ≡ Some place →
    count_held (slots_in segments (take (suc i) places)) ≡ count_held (slots_in segments (take i places)) + 1
held_take_some segments [] i place is = absurd (none_some is)
held_take_some segments (None ∷ places) zero place is = absurd (none_some is)
held_take_some segments (Some p ∷ places) zero place is = omega arith
held_take_some segments (None ∷ places) (suc i) place is = omega (arith, held_take_some segments places i place is)
held_take_some segments (Some p ∷ places) (suc i) place is = omega (arith, held_take_some segments places i place is)

held_take_none : (segments : Segments) (places : List (Option Place)) (i : ℕ) → place_at places i ≡ None →
    count_held (slots_in segments (take (suc i) places)) ≡ count_held (slots_in segments (take i places))
held_take_none segments [] zero is = refl
held_take_none segments [] (suc i) is = refl
held_take_none segments (None ∷ places) zero is = refl
held_take_none segments (Some p ∷ places) zero is = absurd (none_some (sym is))
held_take_none segments (None ∷ places) (suc i) is = omega (arith, held_take_none segments places i is)
held_take_none segments (Some p ∷ places) (suc i) is = omega (arith, held_take_none segments places i is)

pub held_short : (segments : Segments) (places : List (Option Place)) (n : ℕ) →
    count_held (slots_in segments (take n places)) ≤ n
held_short segments places zero = omega arith
held_short segments [] (suc n) = omega arith
held_short segments (None ∷ places) (suc n) = omega (arith, held_short segments places n)
held_short segments (Some p ∷ places) (suc n) = omega (arith, held_short segments places n)

pub place_there : (places : List (Option Place)) (i : ℕ) (place : Place) → place_at places i ≡ Some place →
    i < length places
place_there [] i place is = absurd (none_some is)
place_there (p ∷ places) zero place is = omega arith
place_there (p ∷ places) (suc i) place is = omega (arith, place_there places i place is)

at_same : (key count : ℕ) → count_at key count key ≡ count
at_same key count = ap {B = ℕ} (λ (b : Bool). cond b count 0) (eq-eqb key key refl)

at_other : (key count at : ℕ) → (key ≡ at → ⊥) → count_at key count at ≡ 0
at_other key count at other = ap {B = ℕ} (λ (b : Bool). cond b count 0) (ne_eqb key at other)

-- What is left to subtract, `pending` of the segment `key`, after the messages at some places have left.
pub record IsReleasing (old now : Segments) (places : List (Option Place)) (key pending : ℕ) : Type 0 where
  pub live : (k : ℕ) → live_at now k + count_in k places ≡ live_at old k + count_at key pending k
  pub bytes : (k : ℕ) → StaysOrGoes old now k

pub pending_there : (old now : Segments) (ring : List (Option Place)) (n key pending : ℕ) →
    ((k : ℕ) → count_in k ring ≤ live_at old k) → IsReleasing old now (take n ring) key pending →
    pending ≤ live_at now key
pending_there old now ring n key pending counted is =
    omega (arith, counted key, count_taken ring n key, is.live key, at_same key pending)

-- The pending messages are subtracted.
pub flushed : (old now after : Segments) (places : List (Option Place)) (key pending next : ℕ) →
    IsReleasing old now places key pending → pending ≤ live_at now key → HasLost now after key pending →
    IsReleasing old after places next 0
flushed old now after places key pending next is there lost = record {
  live = λ k.
      elim (cases_eq key k) [
        | inl same ↦
            let here : pending ≤ live_at now k = subst (λ (n : ℕ). pending ≤ live_at now n) same there in
            let all : count_at key pending k ≡ pending =
            subst (λ (n : ℕ). count_at key pending n ≡ pending) same (at_same key pending) in
            omega (arith, lost.live k, is.live k, all, here, none next k)
        | inr other ↦ omega (arith, lost.live k, is.live k, at_other key pending k other, none next k)
      ];
  bytes = λ k. stays_twice old now after k (is.bytes k) (lost.bytes k) (omega (arith, lost.live k));
}
  where
    none : (next k : ℕ) → count_at next 0 k ≡ 0
    none next k = elim (eqb next k) as (λ (b : Bool). ◌≡◌ {A = ℕ} (cond b 0 0) 0) [ true ↦ refl | false ↦ refl ]

-- The message of one more slot is pending.
pub pending_more : (old now : Segments) (ring : List (Option Place)) (i : ℕ) (place : Place) (pending : ℕ) →
    place_at ring i ≡ Some place → IsReleasing old now (take i ring) place.segment pending →
    IsReleasing old now (take (i + 1) ring) place.segment (pending + 1)
pending_more old now ring i place pending at is = record {
  live = λ k.
      let more = ap (λ (n : ℕ). count_in k (take n ring)) (add-one i) ∙ count_take_some ring i place k at in
      omega (arith, is.live k, more, one_more place.segment pending k);
  bytes = is.bytes;
}
  where
    one_more : (key count k : ℕ) → count_at key (count + 1) k ≡ count_at key count k + one_at key k
    one_more key count k =
        elim (eqb key k) as (λ (b : Bool). ◌≡◌ {A = ℕ} (cond b (count + 1) 0) (cond b count 0 + cond b 1 0)) [
          | true ↦ refl
          | false ↦ refl
        ]

pub pending_same : (old now : Segments) (ring : List (Option Place)) (i key pending : ℕ) → place_at ring i ≡ None →
    IsReleasing old now (take i ring) key pending → IsReleasing old now (take (i + 1) ring) key pending
pending_same old now ring i key pending at is = record {
  live = λ k.
      ap (λ (n : ℕ). live_at now k + n) (ap (λ (n : ℕ). count_in k (take n ring)) (add-one i)
      ∙ count_take_none ring i k at) ∙ is.live k;
  bytes = is.bytes;
}

pub held_more : (segments : Segments) (ring : List (Option Place)) (i : ℕ) (place : Place) →
    place_at ring i ≡ Some place →
    count_held (slots_in segments (take (i + 1) ring)) ≡ count_held (slots_in segments (take i ring)) + 1
held_more segments ring i place at =
    ap (λ (n : ℕ). count_held (slots_in segments (take n ring))) (add-one i) ∙ held_take_some segments ring i place at

pub held_same : (segments : Segments) (ring : List (Option Place)) (i : ℕ) → place_at ring i ≡ None →
    count_held (slots_in segments (take (i + 1) ring)) ≡ count_held (slots_in segments (take i ring))
held_same segments ring i at =
    ap (λ (n : ℕ). count_held (slots_in segments (take n ring))) (add-one i) ∙ held_take_none segments ring i at
