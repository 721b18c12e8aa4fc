-- The first bit of words that is not set, and the first flag of a ring that is set or not.
use Rattle.std.proofs.Common.{◌≡◌, ℕ, ◌+◌, ◌-◌, ◌*◌, ◌/◌, ◌%◌, ◌^◌, ◌<◌, ◌≤◌, min, cond, eqb, not, Bool, true, false}
use Rattle.std.proofs.Common.{List, get_or, w64, refl, sym, ap, ◌∙◌, inl, inr, arith}
use Rattle.std.specs.Int.{bit_at, bit_not, trailing_zeros}
use Rattle.std.specs.Int.Count.{trailing_of_zero}
use Rattle.std.proofs.lemmas.Bool.{cases_eq, cases_lt, eq-eqb, ne_eqb}
use Rattle.std.proofs.lemmas.Nat.{shr-shr, shr_le}
use Rattle.std.proofs.lemmas.Nat.Bits.{bit_at-zero, bit_at-trailing_zeros, bit_at_above, bit_at_not}
use Rattle.mold_receiver.specs.Occupied.{AreClear, IsFirstBit, IsFirstFlag, IsNextSet, bit_of, flag_at, flags_in}
use Rattle.mold_receiver.specs.Ring.{index_of}
use Rattle.mold_receiver.proofs.OccupiedLemmas.{bit_small}
use Rattle.mold_receiver.proofs.OccupiedRingLemmas.{flag_in, flags_long}
use Rattle.mold_receiver.proofs.RingLemmas.{index_along, index_over}

-- The bits of a word from bit `from` on, inverted. `word` is the word that has bit `from`.
module _ (words : List ℕ) (from word rest : ℕ) (at : get_or words (from / 64) 0 ≡ word) (fits : word < 2 ^ 64)
    (shifted : rest ≡ bit_not w64 word / 2 ^ (from % 64)) where
  flipped : (t : ℕ) → from % 64 + t < 64 → bit_at rest t ≡ 1 - bit_of words (from + t)
  unfolding bit_of
  flipped t within =
      let word_same : (from + t) / 64 ≡ from / 64 = omega arith in
      let index : (from + t) % 64 ≡ from % 64 + t = omega arith in
      rw (word_same, index, at, shifted)
      (ap (λ x. x % 2) (shr-shr (bit_not w64 word) (from % 64) t) ∙ bit_at_not w64 word (from % 64 + t) fits within)

  -- The lowest bit of the inverted word is the first one that is not set.
  module _ (some : 0 < rest) where
    lowest_within : from % 64 + trailing_zeros w64 rest < 64
    lowest_within =
        let t : ℕ = trailing_zeros w64 rest in
        let lowest = bit_at-trailing_zeros w64 rest some (omega (arith, shifted, shr_le (bit_not w64 word) (from % 64))) in
        let same : bit_at rest t ≡ bit_at (bit_not w64 word) (from % 64 + t) =
        ap (λ x. bit_at x t) shifted ∙ ap (λ x. x % 2) (shr-shr (bit_not w64 word) (from % 64) t) in
        elim (cases_lt (from % 64 + t) 64) [
          | inl within ↦ within
          | inr past ↦
              absurd (omega (arith, lowest.1, same, bit_at_above (bit_not w64 word) 64 (from % 64 + t) (omega arith) past))
        ]

    pub first_clear_in : (to : ℕ) → from ≤ to → IsFirstBit words from to 0 (min to (from + trailing_zeros w64 rest))
    first_clear_in to order =
        let t : ℕ = trailing_zeros w64 rest in
        let lowest = bit_at-trailing_zeros w64 rest some (omega (arith, shifted, shr_le (bit_not w64 word) (from % 64))) in
        record {
          after = omega (arith, order);
          within = omega arith;
          others = λ i low high.
              let k : ℕ = i - from in
              let here : from + k ≡ i = omega arith in
              let bit = flipped k (omega (arith, lowest_within, high)) in
              let set : bit_of words (from + k) ≡ 1 - 0 =
              omega (arith, bit, lowest.2 k (omega (arith, high)), bit_small words (from + k)) in
              ap (λ n. bit_of words n) (sym here) ∙ set;
          stops =
              elim (cases_lt (from + t) to) [
                | inr past ↦ inl (omega (arith, past))
                | inl below ↦
                    let is : min to (from + t) ≡ from + t = omega (arith, below) in
                    inr (ap (λ n. bit_of words n) is
                    ∙ omega (arith, flipped t lowest_within, lowest.1, bit_small words (from + t)))
              ];
        }

  pub none_clear : rest ≡ 0 → (i : ℕ) → from ≤ i → i < 64 * (from / 64 + 1) → bit_of words i ≡ 1
  none_clear none i low high =
      let t : ℕ = i - from in
      let here : from + t ≡ i = omega arith in
      let bit = flipped t (omega arith) in
      let zero : bit_at rest t ≡ 0 = ap (λ x. bit_at x t) none ∙ bit_at-zero t in
      let set : bit_of words (from + t) ≡ 1 = omega (arith, bit, zero, bit_small words (from + t)) in
      ap (λ n. bit_of words n) (sym here) ∙ set

  pub first_clear_of_word :
      IsFirstBit words from (64 * (from / 64 + 1)) 0 (min (64 * (from / 64 + 1)) (from + trailing_zeros w64 rest))
  first_clear_of_word =
      let to : ℕ = 64 * (from / 64 + 1) in
      elim (cases_eq rest 0) [
        | inr some ↦ first_clear_in (omega (arith, some)) to (omega arith)
        | inl none ↦
            let zeros : trailing_zeros w64 rest ≡ 64 = ap (λ n. trailing_zeros w64 n) none ∙ trailing_of_zero 64 in
            let end : min to (from + trailing_zeros w64 rest) ≡ to = omega (arith, zeros) in
            record {
              after = omega (arith, end);
              within = omega (arith, end);
              others = λ i low high. none_clear none i low (omega (arith, high, end));
              stops = inl end;
            }
      ]

-- After bits that are set: the first one of the next word that is not.
pub first_clear_behind : (words : List ℕ) (start from to end bit : ℕ) → start ≤ from →
    ((i : ℕ) → start ≤ i → i < from → bit_of words i ≡ 1) → IsFirstBit words from end 0 bit → bit < end →
    bit < to → IsFirstBit words start to 0 bit
first_clear_behind words start from to end bit low set first inside below = record {
  after = omega (arith, low, first.after);
  within = omega (arith, below);
  others = λ i least before.
      elim (cases_lt i from) [
        | inl early ↦ set i least early
        | inr later ↦ first.others i later before
      ];
  stops = elim first.stops [
    | inl none ↦ absurd (omega (arith, none, inside))
    | inr clear ↦ inr clear
  ];
}

-- The first set bit, if it is below `to`.
pub first_set : (words : List ℕ) (from to bit : ℕ) → from ≤ to → IsNextSet words from bit →
    IsFirstBit words from to 1 (min to bit)
first_set words from to bit order next = record {
  after = omega (arith, order, next.after);
  within = omega arith;
  others = λ i low high. next.clear i low (omega (arith, high));
  stops =
      elim (cases_lt bit to) [
        | inr past ↦ inl (omega (arith, past))
        | inl below ↦
            let is : min to bit ≡ bit = omega (arith, below) in
            inr (ap (λ n. bit_of words n) is ∙ next.set)
      ];
}

pub first_set_none : (words : List ℕ) (from to : ℕ) → from ≤ to → ((end : ℕ) → AreClear words from end) →
    IsFirstBit words from to 1 to
first_set_none words from to order clear = record {
  after = order;
  within = omega arith;
  others = λ i low high. clear to i low high;
  stops = inl refl;
}

flag_same : (set : Bool) (bit : ℕ) → bit ≡ cond set 1 0 → eqb bit 1 ≡ set
flag_same true bit is = eq-eqb bit 1 is
flag_same false bit is = ne_eqb bit 1 (omega (arith, is))

flag_other : (set : Bool) (bit : ℕ) → bit ≡ 1 - cond set 1 0 → eqb bit 1 ≡ not set
flag_other true bit is = ne_eqb bit 1 (omega (arith, is))
flag_other false bit is = eq-eqb bit 1 is

-- The first flag from slot `from` on. The bits of the slots from there on begin at bit `start`. They go on at bit 0
-- after bit `last`, if `end` is past the ring.
module _ (words : List ℕ) (head count from : ℕ) (set : Bool) (within : head < count) (few : from ≤ count)
    (start end last : ℕ) (at : start ≡ index_of head count from) (ends : end ≡ start + (count - from))
    (lasts : last ≡ min end count) (bit : ℕ) (first : IsFirstBit words start last (cond set 1 0) bit) where
  other_flag : (k place : ℕ) → k < count → index_of head count k ≡ place → bit_of words place ≡ 1 - cond set 1 0 →
      flag_at (flags_in words head count) k ≡ not set
  other_flag k place below is other =
      flag_in words head count k below
      ∙ flag_other set (bit_of words (index_of head count k)) (ap (λ n. bit_of words n) is ∙ other)

  same_flag : (k place : ℕ) → k < count → index_of head count k ≡ place → bit_of words place ≡ cond set 1 0 →
      flag_at (flags_in words head count) k ≡ set
  same_flag k place below is same =
      flag_in words head count k below
      ∙ flag_same set (bit_of words (index_of head count k)) (ap (λ n. bit_of words n) is ∙ same)

  straight : (k : ℕ) → from ≤ k → k < count → start + (k - from) < count →
      index_of head count k ≡ start + (k - from)
  straight k low high below =
      let n : ℕ = k - from in
      let here : from + n ≡ k = omega arith in
      rw (here, sym at) at (index_along head count from n within (omega arith) (omega (arith, at)))

  wrapped : (k : ℕ) → from ≤ k → k < count → count ≤ start + (k - from) →
      index_of head count k ≡ start + (k - from) - count
  wrapped k low high past =
      let n : ℕ = k - from in
      let here : from + n ≡ k = omega arith in
      rw (here, sym at) at (index_over head count from n within (omega arith) (omega (arith, at)))

  before_last : (k : ℕ) → from ≤ k → k < count → start + (k - from) < bit →
      flag_at (flags_in words head count) k ≡ not set
  before_last k low high below =
      let inside : start + (k - from) < count = omega (arith, below, first.within, lasts) in
      other_flag k (start + (k - from)) high (straight k low high inside)
      (first.others (start + (k - from)) (omega arith) below)

  pub flag_found : bit < last → IsFirstFlag (flags_in words head count) from set (from + (bit - start))
  flag_found below =
      let slot : ℕ = from + (bit - start) in
      let inside : slot < count = omega (arith, below, lasts, ends, first.after) in
      let back : start + (slot - from) ≡ bit = omega (arith, first.after) in
      record {
        after = omega arith;
        within = omega (arith, inside, flags_long words head count);
        others = λ k low high. before_last k low (omega (arith, high, inside)) (omega (arith, high, back));
        stops = inr (elim first.stops [
          | inl end ↦ absurd (omega (arith, end, below))
          | inr is ↦
              same_flag slot bit inside (straight slot (omega arith) inside (omega (arith, back, below, lasts)) ∙ back) is
        ]);
      }

  pub flag_behind : last ≤ bit → (rest : ℕ) → IsFirstBit words 0 (end - last) (cond set 1 0) rest →
      IsFirstFlag (flags_in words head count) from set (from + (last - start) + rest)
  flag_behind past rest second =
      let slot : ℕ = from + (last - start) + rest in
      let whole : bit ≡ last = omega (arith, past, first.within) in
      let most : slot ≤ count = omega (arith, second.within, lasts, ends, whole, first.after) in
      record {
        after = omega arith;
        within = omega (arith, most, flags_long words head count);
        others = λ k low high.
            let inside : k < count = omega (arith, high, most) in
            elim (cases_lt (start + (k - from)) last) [
              | inl before ↦ before_last k low inside (omega (arith, before, whole))
              | inr later ↦
                  let over : count ≤ start + (k - from) =
                  omega (arith, later, lasts, ends, high, second.within, whole, first.after) in
                  let full : last ≡ count = omega (arith, over, lasts, ends, inside) in
                  other_flag k (start + (k - from) - count) inside (wrapped k low inside over)
                  (second.others (start + (k - from) - count) (omega arith)
                  (omega (arith, high, full, over, whole, first.after)))
            ];
        stops =
            elim (cases_lt rest (end - last)) [
              | inr none ↦
                  inl (omega (arith, none, second.within, lasts, ends, whole, first.after, flags_long words head count))
              | inl more ↦
                  let inside : slot < count = omega (arith, more, lasts, ends, whole, first.after) in
                  let full : last ≡ count = omega (arith, more, lasts) in
                  let over : count ≤ start + (slot - from) = omega (arith, full, whole, first.after) in
                  let back : start + (slot - from) - count ≡ rest = omega (arith, full, whole, first.after) in
                  inr (elim second.stops [
                    | inl end ↦ absurd (omega (arith, end, more))
                    | inr is ↦ same_flag slot rest inside (wrapped slot (omega arith) inside over ∙ back) is
                  ])
            ];
      }
