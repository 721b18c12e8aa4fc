-- Bits of words, and the levels of words that find a set bit.
use Rattle.std.proofs.Common.{◌≡◌, ◌≢◌, ℕ, ◌+◌, ◌-◌, ◌*◌, ◌/◌, ◌%◌, ◌^◌, ◌<◌, ◌≤◌, List, length, get_or, replicate}
use Rattle.std.proofs.Common.{set, min, bit_and, bit_or, w64, refl, sym, ap, ◌∙◌, inl, inr, arith, Bool, true, false}
use Rattle.std.proofs.Common.{true≢false, not, eqb, eq-eqb, ne_eqb, length-set, get_or-set_same, get_or-set_other, None, Vec, Global, subst}
use Rattle.std.specs.Bool.{beq}
use Rattle.std.specs.Vec.{with_items}
use Rattle.std.proofs.lemmas.List.{with_items_is, get_or-replicate, get_or_past, length-replicate}
use Rattle.std.specs.Int.{bit_at, bit_not, trailing_zeros}
use Rattle.std.proofs.lemmas.Bool.{cases_eq, cases_lt, cases_order, eqb-true, eqb-false}
use Rattle.std.proofs.lemmas.Nat.{and_le_l, pow-add, shr-shr, shr_le}
use Rattle.std.proofs.lemmas.Nat.Bits.{bit_at-zero, bit_at-trailing_zeros, bit_at-lt, bit_at_above, bit_at_and, bit_at_not}
use Rattle.std.proofs.lemmas.Nat.Bits.{bit_at_or, bit_at_mask_above, bit_at_mask_below, bit_at_mask_inside, ones_shr}
use Rattle.std.proofs.Math.Nat.{mul_comm, mul-sub, one-le-pow}
use Rattle.std.proofs.Math.Pow.{pow_mono}
use Rattle.mold_receiver.specs.Occupied.{bit_of, AreWritten, IsWrite, AreClear, IsNextSet, IsNextInWord, IsSummary, AreLevels}
use Rattle.mold_receiver.specs.declared.occupied.Levels.{Levels}

pub bit_small : (words : List ℕ) (i : ℕ) → bit_of words i < 2
unfolding bit_of
bit_small words i = bit_at-lt (get_or words (i / 64) 0) (i % 64)

-- A word with no set bit.
pub bit_of_zero : (words : List ℕ) (i : ℕ) → get_or words (i / 64) 0 ≡ 0 → bit_of words i ≡ 0
unfolding bit_of
bit_of_zero words i none = ap (λ n. bit_at n (i % 64)) none ∙ bit_at-zero (i % 64)

pub bit_past : (words : List ℕ) (i : ℕ) → 64 * length words ≤ i → bit_of words i ≡ 0
bit_past words i past = bit_of_zero words i (get_or_past words (i / 64) 0 (omega arith))

zeros : (n k : ℕ) → ◌≡◌ {A = ℕ} (get_or (replicate n 0) k 0) 0
zeros n k = elim (cases_lt k n) [
  | inl within ↦ get_or-replicate n k 0 0 within
  | inr past ↦ get_or_past (replicate n 0) k 0 (omega (arith, length-replicate {A = ℕ} n 0))
]

pub bit_new : (n i : ℕ) → bit_of (replicate n 0) i ≡ 0
bit_new n i = bit_of_zero (replicate n 0) i (zeros n (i / 64))

pub summary_new : (n m : ℕ) → IsSummary (replicate n 0) (replicate m 0)
summary_new n m k = bit_new m k ∙ sym (ap (λ x. min 1 x) (zeros n k))

-- The word of a mask.
module _ (from to : ℕ) (some : from < to) (one : to ≤ 64 * (from / 64 + 1)) where
  pub mask_fits : 2 ^ (from % 64 + (to - from)) - 2 ^ (from % 64) < 2 ^ 64
  mask_fits =
      let last : from % 64 + (to - from) ≤ 64 = omega arith in
      omega (arith, pow_mono last, one-le-pow (from % 64) 2 (omega arith))

  pub mask_is :
      (2 ^ 64 - 1) / 2 ^ (64 - (to - from)) * 2 ^ (from % 64) % 2 ^ 64 ≡ 2 ^ (from % 64 + (to - from)) - 2 ^ (from % 64)
  mask_is =
      let n : ℕ = to - from in
      let low : ℕ = 2 ^ (from % 64) in
      let count : 64 - (64 - n) ≡ n = omega arith in
      let run : (2 ^ 64 - 1) / 2 ^ (64 - n) ≡ 2 ^ n - 1 = ones_shr 64 (64 - n) (omega arith) ∙ ap (λ k. 2 ^ k - 1) count in
      let moved : (2 ^ n - 1) * low ≡ 2 ^ (from % 64 + n) - low =
      mul_comm (2 ^ n - 1) low ∙ mul-sub low (2 ^ n) 1 ∙ omega (arith, pow-add 2 (from % 64) n) in
      rw run (omega (arith, moved, mask_fits))

-- Bits of one word are written.
module _ (words : List ℕ) (from to word : ℕ) (there : from / 64 < length words) where
  bit_here : (i : ℕ) → i / 64 ≡ from / 64 → bit_of (set words (from / 64) word) i ≡ bit_at word (i % 64)
  unfolding bit_of
  bit_here i same = rw (same, get_or-set_same words (from / 64) word 0 there)

  bit_there : (i : ℕ) → i / 64 ≡ from / 64 → bit_of words i ≡ bit_at (get_or words (from / 64) 0) (i % 64)
  unfolding bit_of
  bit_there i same = rw same

  bit_elsewhere : (i : ℕ) → i / 64 ≢ from / 64 → bit_of (set words (from / 64) word) i ≡ bit_of words i
  unfolding bit_of
  bit_elsewhere i apart = ap (λ n. bit_at n (i % 64)) (get_or-set_other words (from / 64) (i / 64) word 0 apart)

  same_bit :
      (i : ℕ) → (i / 64 ≡ from / 64 → bit_at word (i % 64) ≡ bit_at (get_or words (from / 64) 0) (i % 64)) →
      bit_of (set words (from / 64) word) i ≡ bit_of words i
  same_bit i kept =
      elim (cases_eq (i / 64) (from / 64)) [
        | inl same ↦ bit_here i same ∙ kept same ∙ sym (bit_there i same)
        | inr apart ↦ bit_elsewhere i apart
      ]

  are_written :
      (bit : ℕ) → from < to → to ≤ 64 * (from / 64 + 1) →
      ((b : ℕ) → from % 64 ≤ b → b < from % 64 + (to - from) → bit_at word b ≡ bit) →
      ((b : ℕ) → b < from % 64 → bit_at word b ≡ bit_at (get_or words (from / 64) 0) b) →
      ((b : ℕ) → from % 64 + (to - from) ≤ b → b < 64 → bit_at word b ≡ bit_at (get_or words (from / 64) 0) b) →
      AreWritten words (set words (from / 64) word) from to bit
  are_written bit some one inside below above = record {
    size = length-set words (from / 64) word;
    written = λ i least most. bit_here i (omega arith) ∙ inside (i % 64) (omega arith) (omega arith);
    before = λ i less. same_bit i (λ same. below (i % 64) (omega arith));
    after = λ i more. same_bit i (λ same. above (i % 64) (omega arith) (omega arith));
  }

-- Bits of one word are set or cleared by a mask.
module _ (words : List ℕ) (from to mask : ℕ) (there : from / 64 < length words) (some : from < to)
    (one : to ≤ 64 * (from / 64 + 1)) (is : mask ≡ 2 ^ (from % 64 + (to - from)) - 2 ^ (from % 64)) where
  mask_inside : (b : ℕ) → from % 64 ≤ b → b < from % 64 + (to - from) → bit_at mask b ≡ 1
  mask_inside b least most = rw is (bit_at_mask_inside (from % 64) (from % 64 + (to - from)) b least most)

  mask_below : (b : ℕ) → b < from % 64 → bit_at mask b ≡ 0
  mask_below b less = rw is (bit_at_mask_below (from % 64) (from % 64 + (to - from)) b less)

  mask_above : (b : ℕ) → from % 64 + (to - from) ≤ b → bit_at mask b ≡ 0
  mask_above b more = rw is (bit_at_mask_above (from % 64) (from % 64 + (to - from)) b more)

  set_one : (old b : ℕ) → bit_at mask b ≡ 1 → bit_at (bit_or old mask) b ≡ 1
  set_one old b on = bit_at_or old mask b ∙ omega (arith, on, bit_at-lt old b)

  set_none : (old b : ℕ) → bit_at mask b ≡ 0 → bit_at (bit_or old mask) b ≡ bit_at old b
  set_none old b off = bit_at_or old mask b ∙ omega (arith, off)

  fits : mask < 2 ^ 64
  fits = rw is (mask_fits from to some one)

  clear_one : (old b : ℕ) → b < 64 → bit_at mask b ≡ 1 → bit_at (bit_and old (bit_not w64 mask)) b ≡ 0
  clear_one old b within on =
      bit_at_and old (bit_not w64 mask) b
      ∙ omega (arith, on, bit_at_not w64 mask b fits within)

  clear_none : (old b : ℕ) → b < 64 → bit_at mask b ≡ 0 → bit_at (bit_and old (bit_not w64 mask)) b ≡ bit_at old b
  clear_none old b within off =
      bit_at_and old (bit_not w64 mask) b
      ∙ omega (arith, off, bit_at_not w64 mask b fits within, bit_at-lt old b)

  pub written_set : AreWritten words (set words (from / 64) (bit_or (get_or words (from / 64) 0) mask)) from to 1
  written_set =
      let old = get_or words (from / 64) 0 in
      are_written words from to (bit_or old mask) there 1 some one
      (λ b least most. set_one old b (mask_inside b least most))
      (λ b less. set_none old b (mask_below b less))
      (λ b more within. set_none old b (mask_above b more))

  pub written_clear :
      AreWritten words (set words (from / 64) (bit_and (get_or words (from / 64) 0) (bit_not w64 mask))) from to 0
  written_clear =
      let old = get_or words (from / 64) 0 in
      are_written words from to (bit_and old (bit_not w64 mask)) there 0 some one
      (λ b least most. clear_one old b (omega arith) (mask_inside b least most))
      (λ b less. clear_none old b (omega arith) (mask_below b less))
      (λ b more within. clear_none old b within (mask_above b more))

-- Whether a word changed from 0 to another value, or from another value to 0.
abbrev turned : ℕ → ℕ → Bool
turned old new = not (beq (eqb old 0) (eqb new 0))

alike : (a b : Bool) → not (beq a b) ≡ false → a ≡ b
alike true true is = refl
alike true false is = absurd (true≢false is)
alike false true is = absurd (true≢false is)
alike false false is = refl

unlike : (a b : Bool) → not (beq a b) ≡ true → a ≢ b
unlike true true is same = true≢false (sym is)
unlike true false is same = true≢false same
unlike false true is same = true≢false (sym same)
unlike false false is same = true≢false (sym is)

stayed : (old new : ℕ) → turned old new ≡ false → min 1 new ≡ min 1 old
stayed old new is =
    let same : eqb old 0 ≡ eqb new 0 = alike (eqb old 0) (eqb new 0) is in
    elim (cases_eq old 0) [
      | inl none ↦ omega (arith, none, eqb-true new 0 (sym same ∙ eq-eqb old 0 none))
      | inr some ↦ omega (arith, some, eqb-false new 0 (sym same ∙ ne_eqb old 0 some))
    ]

emptied : (old new : ℕ) → new ≤ old → turned old new ≡ true → new ≡ 0
emptied old new less is =
    elim (cases_eq new 0) [
      | inl none ↦ none
      | inr some ↦ absurd (unlike (eqb old 0) (eqb new 0) is (ne_eqb old 0 (omega arith) ∙ sym (ne_eqb new 0 some)))
    ]

-- A word that has a set bit isn't 0.
word_some : (words : List ℕ) (i : ℕ) → bit_of words i ≡ 1 → 0 < get_or words (i / 64) 0
word_some words i is = elim (cases_eq (get_or words (i / 64) 0) 0) [
  | inl none ↦ absurd (omega (arith, bit_of_zero words i none))
  | inr some ↦ omega arith
]

module _ (words : List ℕ) (from to mask new : ℕ) (there : from / 64 < length words) (some : from < to)
    (one : to ≤ 64 * (from / 64 + 1)) (is : mask ≡ 2 ^ (from % 64 + (to - from)) - 2 ^ (from % 64)) where
  pub write_set :
      new ≡ bit_or (get_or words (from / 64) 0) mask →
      IsWrite words (set words (from / 64) new) from to 1 (turned (get_or words (from / 64) 0) new)
  write_set word =
      let bits : AreWritten words (set words (from / 64) new) from to 1 = rw word (written_set words from to mask there
      some one is) in
      record {
        bits = bits;
        others = λ k apart. get_or-set_other words (from / 64) k new 0 apart;
        turns = λ up. omega (
          arith,
          word_some (set words (from / 64) new) from (bits.written from (omega arith) some),
        );
        stays = λ same. rw (get_or-set_same words (from / 64) new 0 there)
            (stayed (get_or words (from / 64) 0) new same);
      }

  pub write_clear :
      new ≡ bit_and (get_or words (from / 64) 0) (bit_not w64 mask) →
      IsWrite words (set words (from / 64) new) from to 0 (turned (get_or words (from / 64) 0) new)
  write_clear word =
      let bits : AreWritten words (set words (from / 64) new) from to 0 = rw word (written_clear words from to mask there
      some one is) in
      let less : new ≤ get_or words (from / 64) 0 = omega (arith, word, and_le_l (get_or words (from / 64) 0) (bit_not w64 mask)) in
      record {
        bits = bits;
        others = λ k apart. get_or-set_other words (from / 64) k new 0 apart;
        turns = λ down. rw (get_or-set_same words (from / 64) new 0 there)
            (omega (arith, emptied (get_or words (from / 64) 0) new less down));
        stays = λ same. rw (get_or-set_same words (from / 64) new 0 there)
            (stayed (get_or words (from / 64) 0) new same);
      }

-- The first set bit of a word, shifted right by the index of bit `from`.
module _ (words : List ℕ) (from word rest : ℕ) (at : get_or words (from / 64) 0 ≡ word)
    (shifted : rest ≡ word / 2 ^ (from % 64)) where
  bit_in_rest : (t : ℕ) → from % 64 + t < 64 → bit_of words (from + t) ≡ bit_at rest t
  unfolding bit_of
  bit_in_rest t within =
      let word_same : (from + t) / 64 ≡ from / 64 = omega arith in
      let index : (from + t) % 64 ≡ from % 64 + t = omega arith in
      rw (word_same, index, at, shifted) (sym (ap (λ x. x % 2) (shr-shr word (from % 64) t)))

  pub none_in_word : rest ≡ 0 → IsNextInWord words from None
  none_in_word none i low high =
      let t : ℕ = i - from in
      let here : from + t ≡ i = omega arith in
      let bit = bit_in_rest t (omega arith) in
      rw here at (bit ∙ ap (λ x. bit_at x t) none ∙ bit_at-zero t)

  module _ (some : 0 < rest) (fits : word < 2 ^ 64) where
    index_within : from % 64 + trailing_zeros w64 rest < 64
    index_within =
        let small : rest < 2 ^ 64 = rw shifted (omega (arith, shr_le word (from % 64))) in
        let lowest = bit_at-trailing_zeros w64 rest some small in
        let t : ℕ = trailing_zeros w64 rest in
        let same : bit_at rest t ≡ bit_at word (from % 64 + t) =
        ap (λ x. bit_at x t) shifted ∙ ap (λ x. x % 2) (shr-shr word (from % 64) t) in
        elim (cases_lt (from % 64 + t) 64) [
          | inl within ↦ within
          | inr past ↦ absurd (omega (arith, lowest.1, same, bit_at_above word 64 (from % 64 + t) fits past))
        ]

    pub index_fits : from < 2 ^ 64 → from + trailing_zeros w64 rest < 2 ^ 64
    index_fits range = omega (arith, index_within)

    pub next_of_word : IsNextSet words from (from + trailing_zeros w64 rest)
    next_of_word =
        let small : rest < 2 ^ 64 = rw shifted (omega (arith, shr_le word (from % 64))) in
        let lowest = bit_at-trailing_zeros w64 rest some small in
        record {
          after = omega arith;
          set = bit_in_rest (trailing_zeros w64 rest) index_within ∙ lowest.1;
          clear = λ i low high.
              let t : ℕ = i - from in
              let here : from + t ≡ i = omega arith in
              let bit = bit_in_rest t (omega (arith, index_within)) in
              rw here at (bit ∙ lowest.2 t (omega arith));
        }

-- The first set bit of word `k`.
module _ (words : List ℕ) (k word : ℕ) (at : get_or words k 0 ≡ word) (some : 0 < word) (fits : word < 2 ^ 64) where
  bit_in_word : (t : ℕ) → t < 64 → bit_of words (64 * k + t) ≡ bit_at word t
  unfolding bit_of
  bit_in_word t within =
      let word_same : (64 * k + t) / 64 ≡ k = omega arith in
      let index : (64 * k + t) % 64 ≡ t = omega arith in
      rw (word_same, index, at)

  pub first_of_word : IsNextSet words (64 * k) (64 * k + trailing_zeros w64 word)
  first_of_word =
      let lowest = bit_at-trailing_zeros w64 word some fits in
      record {
        after = omega arith;
        set = bit_in_word (trailing_zeros w64 word) lowest.0 ∙ lowest.1;
        clear = λ i low high.
            let t : ℕ = i - 64 * k in
            let here : 64 * k + t ≡ i = omega arith in
            let bit = bit_in_word t (omega (arith, lowest.0)) in
            rw here at (bit ∙ lowest.2 t (omega arith));
      }

-- A step down from the level above.
module _ (low high : List ℕ) (from : ℕ) (is : IsSummary low high) (none : IsNextInWord low from None) where
  clear_word : (i : ℕ) → bit_of high (i / 64) ≡ 0 → bit_of low i ≡ 0
  clear_word i clear = bit_of_zero low i (omega (arith, is (i / 64)))

  pub next_some : (k bit : ℕ) → IsNextSet high (from / 64 + 1) k → IsNextSet low (64 * k) bit → IsNextSet low from bit
  next_some k bit above here = record {
    after = omega (arith, above.after, here.after);
    set = here.set;
    clear = λ i least below.
        elim (cases_lt i (64 * (from / 64 + 1))) [
          | inl within ↦ none i least within
          | inr later ↦
              elim (cases_lt i (64 * k)) [
                | inl between ↦ clear_word i (above.clear (i / 64) (omega arith) (omega arith))
                | inr last ↦ here.clear i last below
              ]
        ];
  }

  pub next_none : ((to : ℕ) → AreClear high (from / 64 + 1) to) → (to : ℕ) → AreClear low from to
  next_none above to i least below =
      elim (cases_lt i (64 * (from / 64 + 1))) [
        | inl within ↦ none i least within
        | inr later ↦ clear_word i (above (i / 64 + 1) (i / 64) (omega arith) (omega arith))
      ]

-- A level of one word.
pub none_on_top : (top : List ℕ) (from : ℕ) → length top ≡ 1 → IsNextInWord top from None → (to : ℕ) →
    AreClear top from to
none_on_top top from one none to i least below =
    elim (cases_lt i (64 * (from / 64 + 1))) [
      | inl within ↦ none i least within
      | inr later ↦ bit_past top i (omega arith)
    ]

-- A level is new words of its vector, after they were borrowed and changed.
pub write_in : (v : Vec ℕ Global) {old new : List ℕ} {from to bit : ℕ} {turned : Bool} → old ≡ v.items →
    length old ≡ v.len → IsWrite old new from to bit turned →
    IsWrite v.items (with_items v new).items from to bit turned
write_in v {old} {new} {from} {to} {bit} {turned} same long write =
    let now : (with_items v new).items ≡ new = with_items_is v new (write.bits.size ∙ long) in
    subst (λ (t : List ℕ). IsWrite v.items t from to bit turned) (sym now)
    (subst (λ (t : List ℕ). IsWrite t new from to bit turned) same write)

-- The summary of a level that was written.
module _ (low next high : List ℕ) (from to bit : ℕ) (turned : Bool) (is : IsSummary low high)
    (write : IsWrite low next from to bit turned) where
  summary_written :
      (above : List ℕ) → turned ≡ true → AreWritten high above (from / 64) (from / 64 + 1) bit → IsSummary next above
  summary_written above up raised k =
      elim (cases_order k (from / 64)) [
        | inl same ↦ rw same (raised.written (from / 64) (omega arith) (omega arith) ∙ sym (write.turns up))
        | inr (inl below) ↦
            raised.before k below ∙ is k ∙ sym (ap (λ x. min 1 x) (write.others k (omega arith)))
        | inr (inr above) ↦
            raised.after k (omega arith) ∙ is k ∙ sym (ap (λ x. min 1 x) (write.others k (omega arith)))
      ]

  summary_kept : turned ≡ false → IsSummary next high
  summary_kept same k =
      elim (cases_eq k (from / 64)) [
        | inl here ↦ rw here (is (from / 64) ∙ sym (write.stays same))
        | inr apart ↦ is k ∙ sym (ap (λ x. min 1 x) (write.others k apart))
      ]

-- The levels after a change that keeps their lengths.
module _ (old new : Levels) (are : AreLevels old) where
  pub levels_kept :
      length new.bits.items ≡ length old.bits.items → length new.words.items ≡ length old.words.items →
      length new.groups.items ≡ length old.groups.items → length new.top ≡ length old.top →
      IsSummary new.bits.items new.words.items → IsSummary new.words.items new.groups.items →
      IsSummary new.groups.items new.top → AreLevels new
  levels_kept bits words groups top low middle high = record {
    words = low;
    groups = middle;
    top = high;
    words_fit = omega (arith, are.words_fit);
    groups_fit = omega (arith, are.groups_fit);
    top_fits = omega (arith, are.top_fits);
    one = top ∙ are.one;
  }

-- The levels after bits of one word are written, if this word stays 0 or stays another value; if its word in the second
-- or in the third level does; and otherwise.
module _ (old new : Levels) (from to bit : ℕ) (are : AreLevels old) where
  pub levels_written_1 : (first : Bool) → IsWrite old.bits.items new.bits.items from to bit first → first ≡ false →
      new.words ≡ old.words → new.groups ≡ old.groups → new.top ≡ old.top → AreLevels new
  levels_written_1 first bits stays words groups top =
      levels_kept old new are bits.bits.size (ap (λ (v : Vec ℕ Global). length v.items) words)
      (ap (λ (v : Vec ℕ Global). length v.items) groups) (ap (λ (t : List ℕ). length t) top)
      (rw words (summary_kept old.bits.items new.bits.items old.words.items from to bit first are.words bits stays))
      (rw (words, groups) are.groups)
      (rw (groups, top) are.top)

  module _ (first second : Bool) (bits : IsWrite old.bits.items new.bits.items from to bit first) (turns : first ≡ true)
      (words : IsWrite old.words.items new.words.items (from / 64) (from / 64 + 1) bit second) where
    low_written : IsSummary new.bits.items new.words.items
    low_written =
        summary_written old.bits.items new.bits.items old.words.items from to bit first are.words bits new.words.items
        turns words.bits

    pub levels_written_2 : second ≡ false → new.groups ≡ old.groups → new.top ≡ old.top → AreLevels new
    levels_written_2 stays groups top =
        levels_kept old new are bits.bits.size words.bits.size
        (ap (λ (v : Vec ℕ Global). length v.items) groups) (ap (λ (t : List ℕ). length t) top)
        low_written
        (rw groups (summary_kept old.words.items new.words.items old.groups.items (from / 64) (from / 64 + 1) bit second
        are.groups words stays))
        (rw (groups, top) are.top)

    module _ (third : Bool) (also : second ≡ true)
        (groups : IsWrite old.groups.items new.groups.items (from / 64 / 64) (from / 64 / 64 + 1) bit third) where
      middle_written : IsSummary new.words.items new.groups.items
      middle_written =
          summary_written old.words.items new.words.items old.groups.items (from / 64) (from / 64 + 1) bit second
          are.groups words new.groups.items also groups.bits

      pub levels_written_3 : third ≡ false → new.top ≡ old.top → AreLevels new
      levels_written_3 stays top =
          levels_kept old new are bits.bits.size words.bits.size groups.bits.size
          (ap (λ (t : List ℕ). length t) top) low_written middle_written
          (rw top (summary_kept old.groups.items new.groups.items old.top (from / 64 / 64) (from / 64 / 64 + 1) bit third
          are.top groups stays))

      pub levels_written_4 : third ≡ true →
          AreWritten old.top new.top (from / 64 / 64 / 64) (from / 64 / 64 / 64 + 1) bit → AreLevels new
      levels_written_4 last top =
          levels_kept old new are bits.bits.size words.bits.size groups.bits.size top.size low_written middle_written
          (summary_written old.groups.items new.groups.items old.top (from / 64 / 64) (from / 64 / 64 + 1) bit third
          are.top groups new.top last top)

-- New levels, of `n`, `m` and `l` words.
summary_zeros : (low high : List ℕ) (n m : ℕ) → low ≡ replicate n 0 → high ≡ replicate m 0 → IsSummary low high
summary_zeros low high n m lows highs k =
    ap (λ (t : List ℕ). bit_of t k) highs ∙ summary_new n m k ∙ sym (ap (λ (t : List ℕ). min 1 (get_or t k 0)) lows)

zeros_long : (words : List ℕ) (n : ℕ) → words ≡ replicate n 0 → length words ≡ n
zeros_long words n are = ap (λ (t : List ℕ). length t) are ∙ length-replicate {A = ℕ} n 0

pub levels_new : (levels : Levels) (n m l : ℕ) → levels.bits.items ≡ replicate n 0 →
    levels.words.items ≡ replicate m 0 →
    levels.groups.items ≡ replicate l 0 → levels.top ≡ replicate 1 0 → n ≤ 64 * m → m ≤ 64 * l → l ≤ 64 →
    AreLevels levels
levels_new levels n m l bits words groups top first second third =
    let bits_long = zeros_long levels.bits.items n bits in
    let words_long = zeros_long levels.words.items m words in
    let groups_long = zeros_long levels.groups.items l groups in record {
      words = summary_zeros levels.bits.items levels.words.items n m bits words;
      groups = summary_zeros levels.words.items levels.groups.items m l words groups;
      top = summary_zeros levels.groups.items levels.top l 1 groups top;
      words_fit = omega arith;
      groups_fit = omega arith;
      top_fits = omega arith;
      one = zeros_long levels.top 1 top;
    }

pub bits_new : (words : List ℕ) (n : ℕ) → words ≡ replicate n 0 → (i : ℕ) → bit_of words i ≡ 0
bits_new words n are i = ap (λ (t : List ℕ). bit_of t i) are ∙ bit_new n i

-- A bit that was tested and isn't set.
pub bit_clear : (words : List ℕ) (i : ℕ) → false ≡ eqb (bit_of words i) 1 → bit_of words i ≡ 0
bit_clear words i told =
    let other = eqb-false (bit_of words i) 1 (sym told) in
    let small = bit_small words i in omega arith

-- The word of a bit from the end of the words on.
pub past_in_word : (words : List ℕ) (from : ℕ) → length words ≤ from / 64 → IsNextInWord words from None
past_in_word words from past i least below = bit_past words i (omega arith)

-- Word `k` is there if it has a set bit.
pub word_within : (words : List ℕ) (k : ℕ) → 0 < get_or words k 0 → k < length words
word_within words k some =
    elim (cases_lt k (length words)) [
      | inl within ↦ within
      | inr past ↦
          absurd (omega (arith, get_or_past words k 0 past))
    ]
