-- The ring of flags that the bits of words represent.
use Rattle.std.proofs.Common.{◌≡◌, ℕ, zero, suc, ◌+◌, ◌-◌, ◌<◌, ◌≤◌, List, [], ◌∷◌, ◌++◌, length, drop, replicate, refl}
use Rattle.std.proofs.Common.{◌⊎◌, cond, take, set, subst, sym, ap, ◌∙◌, inl, inr, arith, Bool, true, false, eqb, min, true≢false, ◌↔◌}
use Rattle.std.specs.Prelude.{IsTrue}
use Rattle.std.proofs.lemmas.Bool.{cases_lt, eq-eqb, ne_eqb}
use Rattle.mold_receiver.specs.Occupied.{bit_of, AreWritten, AreClear, AreUnset, flags_in, flag_at}
use Rattle.mold_receiver.specs.Ring.{index_of}
use Rattle.mold_receiver.proofs.OccupiedLemmas.{bit_clear}
use Rattle.mold_receiver.proofs.RingLemmas.{index_along, index_first, index_over, index_wrapped}
use Rattle.mold_receiver.proofs.RingLemmas.{item_in, item_past}
use Rattle.mold_receiver.proofs.RingLemmas.{ring_filled, ring_long, ring_new, ring_set, ring_skipped}

-- The flags of a ring.
module _ (words : List ℕ) (head count : ℕ) where
  pub flags_long : length (flags_in words head count) ≡ count
  flags_long = ring_long false (λ i. eqb (bit_of words i) 1) head count

  pub flag_in : (slot : ℕ) → slot < count → flag_at (flags_in words head count) slot ≡ eqb
      (bit_of words (index_of head count slot)) 1
  flag_in slot within = item_in false (λ i. eqb (bit_of words i) 1) head count slot within

  pub flag_past : (slot : ℕ) → count ≤ slot → flag_at (flags_in words head count) slot ≡ false
  flag_past slot past = item_past false (λ i. eqb (bit_of words i) 1) head count slot past

pub flags_count : (words : List ℕ) (head count : ℕ) (flags : List Bool) → flags_in words head count ≡ flags →
    count ≡ length flags
flags_count words head count flags are = sym (flags_long words head count) ∙ ap (λ (t : List Bool). length t) are

pub flags_new : (words : List ℕ) (count : ℕ) → ((i : ℕ) → bit_of words i ≡ 0) →
    flags_in words 0 count ≡ replicate count false
flags_new words count clear =
    ring_new false (λ i. eqb (bit_of words i) 1) count (λ i within. ne_eqb _ 1 (omega (arith, clear i)))

module _ (old new : List ℕ) (head count slot : ℕ) (within : head < count) (inside : slot < count) where
  pub flags_set :
      AreWritten old new (index_of head count slot) (index_of head count slot + 1) 1 →
      flags_in new head count ≡ set (flags_in old head count) slot true
  flags_set written =
      ring_set false (λ i. eqb (bit_of old i) 1) (λ i. eqb (bit_of new i) 1) head count slot true within inside
      (eq-eqb _ 1 (written.written (index_of head count slot) (omega arith) (omega arith)))
      (λ i other. ap (λ b. eqb b 1)
      (elim (cases_lt i (index_of head count slot)) [
        | inl below ↦ written.before i below
        | inr past ↦ written.after i (omega arith)
      ]))

flag_written : (set : Bool) (bit : ℕ) → bit ≡ cond set 1 0 → eqb bit 1 ≡ set
flag_written true bit is = eq-eqb bit 1 is
flag_written false bit is = ne_eqb bit 1 (omega (arith, is))

-- The flags of `n` slots are written: the bits from bit `start` on, and then those from bit 0 on.
module _ (old middle new : List ℕ) (head count slot n : ℕ) (set : Bool) (within : head < count)
    (inside : slot + n ≤ count) (start end : ℕ) (at : start ≡ index_of head count slot) (ends : end ≡ start + n)
    (first : AreWritten old middle start (min end count) (cond set 1 0))
    (second : AreWritten middle new 0 (end - count) (cond set 1 0)) where
  written_bit : (k : ℕ) → slot ≤ k → k < slot + n → bit_of new (index_of head count k) ≡ cond set 1 0
  written_bit k least most =
      let i : ℕ = k - slot in
      let here : slot + i ≡ k = omega arith in
      elim (cases_lt (start + i) count) [
        | inl below ↦
            let is : index_of head count k ≡ start + i =
            rw (here, sym at) at (index_along head count slot i within (omega arith) (omega (arith, at))) in
            rw is (elim (cases_lt (start + i) (end - count)) [
              | inl again ↦ second.written (start + i) (omega arith) again
              | inr kept ↦ second.after (start + i) kept
                  ∙ first.written (start + i) (omega arith) (omega (arith, ends, most))
            ])
        | inr past ↦
            let is : index_of head count k ≡ start + i - count =
            rw (here, sym at) at (index_over head count slot i within (omega arith) (omega (arith, at))) in
            rw is (second.written (start + i - count) (omega arith) (omega (arith, ends, most, past)))
      ]

  kept_before : (i : ℕ) → i < start → end - count ≤ i → bit_of new i ≡ bit_of old i
  kept_before i low high = second.after i high ∙ first.before i low

  kept_after : (i : ℕ) → min end count ≤ i → end - count ≤ i → bit_of new i ≡ bit_of old i
  kept_after i low high = second.after i high ∙ first.after i low

  kept_bit : (k : ℕ) → k < count → (k < slot) ⊎ (slot + n ≤ k) →
      bit_of new (index_of head count k) ≡ bit_of old (index_of head count k)
  kept_bit k below out =
      elim (cases_lt (head + slot) count) [
        | inl starts ↦
            let start_is : start ≡ head + slot = at ∙ index_first head count slot within starts in
            elim (cases_lt (head + k) count) [
              | inl low ↦
                  rw (index_first head count k within low)
                  (elim out [
                    | inl before ↦ kept_before (head + k) (omega arith) (omega arith)
                    | inr after ↦ kept_after (head + k) (omega arith) (omega arith)
                  ])
              | inr high ↦
                  rw (index_wrapped head count k within high)
                  (elim out [
                    | inl before ↦ absurd (omega arith)
                    | inr after ↦ kept_before (head + k - count) (omega arith) (omega arith)
                  ])
            ]
        | inr wraps ↦
            let start_is : start ≡ head + slot - count = at ∙ index_wrapped head count slot within wraps in
            elim (cases_lt (head + k) count) [
              | inl low ↦
                  rw (index_first head count k within low) (kept_after (head + k) (omega arith) (omega arith))
              | inr high ↦
                  rw (index_wrapped head count k within high)
                  (elim out [
                    | inl before ↦ kept_before (head + k - count) (omega arith) (omega arith)
                    | inr after ↦ kept_after (head + k - count) (omega arith) (omega arith)
                  ])
            ]
      ]

  pub flags_written :
      flags_in new head count ≡ take slot (flags_in old head count) ++ replicate n set ++ drop (slot + n)
      (flags_in old head count)
  flags_written =
      ring_filled false (λ i. eqb (bit_of old i) 1) (λ i. eqb (bit_of new i) 1) head count slot n set inside
      (λ k least most. flag_written set _ (written_bit k least most))
      (λ k below. ap (λ b. eqb b 1) (kept_bit k (omega arith) (inl below)))
      (λ k past below. ap (λ b. eqb b 1) (kept_bit k below (inr past)))

-- The head moves by `n` flags that are not set.
pub flags_skipped : (words : List ℕ) (head count n : ℕ) (before : List Bool) → head < count → n ≤ count →
    flags_in words head count ≡ replicate n false ++ drop n before →
    flags_in words (index_of head count n) count ≡ drop n before ++ replicate n false
flags_skipped words head count n before within few are =
    ring_skipped false (λ i. eqb (bit_of words i) 1) head count n within few before are

-- The flags of a range and its bits, which start at bit `start`.
module _ (words : List ℕ) (head count from to : ℕ) (within : head < count) where
  pub unset_none : min to count ≤ from → AreUnset (flags_in words head count) from to
  unset_none none i least below = flag_past words head count i (omega (arith, none))

  module _ (start end : ℕ) (at : start ≡ index_of head count from) (ends : end ≡ start + (min to count - from)) where
    flag_clear : (slot : ℕ) → from ≤ slot → slot < min to count → AreUnset (flags_in words head count) from to →
        bit_of words (index_of head count slot) ≡ 0
    flag_clear slot least below unset =
        bit_clear words (index_of head count slot)
        (sym (unset slot least (omega arith)) ∙ flag_in words head count slot (omega arith))

    unset_flag : (slot : ℕ) → slot < count → bit_of words (index_of head count slot) ≡ 0 →
        flag_at (flags_in words head count) slot ≡ false
    unset_flag slot below clear = flag_in words head count slot below ∙ ne_eqb _ 1 (omega arith)

    -- The bit of a slot before and after the end of the ring.
    along : (slot : ℕ) → from ≤ slot → slot < count → start + (slot - from) < count →
        index_of head count slot ≡ start + (slot - from)
    along slot least below before =
        let k : ℕ = slot - from in
        let here : from + k ≡ slot = omega arith in
        rw (here, sym at) at (index_along head count from k within (omega arith) (omega (arith, at)))

    over : (slot : ℕ) → from ≤ slot → slot < count → count ≤ start + (slot - from) →
        index_of head count slot ≡ start + (slot - from) - count
    over slot least below past =
        let k : ℕ = slot - from in
        let here : from + k ≡ slot = omega arith in
        rw (here, sym at) at (index_over head count from k within (omega arith) (omega (arith, at)))

    unset_clear : AreClear words start (min end count) → AreClear words 0 (end - count) →
        AreUnset (flags_in words head count) from to
    unset_clear first second i least below =
        elim (cases_lt i count) [
          | inr past ↦ flag_past words head count i past
          | inl inside ↦
              elim (cases_lt (start + (i - from)) count) [
                | inl before ↦
                    unset_flag i inside
                    (ap (λ p. bit_of words p) (along i least inside before)
                    ∙ first (start + (i - from)) (omega arith) (omega (arith, ends)))
                | inr past ↦
                    unset_flag i inside
                    (ap (λ p. bit_of words p) (over i least inside past)
                    ∙ second (start + (i - from) - count) (omega arith) (omega (arith, ends)))
              ]
        ]

    clear_first : AreUnset (flags_in words head count) from to → AreClear words start (min end count)
    clear_first unset bit least below =
        let slot : ℕ = from + (bit - start) in
        let here : start + (slot - from) ≡ bit = omega arith in
        ap (λ p. bit_of words p)
        (sym (along slot (omega arith) (omega (arith, ends)) (omega (arith, here)) ∙ here))
        ∙ flag_clear slot (omega arith) (omega (arith, ends)) unset

    clear_second : start < count → AreUnset (flags_in words head count) from to → AreClear words 0 (end - count)
    clear_second low unset bit least below =
        let slot : ℕ = from + (count + bit - start) in
        let here : start + (slot - from) - count ≡ bit = omega arith in
        ap (λ p. bit_of words p)
        (sym (over slot (omega arith) (omega (arith, ends)) (omega (arith, here)) ∙ here))
        ∙ flag_clear slot (omega arith) (omega (arith, ends)) unset

    -- A range whose bits follow one another.
    pub clear_straight : (clear : Bool) → end ≤ count → IsTrue clear ↔ AreClear words start end →
        IsTrue clear ↔ AreUnset (flags_in words head count) from to
    clear_straight clear straight tells =
        let last : min end count ≡ end = omega arith in (
          λ is. unset_clear (subst (λ n. AreClear words start n) (sym last) (tells.0 is))
              (λ bit least below. absurd (omega (arith, below, straight))),
          λ unset. tells.1 (subst (λ n. AreClear words start n) last (clear_first unset)),
        )

    -- A range whose bits go on at bit 0.
    module _ (clear : Bool) (wraps : count < end) where
      pub clear_wrapped :
          IsTrue clear ↔ AreClear words 0 (end - count) → AreClear words start count → start < count →
          IsTrue clear ↔ AreUnset (flags_in words head count) from to
      clear_wrapped tells first low =
          let last : min end count ≡ count = omega (arith, wraps) in (
            λ is. unset_clear (subst (λ n. AreClear words start n) (sym last) first) (tells.0 is),
            λ unset. tells.1 (clear_second low unset),
          )

      pub not_clear :
          IsTrue clear ↔ AreClear words start count → clear ≡ false →
          IsTrue clear ↔ AreUnset (flags_in words head count) from to
      not_clear tells not =
          let last : min end count ≡ count = omega (arith, wraps) in (
            λ is. absurd (true≢false (sym (subst IsTrue not is))),
            λ unset. tells.1 (subst (λ n. AreClear words start n) last (clear_first unset)),
          )

-- One flag is a range of one.
pub set_one : (flags : List Bool) (slot : ℕ) (to : Bool) → slot < length flags →
    set flags slot to ≡ take slot flags ++ replicate 1 to ++ drop (suc slot) flags
set_one [] slot to there = absurd (omega (arith, there))
set_one (f ∷ flags) zero to there = refl
set_one (f ∷ flags) (suc slot) to there =
    ap (λ (t : List Bool). f ∷ t) (set_one flags slot to (omega (arith, there)))
