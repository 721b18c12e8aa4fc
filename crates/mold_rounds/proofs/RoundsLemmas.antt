-- How one round lowers the number of rounds that are needed.
use Rattle.std.proofs.Common.{◌≡◌, ◌⊎◌, ℕ, suc, ◌+◌, ◌-◌, ◌<◌, ◌≤◌, Bool, true, false, List, [], ◌∷◌, length}
use Rattle.std.proofs.Common.{length-take, take, drop, refl, sym, ap, ◌∙◌, inl, inr, arith, sum_by}
use Rattle.std.proofs.lemmas.Bool.{true≢false, cases_lt}
use Rattle.std.proofs.lemmas.List.{drop-drop, drop-take}
use Rattle.std.proofs.lemmas.List.Sums.{sum_by-cons}
use Rattle.std.specs.Prelude.{Option, None, Some, is_none, is_some}
use Rattle.std.specs.FinMap as finite
use Rattle.mold_rule.specs.Ranges.{Range, range, ranges}
use Rattle.mold_receiver.specs.Gap.{Took}
use Rattle.mold_receiver.specs.Store.{Message}
use Rattle.mold_receiver.specs.View.{View}
use Rattle.mold_receiver.specs.Wanted.{IsGap, gaps, lacks}
use Rattle.mold_rounds.proofs.AsksLemmas.{PacksFronts, asks_empty, asks_more}
use Rattle.mold_rounds.specs.Rounds.{asks, brought, messages_in, rounds}
use Rattle.mold_session.specs.Answer.{between}
use Rattle.mold_wire.specs.Packing.{front}

-- The law of finding ranges.
pub record WalksRanges : Type 0 where
  pub skip : (lacks : ℕ → Bool) (low count more : ℕ) →
      ((number : ℕ) → low ≤ number → number < low + count → lacks number ≡ false) →
      ranges lacks low (count + more) ≡ ranges lacks (low + count) more
  pub run : (lacks : ℕ → Bool) (low count more : ℕ) →
      ((number : ℕ) → low ≤ number → number < low + suc count → lacks number ≡ true) →
      (more ≡ 0) ⊎ (lacks (low + suc count) ≡ false) →
      ranges lacks low (suc count + more) ≡ range low (low + count) ∷ ranges lacks (low + suc count) more
  pub same : (lacks other : ℕ → Bool) (low count : ℕ) →
      ((number : ℕ) → low ≤ number → number < low + count → lacks number ≡ other number) →
      ranges lacks low count ≡ ranges other low count

stored_there : (o : Option Message) → is_some o ≡ true → is_none o ≡ false
stored_there None some = absurd (true≢false (sym some))
stored_there (Some m) some = refl

nothing_there : (o : Option Message) → is_some o ≡ true → o ≡ None → ⊥
nothing_there o some none = true≢false (sym some ∙ ap is_some none)

-- The gap at `next` is the first of the gaps.
first_gap : WalksRanges → (v : View) (end : ℕ) → IsGap v end →
    gaps v ≡ range v.next (end - 1) ∷ ranges (lacks v.store) end (v.known - end)
first_gap walks v end gap =
    let count : ℕ = end - 1 - v.next in
    let whole : v.known - v.next ≡ suc count + (v.known - end) = omega (arith, gap.after, gap.within) in
    let last : v.next + count ≡ end - 1 = omega (arith, gap.after) in
    let behind : v.next + suc count ≡ end = omega (arith, gap.after) in
    let stops : (v.known - end ≡ 0) ⊎ (lacks v.store (v.next + suc count) ≡ false) =
    elim gap.stops [
      | inl at ↦ inl (omega (arith, at))
      | inr some ↦ inr (ap (lacks v.store) behind ∙ stored_there (finite.get v.store end) some)
    ]
    in
    ap (ranges (lacks v.store) v.next) whole
    ∙ walks.run (lacks v.store) v.next count (v.known - end)
    (λ number from below. ap is_none (gap.lacked number (omega (arith, below, behind)))) stops
    ∙ (λ i. range v.next (last i) ∷ ranges (lacks v.store) (behind i) (v.known - end))

-- The rounds that some ranges need.
abbrev pub rounds_of : List Message → ℕ → ℕ → List Range → ℕ
rounds_of published limit burst rs = sum_by (λ gap. asks limit burst (messages_in published gap)) rs

rounds_first : WalksRanges → (v : View) (end : ℕ) (published : List Message) (limit burst : ℕ) → IsGap v end →
    rounds v published limit burst ≡ asks limit burst (between published v.next end)
    + rounds_of published limit burst (ranges (lacks v.store) end (v.known - end))
rounds_first walks v end published limit burst gap =
    let last : suc (end - 1) ≡ end = omega (arith, gap.after) in
    ap (rounds_of published limit burst) (first_gap walks v end gap)
    ∙ sum_by-cons (λ (r : Range). asks limit burst (messages_in published r)) (range v.next (end - 1))
    (ranges (lacks v.store) end (v.known - end))
    ∙ ap (λ (n : ℕ). asks limit burst (between published v.next n)
    + rounds_of published limit burst (ranges (lacks v.store) end (v.known - end))) last

-- Messages that don't fill the gap leave the rest of it.
pub record LeavesGap (v : View) (end count : ℕ) (w : View) : Type 0 where
  pub next : w.next ≡ v.next + count
  pub gap : IsGap w end

pub leaves_gap : (v : View) (end count : ℕ) (w : View) → IsGap v end → Took v count w → v.next + count < end →
    LeavesGap v end count w
leaves_gap v end count w gap took few =
    let next : w.next ≡ v.next + count =
    elim (cases_lt (v.next + count) w.next) [
      | inl more ↦
          absurd (nothing_there (finite.get v.store (v.next + count)) (took.had (v.next + count) (omega arith) more)
          (gap.lacked (v.next + count) few))
      | inr none ↦ omega (arith, none, took.low)
    ]
    in
    let same : (number : ℕ) → w.next ≤ number → finite.get w.store number ≡ finite.get v.store number = took.same in
    record {
      next = next;
      gap = record {
        after = omega (arith, next, few);
        within = omega (arith, gap.within, took.known);
        lacked = λ number below.
            elim (cases_lt w.next number) [
              | inl above ↦ same number (omega (arith, above)) ∙ gap.lacked number below
              | inr under ↦ took.none number under
            ];
        stops =
            elim gap.stops [
              | inl at ↦ inl (omega (arith, at, took.known))
              | inr some ↦ inr (ap is_some (same end (omega (arith, next, few))) ∙ some)
            ];
      };
    }

-- A gap that was filled is gone, and so are the stored messages after it.
filled_gap : WalksRanges → (v : View) (end count : ℕ) (w : View) → IsGap v end → Took v count w → v.next + count ≡ end →
    ranges (lacks v.store) end (v.known - end) ≡ gaps w
filled_gap walks v end count w gap took at =
    let ran : ℕ = w.next - end in
    let whole : v.known - end ≡ ran + (w.known - w.next) = omega (arith, at, took.low, took.high, took.known) in
    let next : end + ran ≡ w.next = omega (arith, at, took.low) in
    ap (ranges (lacks v.store) end) whole
    ∙ walks.skip (lacks v.store) end ran (w.known - w.next)
    (λ number from below. stored_there (finite.get v.store number)
    (took.had number (omega (arith, from, at)) (omega (arith, below, next))))
    ∙ ap (λ (n : ℕ). ranges (lacks v.store) n (w.known - w.next)) next
    ∙ walks.same (lacks v.store) (lacks w.store) w.next (w.known - w.next)
    (λ number from below. ap is_none (sym (took.same number from)))

-- The messages between two numbers, without the first `count`.
between_behind : (published : List Message) (from to count : ℕ) → 1 ≤ from → from + count ≤ to →
    drop count (between published from to) ≡ between published (from + count) to
between_behind published from to count first within =
    let sum : to - from ≡ count + (to - (from + count)) = omega (arith, within) in
    let place : from - 1 + count ≡ from + count - 1 = omega (arith, first) in
    ap (λ (n : ℕ). drop count (take n (drop (from - 1) published))) sum
    ∙ drop-take count (to - (from + count)) (drop (from - 1) published)
    ∙ ap (λ (t : List Message). take (to - (from + count)) t) (drop-drop count (from - 1) published)
    ∙ ap (λ (n : ℕ). take (to - (from + count)) (drop n published)) place

-- The messages of the responses to a request were received.
pub record IsAnswered (v : View) (end : ℕ) (published : List Message) (limit burst count : ℕ) (w : View) : Type 0 where
  pub room : 20 ≤ limit
  pub some : 1 ≤ burst
  pub first : 1 ≤ v.next
  pub gap : IsGap v end
  pub found : 0 < length (front limit (between published v.next end) 65534)
  pub brings : count ≡ brought limit burst (between published v.next end)
  pub within : v.next + count ≤ end
  pub took : Took v count w

asks_rest : PacksFronts → (v : View) (end : ℕ) (published : List Message) (limit burst count : ℕ) (w : View) →
    IsAnswered v end published limit burst count w →
    asks limit burst (between published v.next end)
    ≡ suc (asks limit burst (between published (v.next + count) end))
asks_rest packs v end published limit burst count w is =
    asks_more packs limit burst (between published v.next end) is.room is.some is.found
    ∙ ap (λ (n : ℕ). suc (asks limit burst (drop n (between published v.next end)))) (sym is.brings)
    ∙ ap (λ (t : List Message). suc (asks limit burst t))
    (between_behind published v.next end count is.first is.within)

-- One round is one of those that are needed.
pub one_round : PacksFronts → WalksRanges → (v : View) (end : ℕ) (published : List Message) (limit burst count : ℕ)
    (w : View) → IsAnswered v end published limit burst count w →
    rounds v published limit burst ≡ suc (rounds w published limit burst)
one_round packs walks v end published limit burst count w is =
    let here = rounds_first walks v end published limit burst is.gap in
    let rest = asks_rest packs v end published limit burst count w is in
    elim (cases_lt (v.next + count) end) [
      | inl few ↦
          let left = leaves_gap v end count w is.gap is.took few in
          let there = rounds_first walks w end published limit burst left.gap in
          let known : v.known - end ≡ w.known - end = omega (arith, is.took.known) in
          let ranges_same =
          ap (ranges (lacks v.store) end) known
          ∙ walks.same (lacks v.store) (lacks w.store) end (w.known - end)
          (λ number from below. ap is_none (sym (is.took.same number (omega (arith, left.next, few, from)))))
          in
          omega (
            arith,
            here,
            rest,
            there,
            ap (λ (n : ℕ). asks limit burst (between published n end)) left.next,
            ap (rounds_of published limit burst) ranges_same,
          )
      | inr filled ↦
          let at : v.next + count ≡ end = omega (arith, filled, is.within) in
          let none : length (between published (v.next + count) end) ≡ 0 =
          omega (arith, at, length-take (end - (v.next + count)) (drop (v.next + count - 1) published))
          in
          omega (
            arith,
            here,
            rest,
            asks_empty limit burst (between published (v.next + count) end) none,
            ap (rounds_of published limit burst) (filled_gap walks v end count w is.gap is.took at),
          )
    ]

-- If a missing message fits, at least one round is needed.
pub rounds_some : PacksFronts → WalksRanges → (v : View) (end : ℕ) (published : List Message) (limit burst : ℕ) →
    20 ≤ limit → 1 ≤ burst → IsGap v end → 0 < length (front limit (between published v.next end) 65534) →
    0 < rounds v published limit burst
rounds_some packs walks v end published limit burst room some gap found =
    omega (
      arith,
      rounds_first walks v end published limit burst gap,
      asks_more packs limit burst (between published v.next end) room some found,
    )

-- If nothing is missing, no round is needed.
pub rounds_none : (v : View) (published : List Message) (limit burst : ℕ) → v.next ≡ v.known →
    ranges (lacks v.store) v.next 0 ≡ [] → rounds v published limit burst ≡ 0
rounds_none v published limit burst none empty =
    let zero_left : v.known - v.next ≡ 0 = omega (arith, none) in
    ap (λ (n : ℕ). rounds_of published limit burst (ranges (lacks v.store) v.next n)) zero_left
    ∙ ap (rounds_of published limit burst) empty
