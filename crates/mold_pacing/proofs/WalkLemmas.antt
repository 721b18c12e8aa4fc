-- The walk over gaps and requests.
use Rattle.std.proofs.Common.{◌≡◌, ℕ, ◌+◌, ◌<◌, ◌≤◌, true, false, List, Some, arith, min, max, slice_get, sym, ap, refl, ◌∙◌, inl, inr, zero, suc, [], ◌∷◌}
use Rattle.std.proofs.lemmas.Bool.{cases_lt}
use Rattle.std.proofs.lemmas.Bool.Decides.{nat_tests}
use Rattle.mold_pacing.specs.Asks.{AreGaps, are_gaps, IsFirstFree}
use Rattle.mold_pacing.specs.Flight.{AllInFlight, ArePassed, in_flight}
use Rattle.mold_pacing.specs.declared.flight.Flight.{Flight}
use Rattle.mold_pacing.specs.declared.gap.Gap.{Gap}

-- The gaps before `count` have no free number. Each number below `number` that is above these gaps is in flight.
pub record IsWalked (fs : List Flight) (now ripe : ℕ) (gaps : List Gap) (count index number : ℕ) : Type 0 where
  pub passed : ArePassed fs now index number
  pub busy : (i : ℕ) (g : Gap) → i < count → slice_get gaps i ≡ Some g → AllInFlight fs now g.first (min g.end ripe)
  pub above : (n : ℕ) → ((i : ℕ) (g : Gap) → i < count → slice_get gaps i ≡ Some g → g.end ≤ n) → n < number →
      in_flight now n fs ≡ true

pub walked_none : (fs : List Flight) (now ripe : ℕ) (gaps : List Gap) → IsWalked fs now ripe gaps 0 0 0
walked_none fs now ripe gaps = record {
  passed = λ i f before there later. absurd (omega (arith, before));
  busy = λ i g before there n low high. absurd (omega (arith, before));
  above = λ n ends below. absurd (omega (arith, below));
}

pub walked_from : (fs : List Flight) (now ripe : ℕ) (gaps : List Gap) (count index number first : ℕ) →
    IsWalked fs now ripe gaps count index number → ArePassed fs now index (max number first)
walked_from fs now ripe gaps count index number first walked i f before there later =
    omega (arith, walked.passed i f before there later)

-- After a gap, each of its numbers below the cursor's is in flight.
pub walked_gap : (fs : List Flight) (now ripe : ℕ) (gaps : List Gap) (count index number more : ℕ) (g : Gap) →
    IsWalked fs now ripe gaps count index number → AreGaps gaps → slice_get gaps count ≡ Some g →
    AllInFlight fs now (max number g.first) more → AllInFlight fs now g.first more
walked_gap fs now ripe gaps count index number more g walked are there busy n low high =
    elim (cases_lt n (max number g.first)) [
      | inl below ↦ walked.above n
          (λ i h before other. omega (arith, low, are.ascend i count h g before other there)) (omega (arith, below, low))
      | inr from ↦ busy n from high
    ]

pub walked_more : (fs : List Flight) (now ripe : ℕ) (gaps : List Gap) (count index number past more : ℕ) (g : Gap) →
    IsWalked fs now ripe gaps count index number → AreGaps gaps → slice_get gaps count ≡ Some g →
    AllInFlight fs now (max number g.first) more → ArePassed fs now past more → min g.end ripe ≤ more →
    IsWalked fs now ripe gaps (count + 1) past more
walked_more fs now ripe gaps count index number past more g walked are there busy passed full =
    let here = walked_gap fs now ripe gaps count index number more g walked are there busy in
    record {
      passed = passed;
      busy = λ i h before other n low high.
          elim (cases_lt i count) [
            | inl earlier ↦ walked.busy i h earlier other n low high
            | inr after ↦
                let at : i ≡ count = omega (arith, before, after) in
                let same : Some h ≡ Some g = sym other ∙ ap (slice_get gaps) at ∙ there in
                let is : h ≡ g = grind (arith, same) in
                let from : g.first ≤ n = rw (ap (λ (k : Gap). k.first) (sym is)) low in
                let below : n < min g.end ripe = rw (ap (λ (k : Gap). min k.end ripe) (sym is)) high in
                here n from (omega (arith, below, full))
          ];
      above = λ n ends below.
          let past = ends count g (omega arith) there in
          here n (omega (arith, past, are.some count g there)) below;
    }

pub walked_found : (fs : List Flight) (now ripe : ℕ) (gaps : List Gap) (count index number more : ℕ) (g : Gap) →
    IsWalked fs now ripe gaps count index number → AreGaps gaps → slice_get gaps count ≡ Some g →
    AllInFlight fs now (max number g.first) more → in_flight now more fs ≡ false → max number g.first ≤ more →
    more < min g.end ripe → IsFirstFree fs now ripe gaps more (min g.end ripe)
walked_found fs now ripe gaps count index number more g walked are there busy free low some = record {
  index = count;
  gap = g;
  there = there;
  low = omega (arith, low);
  some = some;
  ends = refl;
  free = free;
  least = walked_gap fs now ripe gaps count index number more g walked are there busy;
  before = walked.busy;
}

-- Gaps in order, by index.
pub gaps_low : (low : ℕ) (gaps : List Gap) (i : ℕ) (g : Gap) → are_gaps low gaps ≡ true → slice_get gaps i ≡ Some g →
    low ≤ g.first
gaps_low low [] i g are there = cc
gaps_low low (h ∷ hs) zero g are there =
    let is : h ≡ g = grind (arith, there) in
    let here : low ≤ h.first = grind (arith, nat_tests, are) in
    omega (arith, here, ap (λ (k : Gap). k.first) is)
gaps_low low (h ∷ hs) (suc i) g are there =
    let rest : are_gaps h.end hs ≡ true = grind (arith, are) in
    let here : low ≤ h.first = grind (arith, nat_tests, are) in
    let some : h.first < h.end = grind (arith, nat_tests, are) in
    omega (arith, here, some, gaps_low h.end hs i g rest there)

pub gaps_some : (low : ℕ) (gaps : List Gap) (i : ℕ) (g : Gap) → are_gaps low gaps ≡ true → slice_get gaps i ≡ Some g →
    g.first < g.end
gaps_some low [] i g are there = cc
gaps_some low (h ∷ hs) zero g are there =
    let is : h ≡ g = grind (arith, there) in
    let some : h.first < h.end = grind (arith, nat_tests, are) in
    omega (arith, some, ap (λ (k : Gap). k.first) is, ap (λ (k : Gap). k.end) is)
gaps_some low (h ∷ hs) (suc i) g are there =
    let rest : are_gaps h.end hs ≡ true = grind (arith, are) in
    gaps_some h.end hs i g rest there

pub gaps_ascend : (low : ℕ) (gaps : List Gap) (i j : ℕ) (g h : Gap) → are_gaps low gaps ≡ true → i < j →
    slice_get gaps i ≡ Some g → slice_get gaps j ≡ Some h → g.end ≤ h.first
gaps_ascend low [] i j g h are order there other = cc
gaps_ascend low (k ∷ ks) i zero g h are order there other = absurd (omega (arith, order))
gaps_ascend low (k ∷ ks) zero (suc j) g h are order there other =
    let rest : are_gaps k.end ks ≡ true = grind (arith, are) in
    let is : k ≡ g = grind (arith, there) in
    omega (arith, gaps_low k.end ks j h rest other, ap (λ (x : Gap). x.end) is)
gaps_ascend low (k ∷ ks) (suc i) (suc j) g h are order there other =
    let rest : are_gaps k.end ks ≡ true = grind (arith, are) in
    gaps_ascend k.end ks i j g h rest (omega (arith, order)) there other

pub gaps_are : (gaps : List Gap) → are_gaps 0 gaps ≡ true → AreGaps gaps
gaps_are gaps are = record {
  some = λ i g there. gaps_some 0 gaps i g are there;
  ascend = λ i j g h order there other. gaps_ascend 0 gaps i j g h are order there other;
}
