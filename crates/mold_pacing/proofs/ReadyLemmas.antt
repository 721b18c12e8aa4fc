-- A poll returns the request that can be sent.
use Rattle.std.proofs.Common.{◌≡◌, ◌⊎◌, ℕ, ◌+◌, ◌<◌, true, false, List, Some, ap, arith, inl, inr, min, slice_get, sym, ◌∙◌}
use Rattle.std.proofs.lemmas.Bool.{cases_lt}
use Rattle.mold_pacing.proofs.EndLemmas.{true_is_false}
use Rattle.mold_pacing.proofs.WalkLemmas.{gaps_some}
use Rattle.mold_pacing.specs.Asks.{AreAllInFlight, are_gaps}
use Rattle.mold_pacing.specs.Deadline.{CanAsk}
use Rattle.mold_pacing.specs.Flight.{AllInFlight, in_flight}
use Rattle.mold_pacing.specs.Polls.{HasAsked, IsIdle}
use Rattle.mold_pacing.specs.Table.{has_room}
use Rattle.mold_pacing.specs.declared.ask.Ask.{Ask}
use Rattle.mold_pacing.specs.declared.flight.Flight.{Flight}
use Rattle.mold_pacing.specs.declared.gap.Gap.{Gap}
use Rattle.mold_pacing.specs.declared.pacer.Pacer.{Pacer}

pub not_busy : (fs : List Flight) (now ripe : ℕ) (gap : Gap) → gap.first < gap.end → gap.first < ripe →
    in_flight now gap.first fs ≡ false → AllInFlight fs now gap.first (min gap.end ripe) → ⊥
not_busy fs now ripe gap some below free busy =
    true_is_false (sym (busy gap.first (omega arith) (omega (arith, some, below))) ∙ free)

pub ready_first : (old new : Pacer) (gaps : List Gap) (gap : Gap) (ask : Ask) → HasAsked old new gaps ask →
    are_gaps 0 gaps ≡ true → slice_get gaps 0 ≡ Some gap → gap.first < old.state.ripe →
    CanAsk old old.state.now gap.first → ask.first ≡ gap.first
ready_first old new gaps gap ask asked are there ripe can =
    let some = gaps_some 0 gaps 0 gap are there in
    elim (cases_lt 0 asked.least.index) [
      | inl later ↦
          absurd (not_busy old.flights.items old.state.now old.state.ripe gap some ripe can.free
          (asked.least.before 0 gap later there))
      | inr at ↦
          let index : asked.least.index ≡ 0 = omega (arith, at) in
          let same : Some asked.least.gap ≡ Some gap = sym asked.least.there ∙ ap (slice_get gaps) index ∙ there in
          let is : asked.least.gap ≡ gap = grind (arith, same) in
          let first = ap (λ (g : Gap). g.first) is in
          elim (cases_lt gap.first ask.first) [
            | inl before ↦
                absurd (true_is_false (sym (asked.least.least gap.first (omega (arith, first)) before) ∙ can.free))
            | inr after ↦ omega (arith, after, first, asked.least.low)
          ]
    ]

pub idle_reason : (old : Pacer) (gaps : List Gap) (gap : Gap) →
    (old.state.now + old.options.tolerance < old.state.opens)
    ⊎ AreAllInFlight old.flights.items old.state.now old.state.ripe gaps
    ⊎ (has_room old.options.places old.state.now old.flights.items ≡ false) →
    are_gaps 0 gaps ≡ true → slice_get gaps 0 ≡ Some gap → gap.first < old.state.ripe →
    CanAsk old old.state.now gap.first → ⊥
idle_reason old gaps gap reason are there ripe can =
    elim reason [
      | inl shut ↦ absurd (omega (arith, shut, can.opened))
      | inr other ↦ elim other [
        | inl busy ↦ not_busy old.flights.items old.state.now old.state.ripe gap (gaps_some 0 gaps 0 gap are there) ripe
            can.free (busy 0 gap there)
        | inr full ↦ true_is_false (sym can.room ∙ full)
      ]
    ]

pub ready_idle : (old new : Pacer) (gaps : List Gap) (gap : Gap) → IsIdle old new gaps → are_gaps 0 gaps ≡ true →
    slice_get gaps 0 ≡ Some gap → gap.first < old.state.ripe → CanAsk old old.state.now gap.first → ⊥
ready_idle old new gaps gap idle are there ripe can =
    idle_reason old gaps gap idle.reason are there ripe can
