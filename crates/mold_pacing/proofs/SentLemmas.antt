-- What is known of the table after a request was sent.
use Rattle.std.proofs.Common.{◌≡◌, ℕ, ◌<◌, ◌≤◌, true, List, Option, Some, None, arith, max, min}
use Rattle.std.proofs.lemmas.Bool.Decides.{nat_tests}
use Rattle.std.specs.List.{list_all}
use Rattle.mold_pacing.proofs.EndLemmas.{all_placed, all_without}
use Rattle.mold_pacing.proofs.PlaceLemmas.{removed_ascending}
use Rattle.mold_pacing.proofs.RangeLemmas.{ends_more, flies_above, flies_less, waits_lower}
use Rattle.mold_pacing.specs.Flight.{ends_below, flies_from, is_ascending, waits_until}
use Rattle.mold_pacing.specs.Repeat.{pause_for}
use Rattle.mold_pacing.specs.Table.{placed, without}
use Rattle.mold_pacing.specs.declared.flight.Flight.{Flight}
use Rattle.mold_pacing.specs.declared.options.PacerOptions.{PacerOptions}

pub without_ascending : (leaves : Option ℕ) (fs : List Flight) → is_ascending 0 fs ≡ true →
    is_ascending 0 (without leaves fs) ≡ true
without_ascending None fs sorted = sorted
without_ascending (Some index) fs sorted = removed_ascending 0 fs index sorted

pub pause_some : (options : PacerOptions) (before : Option Flight) → 0 < options.timeout →
    0 < pause_for options before
pause_some options None some = some
pause_some options (Some f) some = omega (arith, some)

pub sent_waits : (time : ℕ) (sent : Flight) (leaves : Option ℕ) (fs : List Flight) →
    list_all (waits_until time) fs ≡ true →
    list_all (waits_until (min time sent.until)) (placed sent (without leaves fs)) ≡ true
sent_waits time sent leaves fs all =
    let less : min time sent.until ≤ sent.until = omega arith in
    let here : waits_until (min time sent.until) sent ≡ true = grind (arith, nat_tests, less) in
    all_placed (waits_until (min time sent.until)) sent (without leaves fs) here
    (all_without (waits_until (min time sent.until)) leaves fs
    (waits_lower time (min time sent.until) fs (omega arith) all))

pub sent_bounded : (end : ℕ) (sent : Flight) (leaves : Option ℕ) (fs : List Flight) →
    list_all (ends_below end) fs ≡ true →
    list_all (ends_below (max end sent.end)) (placed sent (without leaves fs)) ≡ true
sent_bounded end sent leaves fs all =
    let less : sent.end ≤ max end sent.end = omega arith in
    let here : ends_below (max end sent.end) sent ≡ true = grind (arith, nat_tests, less) in
    all_placed (ends_below (max end sent.end)) sent (without leaves fs) here
    (all_without (ends_below (max end sent.end)) leaves fs (ends_more end (max end sent.end) fs (omega arith) all))

pub sent_flies : (now low : ℕ) (sent : Flight) (leaves : Option ℕ) (fs : List Flight) →
    list_all (flies_from now low) fs ≡ true →
    list_all (flies_from now (min low sent.first)) (placed sent (without leaves fs)) ≡ true
sent_flies now low sent leaves fs all =
    let less : min low sent.first ≤ sent.first = omega arith in
    let here : flies_from now (min low sent.first) sent ≡ true = flies_above now (min low sent.first) sent less in
    all_placed (flies_from now (min low sent.first)) sent (without leaves fs) here
    (all_without (flies_from now (min low sent.first)) leaves fs
    (flies_less now low (min low sent.first) fs (omega arith) all))
