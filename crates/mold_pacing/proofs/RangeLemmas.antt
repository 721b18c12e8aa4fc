-- The requests that a range of numbers can touch.
use Rattle.std.proofs.Common.{IfNone, IfSome, Option, None, not}
use Rattle.std.specs.Prelude.{is_some}
use Rattle.std.proofs.Common.{◌≡◌, ℕ, zero, suc, ◌+◌, ◌-◌, ◌/◌, ◌<◌, ◌≤◌, ◌++◌, Bool, true, false, List, [], ◌∷◌, Some}
use Rattle.std.proofs.Common.{◌&&◌, arith, refl, ap, ◌∙◌, cond, drop, inl, inr, map, max, min, nat_le, nat_lt, slice_get, sym, take, set, length}
use Rattle.std.proofs.lemmas.Bool.{cases_lt}
use Rattle.std.proofs.lemmas.Bool.Decides.{nat_tests}
use Rattle.std.specs.List.{list_all, list_any}
use Rattle.mold_pacing.proofs.ApartLemmas.{apart_at}
use Rattle.mold_pacing.proofs.EndLemmas.{all_both, all_first, all_map, all_rest, true_is_false, until_response}
use Rattle.mold_pacing.proofs.TableLemmas.{any_none, ascending_at}
use Rattle.mold_pacing.specs.Deadline.{can_send}
use Rattle.mold_pacing.specs.declared.pacer.Pacer.{Pacer}
use Rattle.mold_pacing.specs.Flight.{ArePassed, are_apart, covers, ends_below, flies_from, is_ascending, is_over, is_stale, waits_until}
use Rattle.mold_pacing.specs.Table.{AreBelow}
use Rattle.mold_pacing.specs.Most.{ends_request}
use Rattle.mold_pacing.specs.Responses.{after_arrival, after_response, has_come, is_response_to}
use Rattle.mold_pacing.specs.declared.flight.Flight.{Flight}

-- A change that leaves the requests before an index as they are.
pub map_before : (change : Flight → Flight) (fs : List Flight) (index : ℕ) →
    ((i : ℕ) (f : Flight) → i < index → slice_get fs i ≡ Some f → change f ≡ f) →
    fs ≡ map change (take index fs) ++ drop index fs
map_before change [] zero same = refl
map_before change [] (suc index) same = refl
map_before change (f ∷ fs) zero same = refl
map_before change (f ∷ fs) (suc index) same =
    let here : change f ≡ f = same 0 f (omega arith) refl in
    let rest = map_before change fs index (λ i g before there. same (suc i) g (omega (arith, before)) there) in
    ap (λ (t : List Flight). f ∷ t) rest
    ∙ ap (λ (g : Flight). g ∷ (map change (take index fs) ++ drop index fs)) (sym here)

-- A change that leaves the requests from an index on as they are.
pub map_after : (change : Flight → Flight) (fs : List Flight) (index : ℕ) →
    ((i : ℕ) (f : Flight) → index ≤ i → slice_get fs i ≡ Some f → change f ≡ f) →
    map change (take index fs) ++ drop index fs ≡ map change fs
map_after change [] zero same = refl
map_after change [] (suc index) same = refl
map_after change (f ∷ fs) zero same =
    let here : change f ≡ f = same 0 f (omega arith) refl in
    let rest = map_after change fs 0 (λ i g after there. same (suc i) g (omega arith) there) in
    ap (λ (t : List Flight). f ∷ t) rest ∙ ap (λ (g : Flight). g ∷ map change fs) (sym here)
map_after change (f ∷ fs) (suc index) same =
    ap (λ (t : List Flight). change f ∷ t)
    (map_after change fs index (λ i g after there. same (suc i) g (omega (arith, after)) there))

pub all_set : (p : Flight → Bool) (fs : List Flight) (index : ℕ) (f : Flight) → p f ≡ true → list_all p fs ≡ true →
    list_all p (set fs index f) ≡ true
all_set p [] zero f here all = refl
all_set p [] (suc index) f here all = refl
all_set p (g ∷ gs) zero f here all = all_both p f gs here (all_rest p g gs all)
all_set p (g ∷ gs) (suc index) f here all =
    all_both p g (set gs index f) (all_first p g gs all) (all_set p gs index f here (all_rest p g gs all))

pub all_at : (p : Flight → Bool) (fs : List Flight) (i : ℕ) (f : Flight) → list_all p fs ≡ true →
    slice_get fs i ≡ Some f → p f ≡ true
all_at p [] i f all there = cc
all_at p (g ∷ gs) zero f all there =
    let is : g ≡ f = grind (arith, there) in ap p (sym is) ∙ all_first p g gs all
all_at p (g ∷ gs) (suc i) f all there = all_at p gs i f (all_rest p g gs all) there

pub waits_lower : (time less : ℕ) (fs : List Flight) → less ≤ time → list_all (waits_until time) fs ≡ true →
    list_all (waits_until less) fs ≡ true
waits_lower time less [] lower all = refl
waits_lower time less (f ∷ fs) lower all =
    let here : waits_until time f ≡ true = all_first (waits_until time) f fs all in
    let then : waits_until less f ≡ true = grind (arith, nat_tests, lower, here) in
    all_both (waits_until less) f fs then (waits_lower time less fs lower (all_rest (waits_until time) f fs all))

-- The first request in flight that begins below a number, seen from there down.
pub passed_below : (fs : List Flight) (now index below number : ℕ) (f : Flight) → are_apart now 0 fs ≡ true →
    AreBelow fs below number → index < below → slice_get fs index ≡ Some f → now < f.until →
    ((i : ℕ) (g : Flight) → index < i → i < below → slice_get fs i ≡ Some g → g.until ≤ now) →
    f.end ≤ number → ArePassed fs now below number
passed_below fs now index below number f apart are within there flies over ended i g before other later =
    elim (cases_lt i index) [
      | inl earlier ↦
          omega (arith, apart_at now 0 fs i index g f apart earlier other there later flies, are index f within there)
      | inr after ↦
          elim (cases_lt index i) [
            | inl above ↦ absurd (omega (arith, later, over i g above before other))
            | inr at ↦
                let same : i ≡ index = omega (arith, after, at) in
                let both : Some g ≡ Some f = sym other ∙ ap (slice_get fs) same ∙ there in
                let is : g ≡ f = grind (arith, both) in
                omega (arith, ended, ap (λ (h : Flight). h.end) is)
          ]
    ]

pub passed_at : (fs : List Flight) (now index number : ℕ) (f : Flight) → are_apart now 0 fs ≡ true →
    slice_get fs index ≡ Some f → now < f.until → f.first < number → ArePassed fs now index number
passed_at fs now index number f apart there flies low i g before other later =
    omega (arith, low, apart_at now 0 fs i index g f apart before other there later flies)

-- A response changes no request that it doesn't touch.
response_off : (settle now first end : ℕ) (f : Flight) → is_response_to now first end f ≡ false →
    after_response settle now first end f ≡ f
response_off settle now first end f off =
    ap (λ (b : Bool). cond b (record f {
      until = cond (nat_le f.end end) now (min f.until (now + settle));
      pause = 0;
      attempts = 0;
      reached = max f.reached end;
    }) f) off

pub not_response_passed : (now first end : ℕ) (f : Flight) → (now < f.until → f.end ≤ first) →
    is_response_to now first end f ≡ false
not_response_passed now first end f passed =
    elim (cases_lt now f.until) [
      | inl flies ↦ (let done : f.end ≤ first = passed flies in grind (arith, nat_tests, done))
      | inr over ↦ grind (arith, nat_tests, over)
    ]

pub not_response_above : (now first end : ℕ) (f : Flight) → end ≤ f.first → is_response_to now first end f ≡ false
not_response_above now first end f above = grind (arith, nat_tests, above)

pub response_passed : (settle now first end : ℕ) (f : Flight) → (now < f.until → f.end ≤ first) →
    after_response settle now first end f ≡ f
response_passed settle now first end f passed =
    response_off settle now first end f (not_response_passed now first end f passed)

pub response_above : (settle now first end : ℕ) (f : Flight) → end ≤ f.first →
    after_response settle now first end f ≡ f
response_above settle now first end f above =
    response_off settle now first end f (not_response_above now first end f above)

pub arrival_above : (now first end : ℕ) (f : Flight) → f.first < f.end → end ≤ f.first →
    after_arrival now first end f ≡ f
arrival_above now first end f some above =
    let off : has_come first end f ≡ false = grind (arith, nat_tests, some, above) in
    ap (λ (b : Bool). cond b (record f { until = min f.until now }) f) off

-- The middle of a range that is not empty.
pub halfway : (low high : ℕ) → low < high → (low ≤ low + (high - low) / 2) × (low + (high - low) / 2 < high)
halfway low high some = (omega arith, omega (arith, some))

pub not_ended : (now first end : ℕ) (f : Flight) → is_response_to now first end f ≡ false →
    ends_request now first end f ≡ false
not_ended now first end f off = ap (λ (b : Bool). b && nat_le f.end end) off

pub not_stale_above : (now number : ℕ) (f : Flight) → number < f.first → is_stale now number f ≡ false
not_stale_above now number f above = grind (arith, nat_tests, above)

pub not_stale_before : (now number time : ℕ) (f : Flight) → now < time → waits_until time f ≡ true →
    is_stale now number f ≡ false
not_stale_before now number time f before waits = grind (arith, nat_tests, before, waits)

pub not_stale_past : (now number end : ℕ) (f : Flight) → end ≤ number → ends_below end f ≡ true →
    is_stale now number f ≡ false
not_stale_past now number end f past ends = grind (arith, nat_tests, past, ends)

pub not_covers_end : (now number end : ℕ) (f : Flight) → end ≤ number → ends_below end f ≡ true →
    covers now number f ≡ false
not_covers_end now number end f past ends = grind (arith, nat_tests, past, ends)

pub all_waiting : (time : ℕ) (fs : List Flight) →
    ((i : ℕ) (f : Flight) → slice_get fs i ≡ Some f → time ≤ f.until) → list_all (waits_until time) fs ≡ true
all_waiting time [] waits = refl
all_waiting time (f ∷ fs) waits =
    let from = waits 0 f refl in
    let here : waits_until time f ≡ true = grind (arith, nat_tests, from) in
    all_both (waits_until time) f fs here (all_waiting time fs (λ i g there. waits (suc i) g there))

pub waits_set : (time least : ℕ) (fs : List Flight) (index : ℕ) (f : Flight) →
    list_all (waits_until (min time least)) fs ≡ true →
    list_all (waits_until (min time (min least f.until))) (set fs index f) ≡ true
waits_set time least fs index f all =
    let less : min time (min least f.until) ≤ f.until = omega arith in
    let here : waits_until (min time (min least f.until)) f ≡ true = grind (arith, nat_tests, less) in
    all_set (waits_until (min time (min least f.until))) fs index f here
    (waits_lower (min time least) (min time (min least f.until)) fs (omega arith) all)

-- The requests from an index on are as they were, if only those before it were changed.
pub unchanged_at : (change : Flight → Flight) (fs : List Flight) (index i : ℕ) → index ≤ i →
    slice_get (map change (take index fs) ++ drop index fs) i ≡ slice_get fs i
unchanged_at change [] zero i after = refl
unchanged_at change [] (suc index) i after = refl
unchanged_at change (f ∷ fs) zero i after = refl
unchanged_at change (f ∷ fs) (suc index) zero after = absurd (omega (arith, after))
unchanged_at change (f ∷ fs) (suc index) (suc i) after = unchanged_at change fs index i (omega (arith, after))

not_over_before : (now time : ℕ) (f : Flight) → now < time → waits_until time f ≡ true → is_over now f ≡ false
not_over_before now time f before waits = grind (arith, nat_tests, before, waits)

-- A table without a spare place has no room before the first of its requests is over.
pub cannot_send : (p : Pacer) (time : ℕ) → p.options.places ≤ length p.flights.items → p.state.now < time →
    list_all (waits_until time) p.flights.items ≡ true → false ≡ can_send p
cannot_send p time full before all =
    let none = any_none (is_over p.state.now) p.flights.items (λ i f there.
    not_over_before p.state.now time f before (all_at (waits_until time) p.flights.items i f all there)) in
    let off : can_send p ≡ false = grind (arith, nat_tests, full, none) in
    sym off

pub ends_more : (end more : ℕ) (fs : List Flight) → end ≤ more → list_all (ends_below end) fs ≡ true →
    list_all (ends_below more) fs ≡ true
ends_more end more [] grows all = refl
ends_more end more (f ∷ fs) grows all =
    let here : ends_below end f ≡ true = all_first (ends_below end) f fs all in
    let then : ends_below more f ≡ true = grind (arith, nat_tests, grows, here) in
    all_both (ends_below more) f fs then (ends_more end more fs grows (all_rest (ends_below end) f fs all))

-- What a response and an arrival leave of a request.
pub response_end : (settle now first end : ℕ) (f : Flight) → (after_response settle now first end f).end ≡ f.end
response_end settle now first end f = elim (is_response_to now first end f) as (λ b. (cond b (record f {
  until = cond (nat_le f.end end) now (min f.until (now + settle));
  pause = 0;
  attempts = 0;
  reached = max f.reached end;
}) f).end ≡ f.end) [ true ↦ refl | false ↦ refl ]

pub arrival_end : (now first end : ℕ) (f : Flight) → (after_arrival now first end f).end ≡ f.end
arrival_end now first end f = elim (has_come first end f) as (λ b. (cond b (record f { until = min f.until now }) f).end ≡ f.end) [ true ↦ refl | false ↦ refl ]

pub arrival_until : (now first end : ℕ) (f : Flight) → (after_arrival now first end f).until ≤ f.until
arrival_until now first end f = elim (has_come first end f) as (λ b. (cond b (record f { until = min f.until now }) f).until ≤ f.until) [ true ↦ omega arith | false ↦ omega arith ]

-- A request that is in flight after a response or an arrival was in flight before.
pub response_still : (settle now first end : ℕ) (f : Flight) → now < (after_response settle now first end f).until →
    now < f.until
response_still settle now first end f flies =
    elim (until_response settle now first end f) [
      | inl less ↦ omega (arith, less, flies)
      | inr past ↦ absurd (omega (arith, past, flies))
    ]

pub ends_kept : (end : ℕ) (change : Flight → Flight) (fs : List Flight) → ((f : Flight) → (change f).end ≡ f.end) →
    list_all (ends_below end) fs ≡ true → list_all (ends_below end) (map change fs) ≡ true
ends_kept end change fs ends all =
    all_map (ends_below end) (ends_below end) change fs
    (λ f here. ap (λ (n : ℕ). nat_le n end) (ends f) ∙ here) all

-- Without a spare place, a request can be sent if one of the requests is over.
pub sends_by : (p : Pacer) (over : Option ℕ) (b : Bool) → is_some over ≡ not b →
    IfSome over (λ time. p.state.now < time) → IfSome over (λ time. list_all (waits_until time) p.flights.items ≡ true) →
    IfNone over (list_any (is_over p.state.now) p.flights.items ≡ true) → p.options.places ≤ length p.flights.items →
    nat_le p.state.opens (p.state.now + p.options.tolerance) ≡ true → b ≡ can_send p
sends_by p None true is later waits none full opens =
    let on : can_send p ≡ true = grind (arith, opens, none) in
    sym on
sends_by p None false is later waits none full opens = cc
sends_by p (Some time) true is later waits none full opens = cc
sends_by p (Some time) false is later waits none full opens = cannot_send p time full later waits

all_each : (p : Flight → Bool) (fs : List Flight) → ((i : ℕ) (f : Flight) → slice_get fs i ≡ Some f → p f ≡ true) →
    list_all p fs ≡ true
all_each p [] each = refl
all_each p (f ∷ fs) each = all_both p f fs (each 0 f refl) (all_each p fs (λ i g there. each (suc i) g there))

flies_low : (now low : ℕ) (f : Flight) → flies_from now low f ≡ true → now < f.until → low ≤ f.first
flies_low now low f from flies =
    elim (cases_lt f.first low) [
      | inl under ↦
          let off : flies_from now low f ≡ false = grind (arith, nat_tests, flies, under) in
          absurd (true_is_false (sym from ∙ off))
      | inr above ↦ above
    ]

-- No request before the index is in flight, since it begins below all of those in flight.
below_low : (fs : List Flight) (low now index : ℕ) (f : Flight) → is_ascending 0 fs ≡ true →
    list_all (flies_from now low) fs ≡ true → slice_get fs index ≡ Some f → f.first < low → (i : ℕ) (g : Flight) →
    i < index → slice_get fs i ≡ Some g → now < g.until → ⊥
below_low fs low now index f sorted from there under i g before other flies =
    let first = ascending_at 0 fs i index g f sorted (omega (arith, before)) other there in
    omega (arith, under, first, flies_low now low g (all_at (flies_from now low) fs i g from other) flies)

over_below : (fs : List Flight) (low now index below : ℕ) (f : Flight) → is_ascending 0 fs ≡ true →
    list_all (flies_from now low) fs ≡ true → slice_get fs index ≡ Some f → f.first < low → f.until ≤ now →
    ((i : ℕ) (g : Flight) → index < i → i < below → slice_get fs i ≡ Some g → g.until ≤ now) → (i : ℕ) (g : Flight) →
    i < below → slice_get fs i ≡ Some g → now < g.until → ⊥
over_below fs low now index below f sorted from there under done over i g before other flies =
    elim (cases_lt i index) [
      | inl earlier ↦ below_low fs low now index f sorted from there under i g earlier other flies
      | inr after ↦ elim (cases_lt index i) [
        | inl above ↦ omega (arith, flies, over i g above before other)
        | inr at ↦
            let same : i ≡ index = omega (arith, after, at) in
            let both : Some g ≡ Some f = sym other ∙ ap (slice_get fs) same ∙ there in
            let is : g ≡ f = grind (arith, both) in
            omega (arith, flies, done, ap (λ (h : Flight). h.until) is)
      ]
    ]

pub passed_low : (fs : List Flight) (low now index below number : ℕ) (f : Flight) → is_ascending 0 fs ≡ true →
    list_all (flies_from now low) fs ≡ true → slice_get fs index ≡ Some f → f.first < low → f.until ≤ now →
    ((i : ℕ) (g : Flight) → index < i → i < below → slice_get fs i ≡ Some g → g.until ≤ now) →
    ArePassed fs now below number
passed_low fs low now index below number f sorted from there under done over i g before other flies =
    absurd (over_below fs low now index below f sorted from there under done over i g before other flies)

flies_over : (now number : ℕ) (f : Flight) → f.until ≤ now → flies_from now number f ≡ true
flies_over now number f over = grind (arith, nat_tests, over)

pub flies_above : (now number : ℕ) (f : Flight) → number ≤ f.first → flies_from now number f ≡ true
flies_above now number f above = grind (arith, nat_tests, above)

-- All requests in flight begin at or above a number if none before its index is in flight.
pub low_none : (fs : List Flight) (now below number : ℕ) →
    ((i : ℕ) (g : Flight) → i < below → slice_get fs i ≡ Some g → g.until ≤ now) →
    ((i : ℕ) (g : Flight) → below ≤ i → slice_get fs i ≡ Some g → number ≤ g.first) →
    list_all (flies_from now number) fs ≡ true
low_none fs now below number over next = all_each (flies_from now number) fs (λ i f there.
    elim (cases_lt i below) [
      | inl before ↦ (let done = over i f before there in flies_over now number f done)
      | inr after ↦ (let from = next i f after there in flies_above now number f from)
    ])

pub low_at : (fs : List Flight) (low now index below number : ℕ) (f : Flight) → is_ascending 0 fs ≡ true →
    list_all (flies_from now low) fs ≡ true → slice_get fs index ≡ Some f → f.first < low → f.until ≤ now →
    ((i : ℕ) (g : Flight) → index < i → i < below → slice_get fs i ≡ Some g → g.until ≤ now) →
    ((i : ℕ) (g : Flight) → below ≤ i → slice_get fs i ≡ Some g → number ≤ g.first) →
    list_all (flies_from now number) fs ≡ true
low_at fs low now index below number f sorted from there under done over next =
    low_none fs now below number (λ i g before other.
    elim (cases_lt now g.until) [
      | inl flies ↦ absurd (over_below fs low now index below f sorted from there under done over i g before other flies)
      | inr past ↦ past
    ]) next

-- A change that leaves the first numbers, and sends nothing again.
pub flies_kept : (now later low : ℕ) (change : Flight → Flight) (fs : List Flight) →
    ((f : Flight) → (change f).first ≡ f.first) → ((f : Flight) → later < (change f).until → now < f.until) →
    list_all (flies_from now low) fs ≡ true → list_all (flies_from later low) (map change fs) ≡ true
flies_kept now later low change fs firsts still all =
    all_map (flies_from now low) (flies_from later low) change fs (λ f from.
    elim (cases_lt later (change f).until) [
      | inl flies ↦ flies_above later low (change f) (omega (arith, firsts f, flies_low now low f from (still f flies)))
      | inr over ↦ flies_over later low (change f) over
    ]) all

pub flies_later : (now later low : ℕ) (fs : List Flight) → now ≤ later → list_all (flies_from now low) fs ≡ true →
    list_all (flies_from later low) fs ≡ true
flies_later now later low [] order all = refl
flies_later now later low (f ∷ fs) order all =
    let here : flies_from now low f ≡ true = all_first (flies_from now low) f fs all in
    let then : flies_from later low f ≡ true = grind (arith, nat_tests, order, here) in
    all_both (flies_from later low) f fs then (flies_later now later low fs order (all_rest (flies_from now low) f fs all))

pub flies_less : (now low less : ℕ) (fs : List Flight) → less ≤ low → list_all (flies_from now low) fs ≡ true →
    list_all (flies_from now less) fs ≡ true
flies_less now low less [] order all = refl
flies_less now low less (f ∷ fs) order all =
    let here : flies_from now low f ≡ true = all_first (flies_from now low) f fs all in
    let then : flies_from now less f ≡ true = grind (arith, nat_tests, order, here) in
    all_both (flies_from now less) f fs then (flies_less now low less fs order (all_rest (flies_from now low) f fs all))

pub waits_at : (time : ℕ) (fs : List Flight) (i : ℕ) (f : Flight) → list_all (waits_until time) fs ≡ true →
    slice_get fs i ≡ Some f → time ≤ f.until
waits_at time fs i f all there =
    let waits = all_at (waits_until time) fs i f all there in
    grind (arith, nat_tests, waits)
