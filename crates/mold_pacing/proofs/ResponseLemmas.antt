-- Responses and arrivals keep the order of the table.
use Rattle.std.proofs.Common.{◌≡◌, ℕ, ◌&&◌, true, false, List, [], ◌∷◌, arith, refl, ap, cond, map, nat_le, max, min, ◌+◌, ◌∙◌, ◌<◌, Bool, length, sym, suc}
use Rattle.std.proofs.lemmas.Bool.Decides.{nat_tests}
use Rattle.mold_pacing.specs.Flight.{is_ascending}
use Rattle.mold_pacing.specs.Table.{AreBelow}
use Rattle.mold_pacing.specs.Responses.{after_arrival, after_response, has_come, is_response_to}
use Rattle.mold_pacing.specs.declared.flight.Flight.{Flight}

pub response_first : (settle now first end : ℕ) (f : Flight) → (after_response settle now first end f).first ≡ f.first
response_first settle now first end f = elim (is_response_to now first end f) as (λ b. (cond b (record f {
  until = cond (nat_le f.end end) now (min f.until (now + settle));
  pause = 0;
  attempts = 0;
  reached = max f.reached end;
}) f).first ≡ f.first) [ true ↦ refl | false ↦ refl ]

pub arrival_first : (now first end : ℕ) (f : Flight) → (after_arrival now first end f).first ≡ f.first
arrival_first now first end f = elim (has_come first end f) as (λ b. (cond b (record f { until = min f.until now }) f).first ≡ f.first) [ true ↦ refl | false ↦ refl ]

-- A request that begins below the numbers that came is not changed by them.
pub arrival_below : (now first end : ℕ) (f : Flight) → f.first < first → after_arrival now first end f ≡ f
arrival_below now first end f below =
    let off : has_come first end f ≡ false = grind (arith, nat_tests, below) in
    ap (λ (b : Bool). cond b (record f { until = min f.until now }) f) off

pub arrival_none : (now first end : ℕ) (fs : List Flight) → AreBelow fs (length fs) first →
    fs ≡ map (after_arrival now first end) fs
arrival_none now first end [] below = refl
arrival_none now first end (f ∷ fs) below =
    let here = arrival_below now first end f (below 0 f (omega arith) refl) in
    let rest = arrival_none now first end fs (λ i g within there. below (suc i) g (omega (arith, within)) there) in
    ap (λ (t : List Flight). f ∷ t) rest ∙ ap (λ (g : Flight). g ∷ map (after_arrival now first end) fs) (sym here)

pub map_ascending : (change : Flight → Flight) (low : ℕ) (fs : List Flight) →
    ((f : Flight) → (change f).first ≡ f.first) → is_ascending low fs ≡ true → is_ascending low (map change fs) ≡ true
map_ascending change low [] keeps sorted = refl
map_ascending change low (f ∷ fs) keeps sorted =
    let rest : is_ascending f.first fs ≡ true = grind (arith, sorted) in
    let here : nat_le low f.first ≡ true = grind (arith, sorted) in
    let more = map_ascending change f.first fs keeps rest in
    ap (λ (n : ℕ). nat_le low n && is_ascending n (map change fs)) (keeps f)
    ∙ (let both : (nat_le low f.first && is_ascending f.first (map change fs)) ≡ true = grind (arith, here, more) in both)

pub changed_ascending : (change : Flight → Flight) (fs gs : List Flight) →
    ((f : Flight) → (change f).first ≡ f.first) → gs ≡ map change fs → is_ascending 0 fs ≡ true →
    is_ascending 0 gs ≡ true
changed_ascending change fs gs keeps are sorted =
    ap (is_ascending 0) are ∙ map_ascending change 0 fs keeps sorted
