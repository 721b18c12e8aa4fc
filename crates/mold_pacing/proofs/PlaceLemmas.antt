-- A request enters the table, and another one leaves it.
use Rattle.std.proofs.Common.{◌≡◌, ℕ, zero, suc, ◌+◌, ◌<◌, ◌≤◌, Bool, true, false, List, [], ◌∷◌, ◌++◌, Option, Some, None}
use Rattle.std.proofs.Common.{arith, nat_le, refl, ap, ◌∙◌, sym, slice_get, length, take, drop, cond, inl, inr, set}
use Rattle.std.proofs.lemmas.Bool.{cases_lt}
use Rattle.std.proofs.lemmas.Bool.Decides.{nat_tests}
use Rattle.std.proofs.lemmas.List.Edits.{length-remove}
use Rattle.std.proofs.lemmas.Option.{slice_get_within}
use Rattle.std.specs.List.{find, remove}
use Rattle.mold_pacing.specs.Flight.{is_ascending, is_stale}
use Rattle.mold_pacing.specs.Table.{AreBelow, CanLeave, IsPlace, NonePass, placed, without}
use Rattle.mold_pacing.specs.declared.flight.Flight.{Flight}

pub find_at : (p : Flight → Bool) (fs : List Flight) (index : ℕ) (f : Flight) → NonePass p fs index →
    slice_get fs index ≡ Some f → p f ≡ true → find p fs ≡ Some f
find_at p [] index f none there passes = cc
find_at p (g ∷ gs) zero f none there passes =
    let is : g ≡ f = grind (arith, there) in
    let test : p g ≡ true = ap p is ∙ passes in
    ap (λ (b : Bool). cond b (Some g) (find p gs)) test ∙ there
find_at p (g ∷ gs) (suc index) f none there passes =
    let test : p g ≡ false = none 0 g (omega arith) refl in
    ap (λ (b : Bool). cond b (Some g) (find p gs)) test
    ∙ find_at p gs index f (λ i h before other. none (suc i) h (omega (arith, before)) other) there passes

pub find_none : (p : Flight → Bool) (fs : List Flight) →
    ((i : ℕ) (f : Flight) → slice_get fs i ≡ Some f → p f ≡ false) → find p fs ≡ None
find_none p [] none = refl
find_none p (g ∷ gs) none =
    ap (λ (b : Bool). cond b (Some g) (find p gs)) (none 0 g refl)
    ∙ find_none p gs (λ i f there. none (suc i) f there)

pub find_passes_by : (p : Flight → Bool) (g : Flight) (gs : List Flight) (f : Flight) (b : Bool) → p g ≡ b →
    (find p gs ≡ Some f → p f ≡ true) → cond b (Some g) (find p gs) ≡ Some f → p f ≡ true
find_passes_by p g gs f true is later found =
    let same : g ≡ f = grind (arith, found) in
    sym (ap p same) ∙ is
find_passes_by p g gs f false is later found = later found

pub find_passes : (p : Flight → Bool) (fs : List Flight) (f : Flight) → find p fs ≡ Some f → p f ≡ true
find_passes p [] f found = cc
find_passes p (g ∷ gs) f found = find_passes_by p g gs f (p g) refl (find_passes p gs f) found

-- The last request for a number asked for it, and is over.
pub place_before : (fs : List Flight) (places now number : ℕ) (leaves : Option ℕ) (before : Option Flight) →
    IsPlace fs places now number leaves before → (f : Flight) → before ≡ Some f → is_stale now number f ≡ true
place_before fs places now number leaves before place f is =
    find_passes (is_stale now number) fs f (sym place.last ∙ is)

pub place_end : (fs : List Flight) (places now number : ℕ) (leaves : Option ℕ) (before : Option Flight) →
    IsPlace fs places now number leaves before → (f : Flight) → before ≡ Some f → number < f.end
place_end fs places now number leaves before place f is =
    let stale = place_before fs places now number leaves before place f is in
    grind (arith, nat_tests, stale)

pub placed_is : (sent : Flight) (fs : List Flight) (index : ℕ) → index ≤ length fs → AreBelow fs index sent.first →
    ((f : Flight) → slice_get fs index ≡ Some f → sent.first ≤ f.first) →
    placed sent fs ≡ take index fs ++ sent ∷ drop index fs
placed_is sent [] zero within below next = refl
placed_is sent [] (suc index) within below next = absurd (omega (arith, within))
placed_is sent (f ∷ fs) zero within below next =
    let test : nat_le sent.first f.first ≡ true = grind (arith, nat_tests, next f refl) in
    ap (λ (b : Bool). cond b (sent ∷ f ∷ fs) (f ∷ placed sent fs)) test
placed_is sent (f ∷ fs) (suc index) within below next =
    let test : nat_le sent.first f.first ≡ false = grind (arith, nat_tests, below 0 f (omega arith) refl) in
    ap (λ (b : Bool). cond b (sent ∷ f ∷ fs) (f ∷ placed sent fs)) test
    ∙ ap (λ (t : List Flight). f ∷ t) (placed_is sent fs index (omega (arith, within))
    (λ i g before other. below (suc i) g (omega (arith, before)) other) next)

-- If the requests stay in order, a request that replaces another one has its index.
pub replaced_is : (sent : Flight) (fs : List Flight) (index : ℕ) → index < length fs → AreBelow fs index sent.first →
    ((f : Flight) → slice_get fs (index + 1) ≡ Some f → sent.first ≤ f.first) →
    placed sent (remove fs index) ≡ set fs index sent
replaced_is sent [] index within below next = absurd (omega (arith, within))
replaced_is sent (f ∷ []) zero within below next = refl
replaced_is sent (f ∷ g ∷ fs) zero within below next =
    let test : nat_le sent.first g.first ≡ true = grind (arith, nat_tests, next g refl) in
    ap (λ (b : Bool). cond b (sent ∷ g ∷ fs) (g ∷ placed sent fs)) test
replaced_is sent (f ∷ fs) (suc index) within below next =
    let test : nat_le sent.first f.first ≡ false = grind (arith, nat_tests, below 0 f (omega arith) refl) in
    let after : suc index + 1 ≡ suc (index + 1) = omega arith in
    ap (λ (b : Bool). cond b (sent ∷ f ∷ remove fs index) (f ∷ placed sent (remove fs index))) test
    ∙ ap (λ (t : List Flight). f ∷ t) (replaced_is sent fs index (omega (arith, within))
    (λ i g before other. below (suc i) g (omega (arith, before)) other)
    (λ g there. next g (ap (slice_get (f ∷ fs)) after ∙ there)))

pub placed_ascending : (low : ℕ) (sent : Flight) (fs : List Flight) → is_ascending low fs ≡ true → low ≤ sent.first →
    is_ascending low (placed sent fs) ≡ true
placed_ascending low sent [] sorted from = grind (arith, nat_tests, from)
placed_ascending low sent (f ∷ fs) sorted from =
    let rest : is_ascending f.first fs ≡ true = grind (arith, sorted) in
    let here : low ≤ f.first = grind (arith, nat_tests, sorted) in
    elim (cases_lt f.first sent.first) [
      | inl below ↦
          let test : nat_le sent.first f.first ≡ false = grind (arith, nat_tests, below) in
          let more = placed_ascending f.first sent fs rest (omega (arith, below)) in
          let all : is_ascending low (f ∷ placed sent fs) ≡ true = grind (arith, nat_tests, here, more) in
          ap (λ (b : Bool). is_ascending low (cond b (sent ∷ f ∷ fs) (f ∷ placed sent fs))) test ∙ all
      | inr above ↦
          let test : nat_le sent.first f.first ≡ true = grind (arith, nat_tests, above) in
          let all : is_ascending low (sent ∷ f ∷ fs) ≡ true = grind (arith, nat_tests, from, above, rest) in
          ap (λ (b : Bool). is_ascending low (cond b (sent ∷ f ∷ fs) (f ∷ placed sent fs))) test ∙ all
    ]

pub placed_length : (sent : Flight) (fs : List Flight) → length (placed sent fs) ≡ length fs + 1
placed_length sent [] = refl
placed_length sent (f ∷ fs) =
    elim (nat_le sent.first f.first) as (λ b. length (cond b (sent ∷ f ∷ fs) (f ∷ placed sent fs)) ≡ length (f ∷ fs) + 1) [
      | true ↦ omega arith
      | false ↦ omega (arith, placed_length sent fs)
    ]

pub lower_ascending : (low lower : ℕ) (fs : List Flight) → is_ascending low fs ≡ true → lower ≤ low →
    is_ascending lower fs ≡ true
lower_ascending low lower [] sorted order = refl
lower_ascending low lower (f ∷ fs) sorted order = grind (arith, nat_tests, sorted, order)

pub removed_ascending : (low : ℕ) (fs : List Flight) (index : ℕ) → is_ascending low fs ≡ true →
    is_ascending low (remove fs index) ≡ true
removed_ascending low [] zero sorted = refl
removed_ascending low [] (suc index) sorted = refl
removed_ascending low (f ∷ fs) zero sorted =
    let rest : is_ascending f.first fs ≡ true = grind (arith, sorted) in
    let here : low ≤ f.first = grind (arith, nat_tests, sorted) in
    lower_ascending f.first low fs rest here
removed_ascending low (f ∷ fs) (suc index) sorted =
    let rest : is_ascending f.first fs ≡ true = grind (arith, sorted) in
    let here : low ≤ f.first = grind (arith, nat_tests, sorted) in
    let more = removed_ascending f.first fs index rest in
    grind (arith, nat_tests, here, more)

pub none_more : (p : Flight → Bool) (fs : List Flight) (index : ℕ) (f : Flight) → slice_get fs index ≡ Some f →
    NonePass p fs index → p f ≡ false → NonePass p fs (index + 1)
none_more p fs index f there none fails i g before other =
    elim (cases_lt i index) [
      | inl earlier ↦ none i g earlier other
      | inr after ↦
          let at : i ≡ index = omega (arith, before, after) in
          let same : Some g ≡ Some f = sym other ∙ ap (slice_get fs) at ∙ there in
          let is : g ≡ f = grind (arith, same) in
          ap p is ∙ fails
    ]

-- The table after a request was sent is in order, and no longer than its places allow.
pub sent_ascending : (sent : Flight) (leaves : Option ℕ) (fs : List Flight) → is_ascending 0 fs ≡ true →
    is_ascending 0 (placed sent (without leaves fs)) ≡ true
sent_ascending sent None fs sorted = placed_ascending 0 sent fs sorted (omega arith)
sent_ascending sent (Some index) fs sorted =
    placed_ascending 0 sent (remove fs index) (removed_ascending 0 fs index sorted) (omega arith)

pub sent_length : (sent : Flight) (fs : List Flight) (places now : ℕ) (leaves : Option ℕ) →
    CanLeave fs places now leaves → length fs ≤ places → length (placed sent (without leaves fs)) ≤ places
sent_length sent fs places now None can few = omega (arith, can, placed_length sent fs)
sent_length sent fs places now (Some index) can few =
    omega (
      arith,
      few,
      placed_length sent (remove fs index),
      length-remove fs index (slice_get_within fs index can.flight can.there),
    )
