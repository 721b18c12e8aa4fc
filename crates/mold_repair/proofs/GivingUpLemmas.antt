-- Giving up.
use Rattle.std.proofs.Common.{◌≡◌, ℕ, suc, ◌<◌, ◌≤◌, ◌&&◌, Bool, true, false, List, [], ◌∷◌, None, Some, find}
use Rattle.std.proofs.Common.{nat_le, nat_lt, slice_get, refl, subst, sym, ap, ◌∙◌, arith, inl, inr, cond, min, max, is_some}
use Rattle.std.proofs.lemmas.Bool.{cases_lt}
use Rattle.std.proofs.lemmas.Bool.Decides.{nat_tests}
use Rattle.std.specs.FinMap as finite
use Rattle.mold_pacing.specs.Flight.{is_ascending, is_stale}
use Rattle.mold_pacing.specs.Repeat.{attempts_of}
use Rattle.mold_pacing.specs.declared.flight.Flight.{Flight}
use Rattle.mold_pacing.specs.declared.pacer.Pacer.{Pacer}
use Rattle.mold_receiver.specs.View.{IsWellFormed, View}
use Rattle.mold_receiver.specs.Wanted.{IsNextGap}
use Rattle.mold_receiver.specs.declared.gap.Gap.{Gap as Found}
use Rattle.mold_repair.specs.Came.{range}
use Rattle.mold_repair.specs.GivingUp.{IsGivenUp, attempts_at, is_due}
use Rattle.mold_repair.proofs.GapLemmas.{true_is_false}

-- A request that is found passes the test, and doesn't begin below the table.
found_passes : (p : Flight → Bool) (fs : List Flight) (f : Flight) → find p fs ≡ Some f → p f ≡ true
found_passes p [] f there = absurd (let none : ⊥ = cc in none)
found_passes p (g ∷ gs) f there =
    elim (p g) as (λ b. p g ≡ b → cond b (Some g) (find p gs) ≡ Some f → p f ≡ true) [
      | true ↦ λ passes found. (let same : g ≡ f = grind (arith, found) in sym (ap p same) ∙ passes)
      | false ↦ λ fails found. found_passes p gs f found
    ] refl there

found_above : (p : Flight → Bool) (low : ℕ) (fs : List Flight) (f : Flight) → is_ascending low fs ≡ true →
    find p fs ≡ Some f → low ≤ f.first
found_above p low [] f sorted there = absurd (let none : ⊥ = cc in none)
found_above p low (g ∷ gs) f sorted there =
    let from : low ≤ g.first = grind (arith, nat_tests, sorted) in
    let rest : is_ascending g.first gs ≡ true = grind (arith, sorted) in
    elim (p g) as (λ b. cond b (Some g) (find p gs) ≡ Some f → low ≤ f.first) [
      | true ↦ λ found. (let same : g ≡ f = grind (arith, found) in omega (arith, from, ap (λ (h : Flight). h.first) same))
      | false ↦ λ found. omega (arith, from, found_above p g.first gs f rest found)
    ] there

stale_first : (now number : ℕ) (f : Flight) → is_stale now number f ≡ true → f.first ≤ number
stale_first now number f stale = grind (arith, nat_tests, stale)

stale_also : (now next number : ℕ) (f : Flight) → is_stale now next f ≡ true → next ≤ number → number < f.end →
    is_stale now number f ≡ true
stale_also now next number f stale from below = grind (arith, nat_tests, stale, from, below)

stale_before : (now next number : ℕ) (f : Flight) → is_stale now number f ≡ true → f.first ≤ next → next ≤ number →
    is_stale now next f ≡ true
stale_before now next number f stale from below = grind (arith, nat_tests, stale, from, below)

-- The last request for a number is also that for each greater number that it asked for.
pub found_same : (low now next number : ℕ) (fs : List Flight) (f : Flight) → is_ascending low fs ≡ true
    → find (is_stale now next) fs ≡ Some f → next ≤ number → number < f.end → find (is_stale now number) fs ≡ Some f
found_same low now next number [] f sorted there from below = absurd (let none : ⊥ = cc in none)
found_same low now next number (g ∷ gs) f sorted there from below =
    let rest : is_ascending g.first gs ≡ true = grind (arith, sorted) in
    elim (is_stale now next g) as (λ b. is_stale now next g ≡ b → cond b (Some g) (find (is_stale now next) gs) ≡ Some f →
    cond (is_stale now number g) (Some g) (find (is_stale now number) gs) ≡ Some f) [
      | true ↦ λ stale found.
          let same : g ≡ f = grind (arith, found) in
          let also = stale_also now next number g stale from (omega (arith, below, ap (λ (h : Flight). h.end) same)) in
          ap (λ b. cond b (Some g) (find (is_stale now number) gs)) also ∙ ap Some same
      | false ↦ λ fresh found.
          let first = found_above (is_stale now next) g.first gs f rest found in
          let passes = stale_first now next f (found_passes (is_stale now next) gs f found) in
          elim (is_stale now number g) as (λ b. is_stale now number g ≡ b →
          cond b (Some g) (find (is_stale now number) gs) ≡ Some f) [
            | true ↦ λ stale.
                let before = stale_before now next number g stale (omega (arith, first, passes)) from in
                absurd (true_is_false (sym before ∙ fresh))
            | false ↦ λ off. found_same g.first now next number gs f rest found from below
          ] refl
    ] refl there

-- The message `next` is missing.
pub next_lacked : (v : View) → IsWellFormed v → finite.get v.store v.next ≡ None
next_lacked v well =
    elim (finite.get v.store v.next) as (λ m. finite.get v.store v.next ≡ m → m ≡ None) [
      | None ↦ λ is. refl
      | Some message ↦ λ is. absurd (omega (arith, (well.stored v.next message is).0))
    ] refl

pub begins : (v : View) (next : ℕ) (gap : Found) → IsWellFormed v → next ≡ v.next → IsNextGap v (max next v.next) gap →
    gap.first ≡ v.next
begins v next gap well is found =
    elim (cases_lt v.next gap.first) [
      | inl later ↦
          let held = found.held v.next (omega (arith, is)) later in
          absurd (true_is_false (sym held ∙ ap is_some (next_lacked v well)))
      | inr not_later ↦ omega (arith, not_later, found.after)
    ]

pub given_up_is : (give_up : ℕ) (v : View) (p : Pacer) (next end : ℕ) (request : Flight) (gap : Found) → 0 < give_up
    → IsWellFormed v → next ≡ v.next → find (is_stale p.state.now next) p.flights.items ≡ Some request
    → give_up ≤ request.attempts → IsNextGap v (max next v.next) gap → end ≡ min gap.end request.end
    → IsGivenUp give_up v p (range next end)
given_up_is give_up v p next end request gap allowed well is last often found at =
    let now = p.state.now in
    let first = begins v next gap well is found in
    let passes = found_passes (is_stale now next) p.flights.items request last in
    let asked : next < request.end = grind (arith, nat_tests, passes) in
    record {
      allowed = allowed;
      first = is;
      some = omega (arith, at, asked, found.some, first, is);
      missing = (
        omega (arith, at, found.within),
        λ number from below.
            found.lacked number (omega (arith, first, from)) (omega (arith, at, below)),
      );
      asked = λ number from below.
          let same = found_same 0 now next number p.flights.items request p.sorted last from (omega (arith, at, below)) in
          subst (λ n. give_up ≤ n) (sym (ap attempts_of same)) often;
      request = request;
      last = subst (λ n. find (is_stale now n) p.flights.items ≡ Some request) is last;
      stops = elim (cases_lt gap.end request.end) [
        | inl short ↦ inr (λ missing.
            let is_end : end ≡ gap.end = omega (arith, at, short) in
            elim found.stops [
              | inl known ↦ omega (arith, is_end, known, missing.below)
              | inr stored ↦
                  true_is_false (sym stored ∙ ap is_some (ap (finite.get v.store) (sym is_end) ∙ missing.lacked))
            ])
        | inr long ↦ inl (omega (arith, at, long))
      ];
    }

over_still : (time now until : ℕ) → now ≤ time → (until ≤ time → until ≤ now) → nat_le until time ≡ nat_le until now
over_still time now until later same =
    elim (cases_lt time until) [
      | inl waits ↦
          let off : nat_le until time ≡ false = grind (arith, nat_tests, waits) in
          let off_now : nat_le until now ≡ false = grind (arith, nat_tests, waits, later) in
          off ∙ sym off_now
      | inr past ↦
          let on : nat_le until time ≡ true = grind (arith, nat_tests, past) in
          let early = same past in
          let on_now : nat_le until now ≡ true = grind (arith, nat_tests, early) in
          on ∙ sym on_now
    ]

find_still : (time now number : ℕ) (fs : List Flight) → now ≤ time
    → ((i : ℕ) (f : Flight) → slice_get fs i ≡ Some f → f.until ≤ time → f.until ≤ now)
    → find (is_stale time number) fs ≡ find (is_stale now number) fs
find_still time now number [] later same = refl
find_still time now number (f ∷ fs) later same =
    let here = over_still time now f.until later (same 0 f refl) in
    let rest = find_still time now number fs later (λ i g there. same (suc i) g there) in
    (λ i. cond (here i && (nat_le f.first number && nat_lt number f.end)) (Some f) (rest i))

-- If nothing is given up now, nothing is until a request in flight is over.
pub due_later : (give_up : ℕ) (v : View) (p : Pacer) (time : ℕ) → is_due give_up v p p.state.now ≡ false
    → p.state.now ≤ time
    → ((i : ℕ) (f : Flight) → 0 < give_up → slice_get p.flights.items i ≡ Some f → f.until ≤ time → f.until ≤ p.state.now)
    → is_due give_up v p time ≡ false
due_later give_up v p time off later same =
    elim (cases_lt 0 give_up) [
      | inl allowed ↦
          ap (λ r. nat_lt 0 give_up && (nat_lt v.next v.known && nat_le give_up (attempts_of r)))
          (find_still time p.state.now v.next p.flights.items later (λ i f there past. same i f allowed there past)) ∙ off
      | inr never ↦
          let zero_test : nat_lt 0 give_up ≡ false = grind (arith, nat_tests, never) in
          ap (λ b. b && (nat_lt v.next v.known && nat_le give_up (attempts_at p time v.next))) zero_test
    ]
