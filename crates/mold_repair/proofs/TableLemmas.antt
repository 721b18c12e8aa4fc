-- The requests of a table, and what becomes of them without a poll.
use Rattle.std.proofs.Common.{◌≡◌, ◌⊎◌, ℕ, zero, suc, ◌+◌, ◌<◌, ◌≤◌, ◌||◌, max, min, nat_le, Bool, true, false, cond}
use Rattle.std.proofs.Common.{List, [], ◌∷◌, ◌++◌, map, Option, None, Some, refl, ap, ◌∙◌, sym, subst, arith, inl, inr}
use Rattle.std.specs.Prelude.{find, remove, slice_get}
use Rattle.std.specs.List.{list_any}
use Rattle.std.proofs.lemmas.Bool.{true≢false, cases_Bool, cond-false, cond-true}
use Rattle.std.proofs.lemmas.Bool.Decides.{nat_tests}
use Rattle.mold_pacing.specs.Responses.{after_arrival, after_response, has_come, is_response_to}
use Rattle.mold_pacing.specs.Run.{Takes}
use Rattle.mold_pacing.specs.State.{responded}
use Rattle.mold_pacing.specs.Table.{placed, without}
use Rattle.mold_pacing.specs.declared.flight.Flight.{Flight}
use Rattle.mold_pacing.specs.declared.gap.Gap.{Gap}
use Rattle.mold_pacing.specs.declared.options.PacerOptions.{PacerOptions}
use Rattle.mold_pacing.specs.declared.pacer.Pacer.{Pacer}
use Rattle.mold_pacing.specs.declared.state.PacerState.{PacerState}
use Rattle.mold_pacing.specs.declared.step.Step.{Step}
use Rattle.mold_pacing.specs.declared.step.Step.TheVariants.{Adapt, Advance, Arrive, Poll as PollGaps, Respond}
use Rattle.mold_repair.specs.Taking.{HasLearned}
use Rattle.mold_repair.proofs.FrugalLemmas.{NonePolls}
use Rattle.mold_repair.proofs.TakingLemmas.{advanced_now}

none_some : {X : Type 0} {x : X} → ◌≡◌ {A = Option X} None (Some x) → ⊥
none_some e = cc

some_same : {x y : Flight} → ◌≡◌ {A = Option Flight} (Some x) (Some y) → x ≡ y
some_same e = cc

-- The request is in the table.
abbrev pub In : Flight → List Flight → Type 0
In f [] = ⊥
In f (x ∷ xs) = (x ≡ f) ⊎ In f xs

pub in_at : (fs : List Flight) (i : ℕ) (f : Flight) → slice_get fs i ≡ Some f → In f fs
in_at [] i f is = absurd (none_some is)
in_at (x ∷ xs) zero f is = inl (some_same is)
in_at (x ∷ xs) (suc i) f is = inr (in_at xs i f is)

in_map : (h : Flight → Flight) (fs : List Flight) (f : Flight) → In f (map h fs) →
    (g : Flight) × (In g fs × (h g ≡ f))
in_map h [] f is = absurd is
in_map h (x ∷ xs) f (inl here) = (x, (inl refl, here))
in_map h (x ∷ xs) f (inr there) = let found = in_map h xs f there in (found.0, (inr found.1.0, found.1.1))

in_removed : (fs : List Flight) (i : ℕ) (f : Flight) → In f (remove fs i) → In f fs
in_removed [] zero f is = is
in_removed [] (suc i) f is = is
in_removed (x ∷ xs) zero f is = inr is
in_removed (x ∷ xs) (suc i) f (inl here) = inl here
in_removed (x ∷ xs) (suc i) f (inr there) = inr (in_removed xs i f there)

pub in_without : (leaves : Option ℕ) (fs : List Flight) (f : Flight) → In f (without leaves fs) → In f fs
in_without None fs f is = is
in_without (Some i) fs f is = in_removed fs i f is

pub in_placed : (sent : Flight) (fs : List Flight) (f : Flight) → In f (placed sent fs) → (sent ≡ f) ⊎ In f fs
in_placed sent [] f is = is
in_placed sent (x ∷ xs) f is =
    elim (nat_le sent.first x.first) as (λ b. In f (cond b (sent ∷ x ∷ xs) (x ∷ placed sent xs)) →
    (sent ≡ f) ⊎ In f (x ∷ xs)) [
      | true ↦ λ is. is
      | false ↦ λ is. elim is [
        | inl here ↦ inr (inl here)
        | inr there ↦
            elim (in_placed sent xs f there) [
              | inl new ↦ inl new
              | inr old ↦ inr (inr old)
            ]
      ]
    ] is

pub in_find : (p : Flight → Bool) (fs : List Flight) (f : Flight) → In f fs → p f ≡ true →
    (g : Flight) × ((find p fs ≡ Some g) × (In g fs × (p g ≡ true)))
in_find p [] f is passes = absurd is
in_find p (x ∷ xs) f is passes =
    elim (cases_Bool (p x)) [
      | inl on ↦ (x, (cond-true (p x) (Some x) (find p xs) on, (inl refl, on)))
      | inr off ↦
          elim is [
            | inl here ↦ absurd (true≢false (sym passes ∙ ap p (sym here) ∙ off))
            | inr there ↦
                let found = in_find p xs f there passes in
                (found.0, (cond-false (p x) (Some x) (find p xs) off ∙ found.1.0, (inr found.1.1.0, found.1.1.1)))
          ]
    ]

pub in_any : (p : Flight → Bool) (fs : List Flight) (f : Flight) → In f fs → p f ≡ true → list_any p fs ≡ true
in_any p [] f is passes = absurd is
in_any p (x ∷ xs) f (inl here) passes = ap (λ b. b || list_any p xs) (ap p here ∙ passes)
in_any p (x ∷ xs) f (inr there) passes =
    let rest = in_any p xs f there passes in
    elim (p x) as (λ b. (b || list_any p xs) ≡ true) [
      | true ↦ refl
      | false ↦ rest
    ]

-- A request was in the table before, with the same numbers and no less time.
pub record IsOld (fs : List Flight) (f : Flight) : Type 0 where
  pub before : Flight
  pub there : In before fs
  pub first : f.first ≡ before.first
  pub end : f.end ≡ before.end
  pub until : f.until ≤ before.until

-- No request was added, and none got more time.
pub record Shrinks (p q : Pacer) : Type 0 where
  pub later : p.state.now ≤ q.state.now
  pub old : (f : Flight) → In f q.flights.items → IsOld p.flights.items f

is_itself : (fs : List Flight) (f : Flight) → In f fs → IsOld fs f
is_itself fs f is = record { before = f; there = is; first = refl; end = refl; until = omega arith }

pub shrinks_still : (p q : Pacer) → q.flights.items ≡ p.flights.items → p.state.now ≤ q.state.now → Shrinks p q
shrinks_still p q same later = record {
  later = later;
  old = λ f is. is_itself p.flights.items f (subst (In f) same is);
}

pub shrinks_twice : (p q r : Pacer) → Shrinks p q → Shrinks q r → Shrinks p r
shrinks_twice p q r one two = record {
  later = omega (arith, one.later, two.later);
  old = λ f is.
      let mid = two.old f is in
      let first = one.old mid.before mid.there in
      record {
        before = first.before;
        there = first.there;
        first = mid.first ∙ first.first;
        end = mid.end ∙ first.end;
        until = omega (arith, mid.until, first.until);
      };
}

now_responded : (options : PacerOptions) (server : ℕ) (ended : Option Flight) (s : PacerState) →
    (responded options server ended s).now ≡ s.now
now_responded options server None s = refl
now_responded options server (Some f) s = refl

-- A map over the table that changes no numbers and gives no time.
shrinks_by : (h : Flight → Flight) → ((f : Flight) → ((h f).first ≡ f.first) × (((h f).end ≡ f.end) × ((h f).until ≤ f.until)))
    → (p q : Pacer) → q.flights.items ≡ map h p.flights.items → q.state.now ≡ p.state.now → Shrinks p q
shrinks_by h keeps p q is now = record {
  later = omega (arith, now);
  old = λ f there.
      let found = in_map h p.flights.items f (subst (In f) is there) in
      let g = found.0 in
      let k = keeps g in
      subst (IsOld p.flights.items) found.1.1 (record {
        before = g;
        there = found.1.0;
        first = k.0;
        end = k.1.0;
        until = k.1.1;
      });
}

response_keeps : (settle now first end : ℕ) (f : Flight) →
    let g = after_response settle now first end f in (g.first ≡ f.first) × ((g.end ≡ f.end) × (g.until ≤ f.until))
response_keeps settle now first end f =
    let until = cond (nat_le f.end end) now (min f.until (now + settle)) in
    let changed = record f { until = until; pause = 0; attempts = 0; reached = max f.reached end } in
    elim (cases_Bool (is_response_to now first end f)) [
      | inr off ↦
          subst (λ (g : Flight). (g.first ≡ f.first) × ((g.end ≡ f.end) × (g.until ≤ f.until)))
          (sym (cond-false (is_response_to now first end f) changed f off)) (refl, (refl, omega arith))
      | inl on ↦
          let lasts : now < f.until = grind (arith, nat_tests, on) in
          subst (λ (g : Flight). (g.first ≡ f.first) × ((g.end ≡ f.end) × (g.until ≤ f.until)))
          (sym (cond-true (is_response_to now first end f) changed f on)) (
            refl,
            (
              refl,
              elim (nat_le f.end end) as (λ b. cond b now (min f.until (now + settle)) ≤ f.until) [
                | true ↦ omega (arith, lasts)
                | false ↦ omega arith
              ],
            ),
          )
    ]

arrival_keeps : (now first end : ℕ) (f : Flight) →
    let g = after_arrival now first end f in (g.first ≡ f.first) × ((g.end ≡ f.end) × (g.until ≤ f.until))
arrival_keeps now first end f =
    elim (has_come first end f) as (λ b. let g = cond b (record f { until = min f.until now }) f in
    (g.first ≡ f.first) × ((g.end ≡ f.end) × (g.until ≤ f.until))) [
      | true ↦ (refl, (refl, omega arith))
      | false ↦ (refl, (refl, omega arith))
    ]

-- A step that is not a poll.
pub run_shrinks : (xs : List Step) (p q : Pacer) → NonePolls xs → HasLearned p q xs → Shrinks p q
run_shrinks [] p q none ran =
    shrinks_still p q (ap (λ (s : Pacer). s.flights.items) ran)
    (let now = ap (λ (s : Pacer). s.state.now) ran in omega (arith, now))
run_shrinks (Advance time known ∷ xs) p q none ran =
    let took = ran.1 in
    let now = ap (λ (s : PacerState). s.now) took.becomes ∙ advanced_now time known p.state in
    shrinks_twice p ran.0 q (shrinks_still p ran.0 took.table (omega (arith, now))) (run_shrinks xs ran.0 q none ran.2)
run_shrinks (Adapt patience ∷ xs) p q none ran =
    let took = ran.1 in
    let now = ap (λ (s : PacerState). s.now) took.becomes in
    shrinks_twice p ran.0 q (shrinks_still p ran.0 took.table (omega (arith, now))) (run_shrinks xs ran.0 q none ran.2)
run_shrinks (PollGaps gaps ∷ xs) p q none ran = absurd none
run_shrinks (Respond server came ∷ xs) p q none ran =
    let took = ran.1 in
    let now = ap (λ (s : PacerState). s.now) took.becomes ∙ now_responded p.options server _ p.state in
    shrinks_twice p ran.0 q
    (shrinks_by (after_response p.options.settle p.state.now came.first came.end)
    (response_keeps p.options.settle p.state.now came.first came.end) p ran.0 took.table now)
    (run_shrinks xs ran.0 q none ran.2)
run_shrinks (Arrive came ∷ xs) p q none ran =
    let took = ran.1 in
    let now = ap (λ (s : PacerState). s.now) took.becomes in
    shrinks_twice p ran.0 q
    (shrinks_by (after_arrival p.state.now came.first came.end) (arrival_keeps p.state.now came.first came.end) p ran.0
    took.table now)
    (run_shrinks xs ran.0 q none ran.2)

-- What arrives frees each request that lies in it.
pub arrive_frees : (g : Gap) (p q : Pacer) → Takes p q (Arrive g) None → (f : Flight) → In f q.flights.items →
    q.state.now < f.until → g.first ≤ f.first → f.end ≤ g.end → ⊥
arrive_frees g p q took f is lasts low high =
    let now = ap (λ (s : PacerState). s.now) took.becomes in
    let found = in_map (after_arrival p.state.now g.first g.end) p.flights.items f (subst (In f) took.table is) in
    let before = found.0 in
    let keeps = arrival_keeps p.state.now g.first g.end before in
    let first = ap (λ (x : Flight). x.first) found.1.1 in
    let end = ap (λ (x : Flight). x.end) found.1.1 in
    let starts : g.first ≤ before.first = omega (arith, low, keeps.0, first) in
    let ends : before.end ≤ g.end = omega (arith, high, keeps.1.0, end) in
    let come : has_come g.first g.end before ≡ true = grind (arith, nat_tests, starts, ends) in
    let freed = ap (λ (x : Flight). x.until)
    (cond-true (has_come g.first g.end before) (record before { until = min before.until p.state.now }) before come) in
    let until = ap (λ (x : Flight). x.until) found.1.1 in
    omega (arith, lasts, now, freed, until)

-- The two parts of a run.
pub run_split : (xs ys : List Step) (p q : Pacer) → HasLearned p q (xs ++ ys) →
    (mid : Pacer) × (HasLearned p mid xs × HasLearned mid q ys)
run_split [] ys p q ran = (p, (refl, ran))
run_split (x ∷ xs) ys p q ran =
    let rest = run_split xs ys ran.0 q ran.2 in (rest.0, ((ran.0, ran.1, rest.1.0), rest.1.1))
