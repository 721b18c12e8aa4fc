-- What a pacer learns of a datagram.
use Rattle.std.proofs.Common.{◌≡◌, true, false, ℕ, ◌<◌, ◌≤◌, List, [], ◌∷◌, ◌++◌, ◌==◌, ◌&&◌, Bool, max, ◌-◌, map, nat_lt, not, cond, Option, None, refl, subst, sym, ap, ◌∙◌, arith}
use Rattle.std.proofs.lemmas.Bool.Decides.{nat_tests}
use Rattle.mold_pacing.specs.Responses.{after_arrival}
use Rattle.mold_pacing.specs.Run.{Takes}
use Rattle.mold_pacing.specs.State.{advanced}
use Rattle.mold_pacing.specs.declared.gap.Gap.{Gap}
use Rattle.mold_pacing.specs.declared.pacer.Pacer.{Pacer}
use Rattle.mold_pacing.specs.declared.state.PacerState.{PacerState}
use Rattle.mold_pacing.specs.declared.step.Step.{Step}
use Rattle.mold_pacing.specs.declared.step.Step.TheVariants.{Adapt, Advance, Arrive}
use Rattle.mold_receiver.specs.View.{View}
use Rattle.mold_repair.specs.Came.{came_steps, filled_steps, held_from, range, response_steps}
use Rattle.mold_pacing.specs.declared.flight.Flight.{Flight}
use Rattle.mold_pacing.specs.Delays.{patience_for}
use Rattle.mold_pacing.specs.declared.delays.Delays.{Delays}
use Rattle.mold_repair.specs.Taking.{HasLearned, HasPassed}
use Rattle.mold_repair.specs.Timing.{adapted_from, is_line, is_timed}
use Rattle.mold_repair.specs.declared.header.Head.{Head}
use Rattle.mold_repair.specs.declared.options.RepairOptions.{RepairOptions}
use Rattle.mold_repair.specs.declared.origin.RepairOrigin.{RepairOrigin}

-- The pacer that took no step.
pub learned_none : (p : Pacer) → HasLearned p p []
learned_none p = refl

pub run_more : (p q r : Pacer) (steps more : List Step) → HasLearned p q steps → HasLearned q r more →
    HasLearned p r (steps ++ more)
run_more p q r [] more first then = subst (λ (s : Pacer). HasLearned s r more) first then
run_more p q r (step ∷ steps) more first then =
    (first.0, first.1, run_more first.0 q r steps more first.2 then)

pub came_none : (origin : RepairOrigin) (came : Gap) (v : View) (request : Option Flight) → came.end ≤ came.first →
    came_steps origin came v request ≡ []
came_none origin came v request empty =
    let off : nat_lt came.first came.end ≡ false = grind (arith, nat_tests, empty) in
    ap (λ b. cond b (response_steps origin came ++ (Arrive (held_from v came.first) ∷ filled_steps v request)) []) off

pub came_some : (origin : RepairOrigin) (came : Gap) (v : View) (request : Option Flight) → came.first < came.end →
    came_steps origin came v request
    ≡ response_steps origin came ++ (Arrive (held_from v came.first) ∷ filled_steps v request)
came_some origin came v request some =
    let on : nat_lt came.first came.end ≡ true = grind (arith, nat_tests, some) in
    ap (λ b. cond b (response_steps origin came ++ (Arrive (held_from v came.first) ∷ filled_steps v request)) []) on

pub came_all : (origin : RepairOrigin) (came : Gap) (v : View) (request : Option Flight) (old p q new : Pacer) →
    came.first < came.end → HasLearned old p (response_steps origin came) →
    HasLearned p q (Arrive (held_from v came.first) ∷ []) → HasLearned q new (filled_steps v request) →
    HasLearned old new (came_steps origin came v request)
came_all origin came v request old p q new some first then last =
    subst (HasLearned old new) (sym (came_some origin came v request some))
    (run_more old p new (response_steps origin came) (Arrive (held_from v came.first) ∷ filled_steps v request) first
    (run_more p q new (Arrive (held_from v came.first) ∷ []) (filled_steps v request) then last))

pub advanced_by : (now known : ℕ) (v : View) (old new : Pacer) → known ≡ v.known → new.options ≡ old.options
    → new.state ≡ advanced now known old.state → new.flights.items ≡ old.flights.items
    → Takes old new (Advance now v.known) None
advanced_by now known v old new is options state flights = record {
  none = refl;
  becomes = state ∙ ap (λ k. advanced now k old.state) is;
  table = flights;
  options = options;
}

pub arrived_by : (next : ℕ) (v : View) (old new : Pacer) → next ≡ v.next → new.options ≡ old.options
    → new.state ≡ old.state → new.flights.items ≡ map (after_arrival old.state.now 0 next) old.flights.items
    → Takes old new (Arrive (range 0 v.next)) None
arrived_by next v old new is options state flights = record {
  none = refl;
  becomes = state;
  table = flights ∙ ap (λ n. map (after_arrival old.state.now 0 n) old.flights.items) is;
  options = options;
}

pub passed : (now known : ℕ) (v : View) (old new : Pacer) → known ≡ v.known → new.options ≡ old.options
    → new.state ≡ advanced now known old.state → new.flights.items ≡ old.flights.items → HasPassed now v old new
passed now known v old new is options state flights =
    (new, advanced_by now known v old new is options state flights, refl)

pub learned_all : (now : ℕ) (flag : Bool) (before : View) (steps more : List Step) (old p q new : Pacer)
    → HasPassed now before old p → flag ≡ nat_lt before.next before.known → HasLearned p q (cond flag steps [])
    → HasLearned q new more
    → HasLearned old new (Advance now before.known ∷ (cond (nat_lt before.next before.known) steps [] ++ more))
learned_all now flag before steps more old p q new took is learned adapted =
    let both = run_more p q new (cond flag steps []) more learned adapted in
    let same = ap (λ (b : Bool). cond b steps [] ++ more) is in (
      took.0,
      took.1,
      subst (λ (s : Pacer). HasLearned s new (cond (nat_lt before.next before.known) steps [] ++ more))
          took.2 (subst (HasLearned p new) same both),
    )

pub adapted_none : (options : RepairOptions) (origin : RepairOrigin) (came : Head) (delays : Delays) (p : Pacer) →
    is_timed options origin came ≡ false → HasLearned p p (adapted_from options origin came delays)
adapted_none options origin came delays p off =
    subst (λ (b : Bool). HasLearned p p (cond b (Adapt (patience_for delays.recent.items) ∷ []) [])) (sym off) refl

pub adapted_some : (options : RepairOptions) (origin : RepairOrigin) (came : Head) (delays : Delays) (p q : Pacer)
    → is_timed options origin came ≡ true → Takes p q (Adapt (patience_for delays.recent.items)) None
    → HasLearned p q (adapted_from options origin came delays)
adapted_some options origin came delays p q on took =
    subst (λ (b : Bool). HasLearned p q (cond b (Adapt (patience_for delays.recent.items) ∷ []) [])) (sym on) (q, took, refl)

pub not_timed : (options : RepairOptions) (origin : RepairOrigin) (came : Head) → (options.patience ≡ 0 → ⊥) →
    is_timed options origin came ≡ false
not_timed options origin came some =
    let off : (options.patience == 0) ≡ false = grind (arith, nat_tests, some) in
    ap (λ b. b && (is_line origin && not (came.first == came.end))) off

now_of : (b : Bool) (s t : PacerState) → t.now ≡ s.now → (cond b s t).now ≡ s.now
now_of true s t same = refl
now_of false s t same = same

pub advanced_now : (time known : ℕ) (s : PacerState) → (advanced time known s).now ≡ max s.now time
advanced_now time known s =
    now_of (nat_lt (max s.now time - s.marked) s.patience) (record s { now = max s.now time })
    (record s { now = max s.now time; marked = max s.now time; mark = known; ripe = s.mark }) refl
