-- A number of steps, each of which may be the last.
use Rattle.std.proofs.Common.{◌≡◌, ℕ, zero, suc, ◌+◌, ◌-◌, ◌<◌, ◌≤◌, Option, None, Some, refl, ap, ◌∙◌, arith}
use Rattle.mold_frame.specs.Steps.{after_steps}

-- There is no step from this state.
pub stopped :
    {S : Type 0} (step : S → Option S) (most : ℕ) (state : S) → step state ≡ None →
    after_steps step most state ≡ state
unfolding after_steps
stopped step zero state none = refl
stopped step (suc most) state none = rw none refl

-- There is a step from this state.
pub first_step :
    {S : Type 0} (step : S → Option S) (most : ℕ) (state next : S) → step state ≡ Some next →
    after_steps step (suc most) state ≡ after_steps step most next
unfolding after_steps
first_step step most state next some = rw some refl

-- The same after `done` steps.
pub stepped :
    {S : Type 0} (step : S → Option S) (most done : ℕ) (state next : S) → done < most → step state ≡ Some next →
    after_steps step (most - done) state ≡ after_steps step (most - (done + 1)) next
stepped step most done state next more some =
    let one : most - done ≡ suc (most - (done + 1)) = omega arith in
    ap (λ n. after_steps step n state) one ∙ first_step step (most - (done + 1)) state next some

-- All steps were made.
pub all_made :
    {S : Type 0} (step : S → Option S) (most done : ℕ) (state : S) → most ≤ done →
    after_steps step (most - done) state ≡ state
unfolding after_steps
all_made step most done state all =
    let none : most - done ≡ 0 = omega arith in
    ap (λ n. after_steps step n state) none
