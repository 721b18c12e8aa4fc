-- Only numbers that were known a patience ago are ripe.
use Rattle.std.proofs.Common.{◌≡◌, ◌⊎◌, ℕ, ◌+◌, ◌-◌, ◌<◌, ◌≤◌, Bool, true, false, cond, max, nat_lt, refl, ap, sym, arith, inl, inr}
use Rattle.std.proofs.lemmas.Bool.Decides.{nat_tests}
use Rattle.mold_pacing.specs.State.{IsRipened, advanced, fresh}
use Rattle.mold_pacing.specs.declared.options.PacerOptions.{PacerOptions}
use Rattle.mold_pacing.specs.declared.state.PacerState.{PacerState}

pub fresh_ripened : (known_at : ℕ → ℕ) (begin patience : ℕ) (options : PacerOptions) →
    IsRipened known_at begin patience (fresh options begin)
fresh_ripened known_at begin patience options = record { past = omega arith; mark = inr refl; ripe = inl (omega arith) }

pub ripe_now : (known_at : ℕ → ℕ) (begin patience time : ℕ) (s : PacerState) → IsRipened known_at begin patience s →
    s.marked + patience ≤ max s.now time →
    (s.mark ≤ begin) ⊎ ((t : ℕ) × (t + patience ≤ max s.now time) × (s.mark ≡ known_at t))
ripe_now known_at begin patience time s is waited =
    elim is.mark [ inl marked ↦ inr (s.marked, waited, marked) | inr first ↦ inl (omega (arith, first)) ]

pub ripened_by : (known_at : ℕ → ℕ) (begin patience time known : ℕ) (s : PacerState) (early : Bool) →
    nat_lt (max s.now time - s.marked) s.patience ≡ early → patience ≤ s.patience →
    known_at (max s.now time) ≡ known → IsRipened known_at begin patience s →
    IsRipened known_at begin patience (cond {A = PacerState} early
    (record s { now = max s.now time })
    (record s { now = max s.now time; marked = max s.now time; mark = known; ripe = s.mark }))
ripened_by known_at begin patience time known s true test least knows is =
    record { past = omega (arith, is.past); mark = is.mark; ripe = is.ripe }
ripened_by known_at begin patience time known s false test least knows is =
    let waited : s.patience ≤ max s.now time - s.marked = grind (arith, nat_tests, test) in
    record {
      past = omega arith;
      mark = inl (sym knows);
      ripe = ripe_now known_at begin patience time s is (omega (arith, waited, least, is.past));
    }

pub advanced_ripened : (known_at : ℕ → ℕ) (begin patience time known : ℕ) (s : PacerState) →
    patience ≤ s.patience → known_at (max s.now time) ≡ known → IsRipened known_at begin patience s →
    IsRipened known_at begin patience (advanced time known s)
advanced_ripened known_at begin patience time known s least knows is =
    ripened_by known_at begin patience time known s (nat_lt (max s.now time - s.marked) s.patience) refl least knows is

pub ripe_by : (time known : ℕ) (s : PacerState) (early : Bool) → nat_lt (max s.now time - s.marked) s.patience ≡ early →
    (advanced time known s).ripe ≡ cond early s.ripe s.mark
ripe_by time known s true test = ap (λ (b : Bool). (cond {A = PacerState} b (record s { now = max s.now time })
    (record s { now = max s.now time; marked = max s.now time; mark = known; ripe = s.mark })).ripe) test
ripe_by time known s false test = ap (λ (b : Bool). (cond {A = PacerState} b (record s { now = max s.now time })
    (record s { now = max s.now time; marked = max s.now time; mark = known; ripe = s.mark })).ripe) test

-- The mark becomes ripe a patience after it was set, and not before.
pub ripe_from : (time known : ℕ) (s : PacerState) → s.marked + s.patience ≤ time → (advanced time known s).ripe ≡ s.mark
ripe_from time known s past =
    let waited : s.patience ≤ max s.now time - s.marked = omega (arith, past) in
    ripe_by time known s false (grind (arith, nat_tests, waited))

pub ripe_until : (time known : ℕ) (s : PacerState) → max s.now s.marked ≤ time → time < s.marked + s.patience →
    (advanced time known s).ripe ≡ s.ripe
ripe_until time known s after before =
    let waits : max s.now time - s.marked < s.patience = omega (arith, after, before) in
    ripe_by time known s true (grind (arith, nat_tests, waits))
