-- Runs, step by step.
use Rattle.std.proofs.Common.{◌≡◌, ℕ, ◌+◌, ◌<◌, List, [], ◌∷◌, ◌++◌, Option, zero, suc, arith, true}
use Rattle.std.proofs.Common.{refl, ap, ◌∙◌, sym, subst, get_or, length, take}
use Rattle.std.proofs.lemmas.List.{take_more}
use Rattle.std.specs.List.{list_all}
use Rattle.mold_pacing.specs.Run.{IsRun, Takes, can_step}
use Rattle.mold_pacing.specs.declared.ask.Ask.{Ask}
use Rattle.mold_pacing.specs.declared.pacer.Pacer.{Pacer}
use Rattle.mold_pacing.specs.declared.step.Step.{Step}
use Rattle.mold_pacing.specs.declared.step.Step.TheVariants.{Advance}

pub run_more : (old mid new : Pacer) (steps : List Step) (asks : List (Option Ask)) (step : Step) (ask : Option Ask) →
    IsRun old mid steps asks → Takes mid new step ask → IsRun old new (steps ++ step ∷ []) (asks ++ ask ∷ [])
run_more old mid new [] [] step ask ran takes =
    let From : Pacer → Type 0 = λ p. Takes p new step ask in
    (new, subst From ran takes, refl)
run_more old mid new [] (a ∷ asks) step ask ran takes = absurd ran
run_more old mid new (s ∷ steps) [] step ask ran takes = absurd ran
run_more old mid new (s ∷ steps) (a ∷ asks) step ask ran takes =
    (ran.0, ran.1, run_more ran.0 mid new steps asks step ask ran.2 takes)

pub run_next : (old mid new : Pacer) (steps : List Step) (index : ℕ) (asks more : List (Option Ask)) (step : Step)
    (ask : Option Ask) → index < length steps → step ≡ get_or steps index step → IsRun old mid (take index steps) asks →
    Takes mid new step ask → more ≡ asks ++ ask ∷ [] → IsRun old new (take (index + 1) steps) more
run_next old mid new steps index asks more step ask within is ran takes longer =
    let Steps : List Step → Type 0 = λ t. IsRun old new t (asks ++ ask ∷ []) in
    let Asks : List (Option Ask) → Type 0 = λ t. IsRun old new (take (index + 1) steps) t in
    let taken = take_more steps index step within ∙ ap (λ (s : Step). take index steps ++ s ∷ []) (sym is) in
    subst Asks (sym longer) (subst Steps (sym taken) (run_more old mid new (take index steps) asks step ask ran takes))

pub can_next : (steps : List Step) (index : ℕ) → list_all can_step steps ≡ true → index < length steps →
    can_step (get_or steps index (Advance 0 0)) ≡ true
can_next [] index can within = absurd (omega (arith, within))
can_next (s ∷ steps) zero can within = grind (arith, can)
can_next (s ∷ steps) (suc index) can within =
    let rest : list_all can_step steps ≡ true = grind (arith, can) in
    can_next steps index rest (omega (arith, within))
