-- Runs, step by step.
use Rattle.std.proofs.Common.{◌≡◌, ℕ, ◌+◌, ◌<◌, List, [], ◌∷◌, ◌++◌, zero, suc, arith, true}
use Rattle.std.proofs.Common.{refl, ap, ◌∙◌, sym, subst, get_or, length, take}
use Rattle.std.proofs.lemmas.List.{take_more}
use Rattle.std.specs.List.{list_all}
use Rattle.mold_repair.specs.Run.{IsRepaired, IsStepOf, can_step}
use Rattle.mold_repair.specs.declared.outcome.Outcome.{Outcome}
use Rattle.mold_repair.specs.declared.repairer.Repairer.{Repairer}
use Rattle.mold_repair.specs.declared.step.RepairStep.{RepairStep}
use Rattle.mold_repair.specs.declared.step.RepairStep.TheVariants.{Pass}

pub repaired_more : (old mid new : Repairer) (steps : List RepairStep) (outcomes : List Outcome) (step : RepairStep)
    (outcome : Outcome) → IsRepaired old mid steps outcomes → IsStepOf mid new step outcome →
    IsRepaired old new (steps ++ step ∷ []) (outcomes ++ outcome ∷ [])
repaired_more old mid new [] [] step outcome ran takes =
    let From : Repairer → Type 0 = λ p. IsStepOf p new step outcome in
    (new, subst From ran takes, refl)
repaired_more old mid new [] (a ∷ outcomes) step outcome ran takes = absurd ran
repaired_more old mid new (s ∷ steps) [] step outcome ran takes = absurd ran
repaired_more old mid new (s ∷ steps) (a ∷ outcomes) step outcome ran takes =
    (ran.0, ran.1, repaired_more ran.0 mid new steps outcomes step outcome ran.2 takes)

pub repaired_next : (old mid new : Repairer) (steps : List RepairStep) (index : ℕ) (outcomes more : List Outcome)
    (step : RepairStep) (outcome : Outcome) → index < length steps → step ≡ get_or steps index step
    → IsRepaired old mid (take index steps) outcomes → IsStepOf mid new step outcome → more ≡ outcomes ++ outcome ∷ []
    → IsRepaired old new (take (index + 1) steps) more
repaired_next old mid new steps index outcomes more step outcome within is ran takes longer =
    let Steps : List RepairStep → Type 0 = λ t. IsRepaired old new t (outcomes ++ outcome ∷ []) in
    let Outcomes : List Outcome → Type 0 = λ t. IsRepaired old new (take (index + 1) steps) t in
    let taken = take_more steps index step within ∙ ap (λ (s : RepairStep). take index steps ++ s ∷ []) (sym is) in
    subst Outcomes (sym longer)
    (subst Steps (sym taken) (repaired_more old mid new (take index steps) outcomes step outcome ran takes))

pub can_next : (steps : List RepairStep) (index : ℕ) → list_all can_step steps ≡ true → index < length steps →
    can_step (get_or steps index (Pass 0)) ≡ true
can_next [] index can within = absurd (omega (arith, within))
can_next (s ∷ steps) zero can within = grind (arith, can)
can_next (s ∷ steps) (suc index) can within =
    let rest : list_all can_step steps ≡ true = grind (arith, can) in
    can_next steps index rest (omega (arith, within))
