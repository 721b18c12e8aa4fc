-- The restart of a receiver, and why it is refused.
use Rattle.std.specs.Prelude.{◌≡◌, ◌⊎◌, ℕ, ◌≤◌, Result, Ok, Err}
use Rattle.mold_world.specs.Effect.{restarted_at}
use Rattle.mold_world.specs.World.{SubscriberState}
use Rattle.mold_world.specs.declared.report.Report.{Report}
use Rattle.mold_world.specs.declared.report.Report.TheVariants as report
use Rattle.mold_world.specs.declared.report.WorldError.{WorldError}
use Rattle.mold_world.specs.declared.report.WorldError.TheVariants.{Memory, NotReached}

-- The receiver had reached the number, which is at least 1.
abbrev pub HasReached : SubscriberState → ℕ → Type 0
HasReached subscriber next = (1 ≤ next) × (next ≤ subscriber.arbitration.view.next)

-- The result of a restart. The receiver restarts if it had reached the number. Otherwise, or if an allocation fails,
-- it is unchanged and the error states the reason.
abbrev pub Restarts : SubscriberState → ℕ → Result Report WorldError → SubscriberState → Type 0
Restarts old next (Ok told) new = HasReached old next × (told ≡ report.Restarted next) × (new ≡ restarted_at old next)
Restarts old next (Err error) new = (new ≡ old) × ((HasReached old next × (error ≡ Memory))
    ⊎ ((HasReached old next → ⊥) × (error ≡ NotReached old.arbitration.view.next)))
