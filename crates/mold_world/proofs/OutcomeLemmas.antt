-- Outcomes of events, and refusals.
use Rattle.std.proofs.Common.{◌≡◌, subst}
use Rattle.std.specs.Prelude.{Ok, Err}
use Rattle.mold_world.specs.Effect.{Outcome}
use Rattle.mold_world.specs.World.{WorldState}
use Rattle.mold_world.specs.declared.report.Report.{Report}
use Rattle.mold_world.specs.declared.report.WorldError.{WorldError}

-- Equal outcomes have the same properties.
pub ok_so :
    (P : Report × WorldState → Type 0) (here done : Report × WorldState) →
    ◌≡◌ {A = Outcome} (Ok here) (Ok done) → P here → P done
ok_so P here done same holds =
    let path : here ≡ done = (let e = same in cc) in
    subst P path holds

pub err_so :
    (P : Report × WorldState → Type 0) (refused : WorldError) (done : Report × WorldState) →
    ◌≡◌ {A = Outcome} (Err refused) (Ok done) → P done
err_so P refused done same = absurd (let e = same in cc)

-- An outcome is not a refusal.
pub ok_refused :
    {P : Type 0} (done : Report × WorldState) (error : WorldError) → ◌≡◌ {A = Outcome} (Ok done) (Err error) → P
ok_refused done error same = absurd (let e = same in cc)
