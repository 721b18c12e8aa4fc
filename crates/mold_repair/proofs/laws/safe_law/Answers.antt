use Rattle.std.proofs.Common.{◌∷◌, refl}
use Rattle.mold_repair.proofs.SafeLemmas.{is_safe, piece_from}
use Rattle.mold_repair.proofs.laws.safe_law.Goals as goal

pub returns-clause-pieces : goal.returns-clause-pieces
returns-clause-pieces c old new steps os ran published closed honest harmless =
    (is_safe (record {
      spelled = c.reading_law.ensures.spelled;
      taken = c.taken_law.ensures;
      takes = c.honest_take_law.ensures;
      skips = c.honest_skip_law.ensures;
    }) published closed old.arbiter.view.session old new steps os ran honest refl harmless).pieces

pub returns-clause-honest : goal.returns-clause-honest
returns-clause-honest c old new steps os ran published closed honest harmless =
    (is_safe (record {
      spelled = c.reading_law.ensures.spelled;
      taken = c.taken_law.ensures;
      takes = c.honest_take_law.ensures;
      skips = c.honest_skip_law.ensures;
    }) published closed old.arbiter.view.session old new steps os ran honest refl harmless).honest

pub returns-clause-piece : goal.returns-clause-piece
returns-clause-piece c old new step steps o os ran published closed honest harmless kept =
    piece_from c.taken_law.ensures published old new step steps o os ran
    (returns-clause-pieces c old new (step ∷ steps) (o ∷ os) ran published closed honest harmless) kept
