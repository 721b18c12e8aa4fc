use Rattle.mold_pacing.proofs.TableLemmas.{clear_passed, free_until}
use Rattle.mold_pacing.proofs.table.next_hole.Goals as goal

pub returns-clause-free : goal.returns-clause-free
returns-clause-free c =
    free_until c.args.flights.now c.args.now _ _ _
    (clear_passed c.args.flights.now c.args.now _ _ c.pass_flights-index.ensures.passed) c.begin_at.ensures.low
