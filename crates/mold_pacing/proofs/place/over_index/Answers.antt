use Rattle.std.proofs.Common.{arith}
use Rattle.std.proofs.lemmas.Option.{slice_get_within}
use Rattle.mold_pacing.specs.Flight.{is_over}
use Rattle.mold_pacing.proofs.TableLemmas.{any_none}
use Rattle.mold_pacing.proofs.place.over_index.Goals as goal

pub returns-clause-none : goal.returns-clause-none
returns-clause-none c =
    any_none (is_over c.args.now) c.args.flights.now (λ i f there. c.loop-index.invariant i f
    (omega (arith, c.loop-index-test.false, slice_get_within c.args.flights.now i f there)) there)
