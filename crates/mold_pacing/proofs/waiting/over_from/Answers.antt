use Rattle.std.proofs.Common.{arith}
use Rattle.std.proofs.lemmas.Option.{slice_get-get_or, slice_get_within}
use Rattle.mold_pacing.proofs.TableLemmas.{flight_at}
use Rattle.mold_pacing.proofs.WaitingLemmas.{none_over, over_first, over_more}
use Rattle.mold_pacing.proofs.waiting.over_from.Goals as goal

pub loop-index-init : goal.loop-index-init
loop-index-init c =
    let fs = c.args.flights.now in
    over_first fs (flight_at fs 0) (slice_get-get_or fs 0 _ c.requires)

pub loop-index-preserved : goal.loop-index-preserved
loop-index-preserved c =
    let fs = c.args.flights.now in
    let index = c.loop-index.index in
    rw c.min-from.ensures (over_more fs index c.loop-index.from (flight_at fs index)
    (slice_get-get_or fs index _ c.loop-index-test.true) c.loop-index.invariant)

pub returns-clause-least : goal.returns-clause-least
returns-clause-least c =
    let fs = c.args.flights.now in
    λ time before. none_over fs c.loop-index.index c.loop-index.from time c.loop-index.invariant
    (λ i f there. omega (arith, c.loop-index-test.false, slice_get_within fs i f there)) before
