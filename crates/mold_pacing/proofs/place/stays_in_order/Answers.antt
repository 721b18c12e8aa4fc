use Rattle.std.proofs.Common.{◌≡◌, ◌-◌, Some, arith, slice_get}
use Rattle.std.proofs.lemmas.Option.{slice_get-get_or}
use Rattle.mold_pacing.proofs.TableLemmas.{ascending_at, flight_at}
use Rattle.mold_pacing.proofs.place.stays_in_order.Goals.{else-index-gt0-via-then-index-gt0+else-flights-index, else-index-gt0-via-else-index-gt0}
use Rattle.mold_pacing.proofs.place.stays_in_order.Goals as goal

pub returns-clause-below : goal.returns-clause-below
returns-clause-below c holds i f before other =
    let fs = c.args.flights.now in
    let index = c.args.index in
    elim c.else-index-gt0.branch [
      | else-index-gt0-via-then-index-gt0+else-flights-index w ↦
          let last = flight_at fs (index - 1) in
          let there : slice_get fs (index - 1) ≡ Some last = slice_get-get_or fs (index - 1) _ (omega (arith, w.if-index-gt0.true, c.requires.there)) in
          omega (
            arith,
            ascending_at 0 fs i (index - 1) f last c.requires.sorted (omega (arith, before)) other there,
            w.if-flights-index.false,
          )
      | else-index-gt0-via-else-index-gt0 w ↦ absurd (omega (arith, w.if-index-gt0.false, before))
    ]
