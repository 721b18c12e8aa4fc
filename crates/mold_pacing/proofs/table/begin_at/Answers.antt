use Rattle.std.proofs.Common.{arith, inl}
use Rattle.std.proofs.lemmas.Option.{slice_get-get_or, slice_get_within}
use Rattle.mold_pacing.proofs.TableLemmas.{ascending_at}
use Rattle.mold_pacing.proofs.table.begin_at.Goals as goal

pub returns-then-index-flights-clause-low : goal.returns-then-index-flights-clause-low
returns-then-index-flights-clause-low c i f after there =
    ascending_at 0 c.args.flights.now c.args.index i _ f c.requires.sorted after
    (slice_get-get_or c.args.flights.now c.args.index _ c.if-index-flights.true) there

pub returns-then-index-flights-clause-above : goal.returns-then-index-flights-clause-above
returns-then-index-flights-clause-above c number above =
    let there = slice_get-get_or c.args.flights.now c.args.index _ c.if-index-flights.true in
    inl (above c.args.index _ (omega arith) there)

pub returns-clause-low : goal.returns-clause-low
returns-clause-low c i f after there =
    absurd (omega (arith, c.if-index-flights.false, after, slice_get_within c.args.flights.now i f there))
