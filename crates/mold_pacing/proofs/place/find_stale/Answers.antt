use Rattle.std.proofs.Common.{◌∙◌, arith, inl, inr, sym}
use Rattle.std.proofs.lemmas.Bool.{cases_lt}
use Rattle.std.proofs.lemmas.Option.{slice_get-get_or, slice_get_within}
use Rattle.mold_pacing.specs.Flight.{is_stale}
use Rattle.mold_pacing.proofs.PlaceLemmas.{find_at, find_none, none_more}
use Rattle.mold_pacing.proofs.RangeLemmas.{not_stale_above}
use Rattle.mold_pacing.proofs.TableLemmas.{ascending_at, flight_at}
use Rattle.mold_pacing.proofs.place.find_stale.Goals as goal

pub loop-index-preserved : goal.loop-index-preserved
loop-index-preserved c =
    let fs = c.args.flights.now in
    none_more (is_stale c.args.now c.args.number) fs c.loop-index.index (flight_at fs c.loop-index.index)
    (slice_get-get_or fs c.loop-index.index _ c.loop-index-test.true) c.loop-index.invariant
    (sym c.is_stale_for.ensures ∙ c.if-is_stale_for.false)

pub returns-then-number-flights-clause-none : goal.returns-then-number-flights-clause-none
returns-then-number-flights-clause-none c =
    let fs = c.args.flights.now in
    let index = c.loop-index.index in
    let here = slice_get-get_or fs index _ c.loop-index-test.true in
    find_none (is_stale c.args.now c.args.number) fs (λ i f there. elim (cases_lt i index) [
      | inl before ↦ c.loop-index.invariant i f before there
      | inr after ↦ not_stale_above c.args.now c.args.number f (omega (
        arith,
        c.if-number-flights.true,
        ascending_at 0 fs index i (flight_at fs index) f c.requires.sorted after here there,
      ))
    ])

pub returns-then-is_stale_for-clause-found : goal.returns-then-is_stale_for-clause-found
returns-then-is_stale_for-clause-found c =
    let fs = c.args.flights.now in
    let f = flight_at fs c.loop-index.index in
    let there = slice_get-get_or fs c.loop-index.index _ c.loop-index-test.true in
    let passes = sym c.is_stale_for.ensures ∙ c.if-is_stale_for.true in
    record {
      flight = f;
      there = there;
      passes = passes;
      found = find_at (is_stale c.args.now c.args.number) fs c.loop-index.index f c.loop-index.invariant there passes;
    }

pub returns-clause-none : goal.returns-clause-none
returns-clause-none c =
    find_none (is_stale c.args.now c.args.number) c.args.flights.now (λ i f there. c.loop-index.invariant i f
    (omega (arith, c.loop-index-test.false, slice_get_within c.args.flights.now i f there)) there)
