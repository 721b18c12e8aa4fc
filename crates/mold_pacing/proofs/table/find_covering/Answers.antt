use Rattle.std.proofs.Common.{◌∙◌, arith, inl, inr, sym}
use Rattle.std.proofs.lemmas.Bool.{cases_lt}
use Rattle.std.proofs.lemmas.Option.{slice_get-get_or, slice_get_within}
use Rattle.mold_pacing.specs.Flight.{covers}
use Rattle.mold_pacing.proofs.PlaceLemmas.{find_at, find_none, none_more}
use Rattle.mold_pacing.proofs.TableLemmas.{ascending_at, flight_at, not_covers_above, not_covers_past}
use Rattle.mold_pacing.proofs.table.find_covering.Goals as goal

pub loop-index-init : goal.loop-index-init
loop-index-init c i f before there =
    not_covers_past c.args.now c.args.number f (c.passed_index-index.ensures i f before there)

pub loop-index-preserved : goal.loop-index-preserved
loop-index-preserved c =
    let fs = c.args.flights.now in
    none_more (covers c.args.now c.args.number) fs c.loop-index.index (flight_at fs c.loop-index.index)
    (slice_get-get_or fs c.loop-index.index _ c.loop-index-test.true) c.loop-index.invariant
    (sym c.is_covering.ensures ∙ c.if-is_covering.false)

pub returns-then-number-flight : goal.returns-then-number-flight
returns-then-number-flight c =
    let fs = c.args.flights.now in
    let index = c.loop-index.index in
    let here = slice_get-get_or fs index _ c.loop-index-test.true in
    sym (find_none (covers c.args.now c.args.number) fs (λ i f there. elim (cases_lt i index) [
      | inl before ↦ c.loop-index.invariant i f before there
      | inr after ↦ not_covers_above c.args.now c.args.number f (omega (
        arith,
        c.if-number-flight.true,
        ascending_at 0 fs index i (flight_at fs index) f c.requires.sorted after here there,
      ))
    ]))

pub returns-then-is_covering : goal.returns-then-is_covering
returns-then-is_covering c =
    let fs = c.args.flights.now in
    let index = c.loop-index.index in
    sym (find_at (covers c.args.now c.args.number) fs index (flight_at fs index) c.loop-index.invariant
    (slice_get-get_or fs index _ c.loop-index-test.true) (sym c.is_covering.ensures ∙ c.if-is_covering.true))

pub returns : goal.returns
returns c =
    let fs = c.args.flights.now in
    sym (find_none (covers c.args.now c.args.number) fs (λ i f there.
    c.loop-index.invariant i f (omega (arith, c.loop-index-test.false, slice_get_within fs i f there)) there))
