use Rattle.std.proofs.Common.{◌∙◌, arith, inl, inr, sym}
use Rattle.std.proofs.lemmas.Bool.{cases_lt}
use Rattle.std.proofs.lemmas.Option.{slice_get-get_or, slice_get_within}
use Rattle.mold_pacing.specs.Most.{ends_request}
use Rattle.mold_pacing.proofs.PlaceLemmas.{find_at, find_none, none_more}
use Rattle.mold_pacing.proofs.RangeLemmas.{not_ended, not_response_above, not_response_passed}
use Rattle.mold_pacing.proofs.TableLemmas.{ascending_at, flight_at}
use Rattle.mold_pacing.proofs.response.ended_request.Goals as goal

pub loop-index-init : goal.loop-index-init
loop-index-init c i f before there =
    let came = c.args.came in
    not_ended c.args.now came.first came.end f (not_response_passed c.args.now came.first came.end f
    (c.passed_index-index.ensures i f before there))

pub loop-index-preserved : goal.loop-index-preserved
loop-index-preserved c =
    let fs = c.args.flights.now in
    none_more (ends_request c.args.now c.args.came.first c.args.came.end) fs c.loop-index.index
    (flight_at fs c.loop-index.index)
    (slice_get-get_or fs c.loop-index.index _ c.loop-index-test.true) c.loop-index.invariant
    (sym c.is_end.ensures ∙ c.if-is_end.false)

pub returns-then-came-flight : goal.returns-then-came-flight
returns-then-came-flight c =
    let fs = c.args.flights.now in
    let came = c.args.came in
    let index = c.loop-index.index in
    let here = slice_get-get_or fs index _ c.loop-index-test.true in
    sym (find_none (ends_request c.args.now came.first came.end) fs (λ i f there. elim (cases_lt i index) [
      | inl before ↦ c.loop-index.invariant i f before there
      | inr after ↦ not_ended c.args.now came.first came.end f (not_response_above c.args.now came.first came.end f (omega (
        arith,
        c.if-came-flight.true,
        ascending_at 0 fs index i (flight_at fs index) f c.requires.sorted after here there,
      )))
    ]))

pub returns-then-is_end : goal.returns-then-is_end
returns-then-is_end c =
    let fs = c.args.flights.now in
    let index = c.loop-index.index in
    sym (find_at (ends_request c.args.now c.args.came.first c.args.came.end) fs index (flight_at fs index)
    c.loop-index.invariant
    (slice_get-get_or fs index _ c.loop-index-test.true) (sym c.is_end.ensures ∙ c.if-is_end.true))

pub returns : goal.returns
returns c =
    let fs = c.args.flights.now in
    sym (find_none (ends_request c.args.now c.args.came.first c.args.came.end) fs (λ i f there.
    c.loop-index.invariant i f (omega (arith, c.loop-index-test.false, slice_get_within fs i f there)) there))
