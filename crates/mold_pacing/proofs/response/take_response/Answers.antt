use Rattle.std.proofs.Common.{ℕ, ◌≡◌, ◌≤◌, ◌∙◌, List, Some, ap, arith, inl, inr, length, min, set, slice_get, sym}
use Rattle.std.proofs.lemmas.List.{get_or_default}
use Rattle.std.proofs.lemmas.List.Edits.{map_over_more}
use Rattle.std.proofs.lemmas.Option.{slice_get-get_or, slice_get_within}
use Rattle.std.specs.List.{list_all}
use Rattle.mold_pacing.specs.Flight.{waits_until}
use Rattle.mold_pacing.specs.Responses.{after_response}
use Rattle.mold_pacing.specs.declared.flight.Flight.{Flight}
use Rattle.mold_pacing.proofs.ApartLemmas.{apart_some}
use Rattle.mold_pacing.proofs.RangeLemmas.{all_set, map_after, map_before, unchanged_at, waits_lower, waits_set, response_above, response_passed}
use Rattle.mold_pacing.proofs.ResponseLemmas.{arrival_below}
use Rattle.mold_pacing.proofs.TableLemmas.{ascending_at, flight_at}
use Rattle.mold_pacing.proofs.response.take_response.Goals as goal

pub loop-index-init : goal.loop-index-init
loop-index-init c =
    let fs = c.args.flights.now in
    record {
      changed = map_before (after_response c.args.settle c.args.now c.args.came.first c.args.came.end) fs _ (λ i f before there. response_passed c.args.settle c.args.now c.args.came.first c.args.came.end f (c.passed_index-index.ensures i f before there));
      waits = λ time all. waits_lower time _ fs (omega arith) all;
    }

pub loop-index-preserved : goal.loop-index-preserved
loop-index-preserved c =
    let now = c.loop-index.flights in
    let index = c.loop-index.index in
    let inv = c.loop-index.invariant in
    let f = flight_at now index in
    rw c.min-least.ensures (record {
      changed = ap (λ (g : Flight). set now index g) c.with_response-flight.ensures
          ∙ map_over_more (after_response c.args.settle c.args.now c.args.came.first c.args.came.end) c.args.flights.now now index f
          (omega (arith, c.loop-index-test.true, c.loop-index.auto.flights)) inv.changed
          (get_or_default now index _ f (omega (arith, c.loop-index-test.true)));
      waits = λ time all. waits_set time c.loop-index.least now index c.with_response-flight.result (inv.waits time all);
    })

pub returns-then-came-flights-clause-flights : goal.returns-then-came-flights-clause-flights
returns-then-came-flights-clause-flights c =
    let fs = c.args.flights.now in
    let now = c.loop-index.flights in
    let index = c.loop-index.index in
    let inv = c.loop-index.invariant in
    let change = after_response c.args.settle c.args.now c.args.came.first c.args.came.end in
    let here = slice_get-get_or now index _ c.loop-index-test.true in
    let was : slice_get fs index ≡ Some (flight_at now index) =
    sym (unchanged_at change fs index index (omega arith)) ∙ ap (λ (t : List Flight). slice_get t index) (sym inv.changed) ∙ here in
    inv.changed ∙ map_after change fs index (λ i f after there.
    let above : c.args.came.end ≤ f.first = omega (
      arith,
      c.if-came-flights.true,
      ascending_at 0 fs index i (flight_at now index) f c.requires.sorted after was there,
    ) in
    response_above c.args.settle c.args.now c.args.came.first c.args.came.end f above)

pub returns-clause-flights : goal.returns-clause-flights
returns-clause-flights c =
    let fs = c.args.flights.now in
    let inv = c.loop-index.invariant in
    inv.changed ∙ map_after (after_response c.args.settle c.args.now c.args.came.first c.args.came.end) fs c.loop-index.index (λ i f after there.
    absurd (omega (arith, c.loop-index-test.false, after, slice_get_within fs i f there, c.loop-index.auto.flights)))
