use Rattle.std.proofs.Common.{arith, inl, inr}
use Rattle.std.proofs.lemmas.Bool.{cases_lt}
use Rattle.std.proofs.lemmas.Option.{slice_get-get_or, slice_get_within}
use Rattle.mold_pacing.proofs.TableLemmas.{flight_at}
use Rattle.mold_pacing.proofs.WaitingLemmas.{any_still, end_flies, end_later, next_over_more, still_bound}
use Rattle.mold_pacing.proofs.waiting.next_over.Goals as goal

pub loop-index-init : goal.loop-index-init
loop-index-init c = record {
  later = omega (arith, c.requires);
  waits = λ i f before there busy. absurd (omega (arith, before));
}

pub loop-index-preserved : goal.loop-index-preserved
loop-index-preserved c =
    let fs = c.args.flights.now in
    let index = c.loop-index.index in
    let flight = flight_at fs index in
    rw c.min-over.ensures (next_over_more fs c.args.now index c.loop-index.over c.end_after.result flight
    (slice_get-get_or fs index _ c.loop-index-test.true) c.loop-index.invariant
    (end_flies c.args.now flight.until 18446744073709551615 c.end_after.result c.end_after.ensures)
    (end_later c.args.now flight.until 18446744073709551615 c.end_after.result c.end_after.ensures
    (omega (arith, c.requires))))

pub returns-clause-stays : goal.returns-clause-stays
returns-clause-stays c =
    let fs = c.args.flights.now in
    λ time number before busy. any_still c.args.now time number fs
    (λ i f there flies. omega (
      arith,
      before,
      c.loop-index.invariant.waits i f
          (omega (arith, c.loop-index-test.false, slice_get_within fs i f there)) there flies,
    )) busy

pub returns-clause-bound : goal.returns-clause-bound
returns-clause-bound c =
    let fs = c.args.flights.now in
    λ last number busy all. still_bound c.args.now last number c.loop-index.over fs
    (λ i f there flies. c.loop-index.invariant.waits i f
    (omega (arith, c.loop-index-test.false, slice_get_within fs i f there)) there flies) busy all

pub returns-clause-same : goal.returns-clause-same
returns-clause-same c =
    let fs = c.args.flights.now in
    λ time i f before there past. elim (cases_lt c.args.now f.until) [
      | inl busy ↦
          let waits = c.loop-index.invariant.waits i f
          (omega (arith, c.loop-index-test.false, slice_get_within fs i f there)) there busy in
          absurd (omega (arith, waits, before, past))
      | inr over ↦ over
    ]
