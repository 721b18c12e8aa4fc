use Rattle.std.proofs.Common.{◌-◌, arith, inl, inr, ap}
use Rattle.std.proofs.lemmas.Bool.{cases_lt}
use Rattle.std.proofs.lemmas.Option.{slice_get-get_or}
use Rattle.mold_pacing.proofs.RangeLemmas.{low_at, low_none}
use Rattle.mold_pacing.proofs.TableLemmas.{flight_at}
use Rattle.mold_pacing.proofs.WaitingLemmas.{same_at}
use Rattle.mold_pacing.proofs.table.low_from.Goals as goal

pub loop-index-preserved : goal.loop-index-preserved
loop-index-preserved c =
    let fs = c.args.flights.now in
    let index = c.loop-index.index - 1 in
    let below = c.count_below-below.ensures in
    let inv = c.loop-index.invariant in
    let there = slice_get-get_or fs index _ (omega (arith, c.loop-index-test.true, inv.within, below.bound)) in
    record {
      within = omega (arith, inv.within);
      over = λ i g after before other. elim (cases_lt index i) [
        | inl later ↦ inv.over i g (omega (arith, later)) before other
        | inr at ↦ omega (
          arith,
          c.if-now-flight.false,
          ap (λ h. h.until) (same_at fs i index (flight_at fs index) g there other (omega (arith, at)) after),
        )
      ];
    }

pub returns-then-flight-low : goal.returns-then-flight-low
returns-then-flight-low c =
    let fs = c.args.flights.now in
    let index = c.loop-index.index - 1 in
    let below = c.count_below-below.ensures in
    let inv = c.loop-index.invariant in
    let there = slice_get-get_or fs index _ (omega (arith, c.loop-index-test.true, inv.within, below.bound)) in
    low_at fs c.args.low c.args.now index c.count_below-below.result c.args.number (flight_at fs index)
    c.requires.sorted c.requires.low there c.if-flight-low.true c.if-now-flight.false
    (λ i g after before other. inv.over i g (omega (arith, after)) before other) below.next

pub returns : goal.returns
returns c =
    low_none c.args.flights.now c.args.now c.count_below-below.result c.args.number
    (λ i g before other. c.loop-index.invariant.over i g (omega (arith, c.loop-index-test.false)) before other)
    c.count_below-below.ensures.next
