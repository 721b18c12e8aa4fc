use Rattle.std.proofs.Common.{◌-◌, arith, inl, inr, sym, ◌∙◌, ap}
use Rattle.std.proofs.lemmas.Bool.{cases_lt}
use Rattle.std.proofs.lemmas.Option.{slice_get-get_or, slice_get_within}
use Rattle.mold_pacing.proofs.RangeLemmas.{passed_at, passed_below, passed_low}
use Rattle.mold_pacing.proofs.TableLemmas.{flight_at}
use Rattle.mold_pacing.proofs.WaitingLemmas.{same_at}
use Rattle.mold_pacing.proofs.table.passed_index.Goals as goal

pub returns-then-flight-number : goal.returns-then-flight-number
returns-then-flight-number c =
    let fs = c.args.flights.now in
    let index = c.loop-index.index - 1 in
    let below = c.count_below-below.ensures in
    let inv = c.loop-index.invariant in
    let there = slice_get-get_or fs index _ (omega (arith, c.loop-index-test.true, inv.within, below.bound)) in
    passed_below fs c.args.now index c.count_below-below.result c.args.number (flight_at fs index) c.requires.apart
    below.below (omega (arith, c.loop-index-test.true, inv.within)) there c.if-now-flight.true
    (λ i g after before other. inv.over i g (omega (arith, after)) before other) c.if-flight-number.true

pub returns-else-flight-number : goal.returns-else-flight-number
returns-else-flight-number c =
    let fs = c.args.flights.now in
    let index = c.loop-index.index - 1 in
    let below = c.count_below-below.ensures in
    let inv = c.loop-index.invariant in
    let there = slice_get-get_or fs index _ (omega (arith, c.loop-index-test.true, inv.within, below.bound)) in
    passed_at fs c.args.now index c.args.number (flight_at fs index) c.requires.apart there c.if-now-flight.true
    (below.below index (flight_at fs index) (omega (arith, c.loop-index-test.true, inv.within)) there)

pub loop-index-preserved : goal.loop-index-preserved
loop-index-preserved c =
    let fs = c.args.flights.now in
    let index = c.loop-index.index - 1 in
    let below = c.count_below-below.ensures in
    let inv = c.loop-index.invariant in
    let there = slice_get-get_or fs index _ (omega (arith, c.loop-index-test.true, inv.within, below.bound)) in
    record {
      within = omega (arith, inv.within);
      over = λ i g after before other. elim (cases_lt index i) [
        | inl later ↦ inv.over i g (omega (arith, later)) before other
        | inr at ↦ omega (
          arith,
          c.if-now-flight.false,
          ap (λ h. h.until) (same_at fs i index (flight_at fs index) g there other (omega (arith, at)) after),
        )
      ];
    }

pub returns-then-flight-low : goal.returns-then-flight-low
returns-then-flight-low c =
    let fs = c.args.flights.now in
    let index = c.loop-index.index - 1 in
    let below = c.count_below-below.ensures in
    let inv = c.loop-index.invariant in
    let there = slice_get-get_or fs index _ (omega (arith, c.loop-index-test.true, inv.within, below.bound)) in
    passed_low fs c.args.low c.args.now index c.count_below-below.result c.args.number (flight_at fs index)
    c.requires.sorted c.requires.low there c.if-flight-low.true c.if-now-flight.false
    (λ i g after before other. inv.over i g (omega (arith, after)) before other)
