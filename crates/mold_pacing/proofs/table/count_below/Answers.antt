use Rattle.std.proofs.Common.{◌+◌, ◌-◌, ◌/◌, ◌<◌, ◌≤◌, arith, ℕ}
use Rattle.std.proofs.lemmas.Option.{slice_get-get_or}
use Rattle.mold_pacing.proofs.RangeLemmas.{halfway}
use Rattle.mold_pacing.proofs.TableLemmas.{ascending_at, flight_at}
use Rattle.mold_pacing.proofs.table.count_below.Goals as goal

pub loop-low-preserved-then-flights-middle : goal.loop-low-preserved-then-flights-middle
loop-low-preserved-then-flights-middle c =
    let inv = c.loop-low.invariant in
    let fs = c.args.flights.now in
    let low = c.loop-low.low in
    let high = c.loop-low.high in
    let middle = low + (high - low) / 2 in
    let half = halfway low high c.loop-low-test.true in
    let there = slice_get-get_or fs middle _ (omega (arith, half.1, inv.within)) in
    record {
      within = inv.within;
      order = omega (arith, half.1);
      below = λ i f before other. omega (
        arith,
        ascending_at 0 fs i middle f (flight_at fs middle) c.requires.sorted (omega (arith, before)) other there,
        c.if-flights-middle.true,
      );
      above = inv.above;
    }

pub loop-low-preserved : goal.loop-low-preserved
loop-low-preserved c =
    let inv = c.loop-low.invariant in
    let fs = c.args.flights.now in
    let low = c.loop-low.low in
    let high = c.loop-low.high in
    let middle = low + (high - low) / 2 in
    let half = halfway low high c.loop-low-test.true in
    let there = slice_get-get_or fs middle _ (omega (arith, half.1, inv.within)) in
    record {
      within = omega (arith, half.1, inv.within);
      order = half.0;
      below = inv.below;
      above = λ i f after other. omega (
        arith,
        ascending_at 0 fs middle i (flight_at fs middle) f c.requires.sorted after there other,
        c.if-flights-middle.false,
      );
    }
