use Rattle.std.proofs.Common.{max, arith}
use Rattle.std.proofs.lemmas.Option.{slice_get-get_or}
use Rattle.mold_pacing.proofs.TableLemmas.{above_from, above_past, busy_more, free_between, passed_more, flight_at}
use Rattle.mold_pacing.proofs.table.pass_flights.Goals.{then-flight-now, else-flight-now}
use Rattle.mold_pacing.proofs.table.pass_flights.Goals as goal

pub loop-index-preserved : goal.loop-index-preserved
loop-index-preserved c =
    let i = c.loop-index.invariant in
    let fs = c.args.flights.now in
    let f = flight_at fs c.loop-index.index in
    let there = slice_get-get_or fs c.loop-index.index _ c.loop-index-test.true in
    elim c.if-flight-now.branch [
      | then-flight-now w ↦ rw w.until-is (rw w.min-until.ensures (rw w.number-is (rw w.max-number.ensures (record {
        later = omega (arith, i.later, w.if-flight-now.true);
        stays = λ time before. busy_more fs time c.args.from.number c.loop-index.number c.loop-index.index
            (max c.loop-index.number f.end) f there c.if-flight-number.false (i.stays time (omega (arith, before)))
            (λ more. (omega (arith, before), omega (arith, more)));
        low = omega (arith, i.low);
        passed = passed_more fs c.args.now c.loop-index.index c.loop-index.number (max c.loop-index.number f.end) f there
            i.passed (omega arith) (λ _. omega arith);
        busy = busy_more fs c.args.now c.args.from.number c.loop-index.number c.loop-index.index
            (max c.loop-index.number f.end) f there c.if-flight-number.false i.busy
            (λ more. (w.if-flight-now.true, omega (arith, more)));
      }))))
      | else-flight-now w ↦ rw w.until-is (rw w.number-is (record {
        later = i.later;
        stays = i.stays;
        low = i.low;
        passed = passed_more fs c.args.now c.loop-index.index c.loop-index.number c.loop-index.number f there i.passed
            (omega arith)
            (λ later. absurd (omega (arith, later, w.if-flight-now.false)));
        busy = i.busy;
      }))
    ]

pub returns-then-flight-number-clause-above : goal.returns-then-flight-number-clause-above
returns-then-flight-number-clause-above c =
    above_from c.args.flights.now c.loop-index.index c.loop-index.number _ c.requires.sorted
    (slice_get-get_or c.args.flights.now c.loop-index.index _ c.loop-index-test.true) c.if-flight-number.true

pub returns-then-flight-number-clause-free : goal.returns-then-flight-number-clause-free
returns-then-flight-number-clause-free c =
    free_between c.args.flights.now c.args.now c.loop-index.index c.loop-index.number c.loop-index.invariant.passed
    (above_from c.args.flights.now c.loop-index.index c.loop-index.number _ c.requires.sorted
    (slice_get-get_or c.args.flights.now c.loop-index.index _ c.loop-index-test.true) c.if-flight-number.true)

pub returns-after-loop-index-clause-above : goal.returns-after-loop-index-clause-above
returns-after-loop-index-clause-above c =
    above_past c.args.flights.now c.loop-index.index c.loop-index.number c.loop-index-test.false

pub returns-after-loop-index-clause-free : goal.returns-after-loop-index-clause-free
returns-after-loop-index-clause-free c =
    free_between c.args.flights.now c.args.now c.loop-index.index c.loop-index.number c.loop-index.invariant.passed
    (above_past c.args.flights.now c.loop-index.index c.loop-index.number c.loop-index-test.false)
