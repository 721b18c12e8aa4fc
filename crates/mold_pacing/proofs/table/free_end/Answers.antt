use Rattle.std.proofs.Common.{arith, sym, inr, ◌∙◌}
use Rattle.std.proofs.lemmas.Option.{slice_get-get_or, slice_get_within}
use Rattle.mold_pacing.proofs.TableLemmas.{ascending_at, busy_there, clear_more, clear_passed, free_until, flight_at}
use Rattle.mold_pacing.proofs.table.free_end.Goals as goal

pub loop-index-init : goal.loop-index-init
loop-index-init c = record {
  clear = clear_passed c.args.flights.now c.args.now c.args.free.index c.args.free.first c.requires.passed;
  low = omega arith;
}

pub loop-index-preserved : goal.loop-index-preserved
loop-index-preserved c =
    let i = c.loop-index.invariant in
    record {
      clear = clear_more c.args.flights.now c.args.now c.loop-index.index c.args.free.first _
          (slice_get-get_or c.args.flights.now c.loop-index.index _ c.loop-index-test.true) i.clear
          (sym c.is_sent.ensures ∙ c.if-is_sent.false);
      low = omega (arith, i.low);
    }

pub returns-then-is_sent-clause-some : goal.returns-then-is_sent-clause-some
returns-then-is_sent-clause-some c =
    c.requires.above c.loop-index.index _ c.loop-index.invariant.low
    (slice_get-get_or c.args.flights.now c.loop-index.index _ c.loop-index-test.true)

pub returns-then-is_sent-clause-free : goal.returns-then-is_sent-clause-free
returns-then-is_sent-clause-free c =
    free_until c.args.flights.now c.args.now c.loop-index.index c.args.free.first _ c.loop-index.invariant.clear
    (λ i g after there. ascending_at 0 c.args.flights.now c.loop-index.index i (flight_at c.args.flights.now c.loop-index.index) g c.requires.sorted after
    (slice_get-get_or c.args.flights.now c.loop-index.index _ c.loop-index-test.true) there)

pub returns-then-is_sent-clause-stops : goal.returns-then-is_sent-clause-stops
returns-then-is_sent-clause-stops c =
    inr (busy_there c.args.flights.now c.args.now c.loop-index.index _
    (slice_get-get_or c.args.flights.now c.loop-index.index _ c.loop-index-test.true)
    (sym c.is_sent.ensures ∙ c.if-is_sent.true))

pub returns-then-flight-free-clause-free : goal.returns-then-flight-free-clause-free
returns-then-flight-free-clause-free c =
    free_until c.args.flights.now c.args.now c.loop-index.index c.args.free.first c.args.free.end
    c.loop-index.invariant.clear
    (λ i g after there. omega (
      arith,
      c.if-flight-free.true,
      ascending_at 0 c.args.flights.now c.loop-index.index i (flight_at c.args.flights.now c.loop-index.index) g
          c.requires.sorted after
          (slice_get-get_or c.args.flights.now c.loop-index.index _ c.loop-index-test.true) there,
    ))

pub returns-after-loop-index-clause-free : goal.returns-after-loop-index-clause-free
returns-after-loop-index-clause-free c =
    free_until c.args.flights.now c.args.now c.loop-index.index c.args.free.first c.args.free.end
    c.loop-index.invariant.clear
    (λ i g after there. absurd (omega (
      arith,
      c.loop-index-test.false,
      after,
      slice_get_within c.args.flights.now i g there,
    )))
