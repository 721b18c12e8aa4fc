use Rattle.std.proofs.Common.{arith, inl, inr, ap, sym}
use Rattle.std.proofs.lemmas.Bool.{cases_lt}
use Rattle.std.proofs.lemmas.Option.{slice_get-get_or, slice_get_within}
use Rattle.mold_pacing.proofs.RangeLemmas.{all_waiting}
use Rattle.mold_pacing.proofs.TableLemmas.{flight_at}
use Rattle.mold_pacing.proofs.WaitingLemmas.{over_at, same_at}
use Rattle.mold_pacing.proofs.waiting.least_until.Goals as goal

pub loop-index-preserved : goal.loop-index-preserved
loop-index-preserved c =
    let fs = c.args.flights.now in
    let index = c.loop-index.index in
    let inv = c.loop-index.invariant in
    let there = slice_get-get_or fs index _ c.loop-index-test.true in
    rw c.min-least.ensures (record {
      later = omega (arith, inv.later, c.if-until-now.false);
      waits = λ i f before other. elim (cases_lt i index) [
        | inl earlier ↦ omega (arith, inv.waits i f earlier other)
        | inr after ↦ omega (arith, ap (λ h. h.until) (same_at fs i index (flight_at fs index) f there other before after))
      ];
    })

pub returns-then-until-now-clause-none : goal.returns-then-until-now-clause-none
returns-then-until-now-clause-none c =
    let fs = c.args.flights.now in
    let index = c.loop-index.index in
    over_at fs index c.args.now (flight_at fs index) (slice_get-get_or fs index _ c.loop-index-test.true) c.if-until-now.true

pub returns-clause-waits : goal.returns-clause-waits
returns-clause-waits c =
    let fs = c.args.flights.now in
    all_waiting c.loop-index.least fs (λ i f there.
    c.loop-index.invariant.waits i f (omega (arith, c.loop-index-test.false, slice_get_within fs i f there)) there)
