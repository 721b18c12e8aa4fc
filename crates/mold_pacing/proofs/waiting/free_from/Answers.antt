use Rattle.std.proofs.Common.{◌∙◌, arith, sym}
use Rattle.std.proofs.lemmas.Option.{slice_get-get_or, slice_get_within}
use Rattle.mold_pacing.proofs.TableLemmas.{flight_at}
use Rattle.mold_pacing.proofs.WaitingLemmas.{free_later, free_none, free_same, free_time}
use Rattle.mold_pacing.proofs.waiting.free_from.Goals.{then-has_number, else-has_number}
use Rattle.mold_pacing.proofs.waiting.free_from.Goals as goal

pub loop-index-init : goal.loop-index-init
loop-index-init c = free_none c.args.flights.now c.args.number

pub loop-index-preserved : goal.loop-index-preserved
loop-index-preserved c =
    let fs = c.args.flights.now in
    let number = c.args.number in
    let index = c.loop-index.index in
    let from = c.loop-index.from in
    let there = slice_get-get_or fs index _ c.loop-index-test.true in
    elim c.if-has_number.branch [
      | then-has_number w ↦
          rw w.from-is (rw w.max-from.ensures (free_later fs number index from (flight_at fs index) there
          c.loop-index.invariant (sym c.has_number.ensures ∙ w.if-has_number.true)))
      | else-has_number w ↦
          rw w.from-is (free_same fs number index from (flight_at fs index) there c.loop-index.invariant
          (sym c.has_number.ensures ∙ w.if-has_number.false))
    ]

pub returns-clause-free : goal.returns-clause-free
returns-clause-free c =
    let fs = c.args.flights.now in
    λ time past. free_time fs c.args.number c.loop-index.index c.loop-index.from time c.loop-index.invariant
    (λ i f there. omega (arith, c.loop-index-test.false, slice_get_within fs i f there)) past
