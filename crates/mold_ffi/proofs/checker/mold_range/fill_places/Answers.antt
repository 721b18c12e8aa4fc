use Rattle.std.proofs.Common.{◌<◌, ◌∙◌, length, get_or, ap, sym, arith}
use Rattle.mold_ffi.proofs.LoanLemmas.{told_at, behind_less}
use Rattle.mold_capture.specs.declared.verdict.Range.{Range}
use Rattle.mold_ffi.specs.Checker.MoldRange.{range_of}
use Rattle.mold_rule.specs.Ranges.{range as numbers}
use Rattle.mold_ffi.proofs.checker.mold_range.fill_places.Goals as goal

pub loop-range-preserved : goal.loop-range-preserved
loop-range-preserved c =
    let i = c.loop-range.invariant in
    let n = c.loop-range.filled in
    let room : n < length c.loop-range.places = omega (arith, i.room, c.loop-range.auto.places, c.if-filled-places.false) in
    let zero_range : Range = record { first = 0; last = 0 } in
    record {
      counted = omega (arith, i.counted);
      room = omega (arith, room, c.loop-range.auto.places);
      told = told_at range_of (λ r. numbers r.first r.last) c.loop-range.places c.args.missing.now c.of.result zero_range n i.told
          (c.of.ensures ∙ ap (λ k. numbers (get_or c.args.missing.now k zero_range).first (get_or c.args.missing.now k zero_range).last) (sym i.counted))
          (omega (arith, i.counted, c.loop-range-test.true)) room;
      behind = behind_less c.loop-range.places c.args.places.now c.of.result n i.behind;
    }
