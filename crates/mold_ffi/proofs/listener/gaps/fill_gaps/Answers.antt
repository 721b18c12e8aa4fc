use Rattle.std.proofs.Common.{◌≡◌, ◌<◌, ◌-◌, ◌∙◌, length, min, take, drop, map, ap, subst, arith}
use Rattle.mold_ffi.specs.Checker.MoldRange.{range_of}
use Rattle.mold_ffi.specs.Listener.Gaps.{gaps_from}
use Rattle.mold_ffi.specs.declared.checker.mold_range.MoldRange.{MoldRange}
use Rattle.mold_ffi.proofs.GapLemmas.{next_gap, no_gap}
use Rattle.mold_ffi.proofs.LoanLemmas.{told_more, behind_less, left_less}
use Rattle.mold_ffi.proofs.listener.gaps.fill_gaps.Goals as goal

pub loop-filled-preserved : goal.loop-filled-preserved
loop-filled-preserved c =
    let v = c.args.arbiter.now.view in
    let i = c.loop-filled.invariant in
    let n = c.loop-filled.filled in
    let gap = c.in-Some.gap in
    let laws = c.ranges_walk_law.ensures in
    let more = next_gap laws.none laws.skip laws.run v c.loop-filled.at gap c.in-Some.ensures.some in
    let left = i.left ∙ more in
    let room : n < length c.loop-filled.ranges = c.loop-filled-test.true in
    let written : MoldRange = record { first = gap.first; last = gap.end - 1 } in
    record {
      left = left_less (gaps_from v c.args.from) (gaps_from v gap.end) (range_of written) n left;
      room = omega (arith, room, c.loop-filled.auto.ranges);
      counted = omega (arith, i.counted, ap length more);
      told = told_more range_of c.loop-filled.ranges (gaps_from v c.args.from) (gaps_from v gap.end) written n i.told left room;
      behind = behind_less c.loop-filled.ranges c.args.ranges.now written n i.behind;
    }

-- All gaps are written.
all_written : (c : goal.In_default) → c.loop-filled.filled ≡ min (length c.args.ranges.now) (length (gaps_from c.args.arbiter.now.view c.args.from))
all_written c =
    let i = c.loop-filled.invariant in
    let laws = c.ranges_walk_law.ensures in
    let none = no_gap laws.none laws.skip laws.run c.args.arbiter.now.view c.loop-filled.at c.in_default.ensures.none in
    omega (arith, i.counted, i.room, ap length none)

pub returns-in_default-clause-count : goal.returns-in_default-clause-count
returns-in_default-clause-count c = all_written c

pub returns-in_default-clause-filled : goal.returns-in_default-clause-filled
returns-in_default-clause-filled c =
    let i = c.loop-filled.invariant in
    let all = gaps_from c.args.arbiter.now.view c.args.from in
    record {
      front = subst (λ n. map range_of (take n c.loop-filled.ranges) ≡ take n all) (all_written c) i.told;
      behind = subst (λ n. drop n c.loop-filled.ranges ≡ drop n c.args.ranges.now) (all_written c) i.behind;
    }
