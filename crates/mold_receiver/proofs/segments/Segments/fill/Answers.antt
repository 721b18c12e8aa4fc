use Rattle.std.proofs.Common.{◌≡◌, Some, ap, length-take, refl, sym, arith}
use Rattle.std.specs.Prelude.{is_some}
use Rattle.slab.proofs.SlabLemmas.{Updates-with_value}
use Rattle.slab.specs.Slab.{get}
use Rattle.mold_receiver.proofs.SegmentLemmas.{appended_with, are_with, counted_more, filled_segment}
use Rattle.mold_receiver.proofs.segments.Segments.fill.Goals as goal

pub returns-clause-whole : goal.returns-clause-whole
returns-clause-whole c =
    let old = c.args.self.now in
    let key = c.args.key in
    let before = c.in_ok-segment.segment.now in
    let had : get old.table key ≡ Some before = sym c.in_ok-segment.ensures.value in
    are_with old _ key c.fill.new.self c.requires
    (Updates-with_value old.table key c.fill.new.self (ap is_some had))
    (filled_segment before c.fill.new.self _ (c.requires.each key before had) c.fill.ensures.filled
    (omega (arith, c.if-bytes-len.false, c.len.ensures, (c.requires.each key before had).used)))
    (c.requires.keys key before had)
    (omega (arith, c.requires.size key before had, c.fill.ensures.filled.size, c.fill.ensures.filled.used)) refl
    c.requires.spare
    (counted_more old _ key _ _ before c.fill.new.self c.requires had
    (Updates-with_value old.table key c.fill.new.self (ap is_some had)) c.fill.ensures.filled.used
    (omega (arith, c.saturating_add-self.ensures, c.len.ensures)))

pub returns-clause-appended : goal.returns-clause-appended
returns-clause-appended c =
    let old = c.args.self.now in
    let key = c.args.key in
    let before = c.in_ok-segment.segment.now in
    let had : get old.table key ≡ Some before = sym c.in_ok-segment.ensures.value in
    appended_with old _ _ (Some before) c.fill.new.self c.args.bytes.now had
    (Updates-with_value old.table key c.fill.new.self (ap is_some had))
    (omega (arith, length-take before.used before.bytes.items, (c.requires.each key before had).used))
    c.fill.ensures.filled.live c.fill.ensures.used
