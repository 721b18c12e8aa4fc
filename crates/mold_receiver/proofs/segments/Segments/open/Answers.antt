use Rattle.std.proofs.Common.{ap, refl, arith}
use Rattle.slab.specs.Slab.{Slab}
use Rattle.mold_receiver.specs.declared.segment.Segment.{Segment}
use Rattle.mold_receiver.proofs.SegmentLemmas.{are_with, counted_new, new_segment, updates_kept}
use Rattle.mold_receiver.proofs.segments.Segments.open.Goals as goal

pub returns-clause-whole : goal.returns-clause-whole
returns-clause-whole c =
    let old = c.memory_for.new.self in
    let whole = c.in_ok-memory.ensures.whole in
    let fits = rw c.in_ok-memory.was at c.memory_for.ensures.fits in
    let added = c.insert_reserved-segment.ensures in
    let same = ap (λ (t : Slab Segment). t.slots) c.in_ok-reserve.ensures.rest_kept in
    let segment = c.new.result in
    are_with old _ c.insert_reserved-segment.result segment whole
    (updates_kept old.table c.reserve.new.self c.insert_reserved-segment.new.self c.insert_reserved-segment.result _ same
    added.updates)
    (new_segment segment c.in_ok-memory.memory _ 0 fits c.new.ensures.filled c.new.ensures.size c.new.ensures.room
    (omega (arith, c.requires.some)))
    (omega (arith, added.key, c.if-key.false)) (omega (arith, fits.most, c.new.ensures.filled, c.new.ensures.size)) refl
    whole.spare
    (counted_new old c.reserve.new.self _ c.insert_reserved-segment.result _ _ segment whole same added.was_vacant
    added.updates c.new.ensures.filled
    (omega (arith, c.saturating_add-self.ensures)))
