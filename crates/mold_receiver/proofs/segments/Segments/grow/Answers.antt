use Rattle.std.proofs.Common.{◌∙◌, refl}
use Rattle.mold_receiver.proofs.SegmentLemmas.{are_roomy}
use Rattle.mold_receiver.proofs.segments.Segments.grow.Goals as goal

pub move_to-requires-clause-whole : goal.move_to-requires-clause-whole
move_to-requires-clause-whole c =
    are_roomy c.large_memory.new.self _ c.large_memory.ensures.whole
    (c.large_memory.ensures.roomy ∙ c.in_ok-tighten.ensures.none) refl refl refl refl
