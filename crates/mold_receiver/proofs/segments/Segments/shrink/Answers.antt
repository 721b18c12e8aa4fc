use Rattle.std.proofs.Common.{refl}
use Rattle.mold_receiver.proofs.SegmentLemmas.{are_same}
use Rattle.mold_receiver.proofs.segments.Segments.shrink.Goals as goal

pub returns-then-capacity-gt-MAX_EMPTY-clause-whole : goal.returns-then-capacity-gt-MAX_EMPTY-clause-whole
returns-then-capacity-gt-MAX_EMPTY-clause-whole c =
    are_same c.args.self.now _ c.requires c.shrink_to_fit.ensures.values refl refl refl refl
