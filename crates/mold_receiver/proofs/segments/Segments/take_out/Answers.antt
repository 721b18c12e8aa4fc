use Rattle.std.proofs.Common.{◌≡◌, Some, refl, arith}
use Rattle.slab.specs.Slab.{get}
use Rattle.mold_receiver.proofs.SegmentLemmas.{are_without, counted_gone}
use Rattle.mold_receiver.proofs.segments.Segments.take_out.Goals as goal

pub shrink-requires : goal.shrink-requires
shrink-requires c =
    let old = c.args.self.now in
    let before = c.remove-bytes.result in
    let had : get old.table c.args.key ≡ Some before = c.remove-bytes.ensures.value in
    are_without old _ c.args.key c.requires.whole c.remove-bytes.ensures.updates refl c.requires.whole.spare
    (counted_gone old _ c.args.key _ before c.requires.whole had c.remove-bytes.ensures.updates
    (omega (arith, c.saturating_sub-self.ensures)))
