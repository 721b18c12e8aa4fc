use Rattle.std.proofs.Common.{◌≡◌, Some, sym, refl, arith}
use Rattle.slab.specs.Slab.{get}
use Rattle.mold_receiver.proofs.SegmentLemmas.{are_without, counted_gone}
use Rattle.mold_receiver.proofs.segments.Segments.give_back.Goals as goal

pub save-requires : goal.save-requires
save-requires c =
    let old = c.args.self.now in
    let before = c.in-Some.field-0 in
    let had : get old.table c.args.key ≡ Some before = sym c.in-Some.ensures.value in
    record {
      whole = are_without old _ c.args.key c.requires c.try_remove.ensures.updates refl c.requires.spare
          (counted_gone old _ c.args.key _ before c.requires had c.try_remove.ensures.updates
          (omega (arith, c.saturating_sub-self.ensures)));
    }
