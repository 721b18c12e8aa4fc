use Rattle.std.proofs.Common.{◌≡◌, Some, ap, refl, sym}
use Rattle.std.specs.Prelude.{is_some}
use Rattle.slab.proofs.SlabLemmas.{Updates-with_value}
use Rattle.slab.specs.Slab.{get}
use Rattle.mold_receiver.proofs.SegmentLemmas.{are_with, counted_still, gained_with}
use Rattle.mold_receiver.proofs.segments.Segments.hold.Goals as goal

pub returns-in-Some-clause-whole : goal.returns-in-Some-clause-whole
returns-in-Some-clause-whole c =
    let old = c.args.self.now in
    let key = c.args.key in
    let before = c.in-Some.segment.now in
    let had : get old.table key ≡ Some before = sym c.in-Some.ensures.value in
    let is = c.requires.whole.each key before had in
    are_with old _ key _ c.requires.whole (Updates-with_value old.table key _ (ap is_some had))
    (record { some = is.some; used = is.used; exact = is.exact; few = is.few })
    (c.requires.whole.keys key before had) (c.requires.whole.size key before had) refl c.requires.whole.spare
    (counted_still old _ key before _ c.requires.whole had (Updates-with_value old.table key _ (ap is_some had)) refl)

pub returns-in-Some-clause-gained : goal.returns-in-Some-clause-gained
returns-in-Some-clause-gained c =
    let old = c.args.self.now in
    let key = c.args.key in
    let before = c.in-Some.segment.now in
    let had : get old.table key ≡ Some before = sym c.in-Some.ensures.value in
    gained_with old _ key c.args.count before _ had (Updates-with_value old.table key _ (ap is_some had)) refl refl
