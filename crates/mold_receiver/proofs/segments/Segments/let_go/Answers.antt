use Rattle.std.proofs.Common.{◌≡◌, Some, ap, refl, sym, subst}
use Rattle.std.specs.Prelude.{is_some}
use Rattle.slab.proofs.SlabLemmas.{Updates-with_value}
use Rattle.slab.specs.Slab.{get}
use Rattle.mold_receiver.specs.Segments.{HasLost}
use Rattle.mold_receiver.proofs.SegmentLemmas.{are_with, counted_still, lost_none, lost_with}
use Rattle.mold_receiver.proofs.segments.Segments.let_go.Goals as goal

pub returns-then-count-eq0-clause-lost : goal.returns-then-count-eq0-clause-lost
returns-then-count-eq0-clause-lost c =
    let old = c.args.self.now in
    subst (HasLost old old c.args.key) (sym c.if-count-eq0.true) (lost_none old c.args.key)

pub returns-then-segment-count-clause-whole : goal.returns-then-segment-count-clause-whole
returns-then-segment-count-clause-whole c =
    let old = c.args.self.now in
    let key = c.args.key in
    let before = c.in-Some.segment.now in
    let had : get old.table key ≡ Some before = sym c.in-Some.ensures.value in
    let is = c.requires.whole.each key before had in
    are_with old _ key _ c.requires.whole (Updates-with_value old.table key _ (ap is_some had))
    (record { some = is.some; used = is.used; exact = is.exact; few = is.few })
    (c.requires.whole.keys key before had) (c.requires.whole.size key before had) refl c.requires.whole.spare
    (counted_still old _ key before _ c.requires.whole had (Updates-with_value old.table key _ (ap is_some had)) refl)

pub returns-then-segment-count-clause-lost : goal.returns-then-segment-count-clause-lost
returns-then-segment-count-clause-lost c =
    let old = c.args.self.now in
    let key = c.args.key in
    let before = c.in-Some.segment.now in
    let had : get old.table key ≡ Some before = sym c.in-Some.ensures.value in
    lost_with old _ key c.args.count before _ had (Updates-with_value old.table key _ (ap is_some had))
    c.if-segment-count.true refl refl
