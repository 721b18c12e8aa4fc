use Rattle.std.proofs.Common.{arith}
use Rattle.mold_receiver.proofs.SkipLemmas.{held_first, kept_skipped, skipped}
use Rattle.mold_receiver.proofs.ShelfLemmas.{no_place}
use Rattle.mold_receiver.proofs.TightLemmas.{tight_skipped}
use Rattle.mold_receiver.proofs.shelf.Shelf.drop_first.Goals as goal

pub overflow_sub-self : goal.overflow_sub-self
overflow_sub-self c =
    let old = c.args.self.now in
    omega (
      arith,
      c.release.ensures.count,
      c.requires.kept.slots.counted,
      held_first old.segments old.ring c.args.count,
    )

pub returns-clause-kept : goal.returns-clause-kept
returns-clause-kept c =
    let old = c.args.self.now in
    kept_skipped old c.release.new.ring c.release.new.segments c.args.count c.requires.kept c.requires.within
    c.release.ensures.moved c.release.ensures.whole c.release.ensures.lost _ c.skip.new.self
    (omega (arith, c.release.ensures.count)) c.skip.ensures

pub returns-clause-moved : goal.returns-clause-moved
returns-clause-moved c =
    let old = c.args.self.now in
    skipped old c.release.new.ring c.release.new.segments c.args.count c.requires.kept c.requires.within
    c.release.ensures.moved c.release.ensures.whole c.release.ensures.lost

pub returns-clause-tight : goal.returns-clause-tight
returns-clause-tight c =
    let old = c.args.self.now in
    tight_skipped old c.args.count c.requires.kept c.requires.tight
    (no_place old.segments old.ring c.args.count c.requires.ends) _ c.requires.within c.release.ensures.moved
    c.release.ensures.whole c.release.ensures.lost
