use Rattle.std.proofs.Common.{arith}
use Rattle.mold_receiver.specs.Shelf.{slots_on}
use Rattle.mold_receiver.proofs.KeptLemmas.{fresh_there, kept_put, put_on}
use Rattle.mold_receiver.proofs.ShelfLemmas.{count_held_in}
use Rattle.mold_receiver.proofs.SlotLemmas.{count_within}
use Rattle.mold_receiver.proofs.shelf.Shelf.mark.Goals as goal

pub overflow_add-self : goal.overflow_add-self
overflow_add-self c =
    omega (arith, c.requires.kept.slots.few, c.requires.kept.slots.counted, count_within (slots_on c.args.self.now))

pub hold-requires-clause-few : goal.hold-requires-clause-few
hold-requires-clause-few c =
    let old = c.args.self.now in
    omega (
      arith,
      c.requires.kept.slots.few,
      count_within (slots_on old),
      c.requires.kept.live c.args.place.segment,
      count_held_in old.segments old.ring c.args.place.segment,
    )

pub returns-clause-kept : goal.returns-clause-kept
returns-clause-kept c =
    kept_put c.args.self.now c.write.new.self c.hold.new.self c.args.slot c.args.place c.set.new.self
    c.requires.kept c.write.ensures c.hold.ensures.whole c.hold.ensures.gained
    c.requires.free c.requires.there c.set.ensures

pub returns-clause-marked : goal.returns-clause-marked
returns-clause-marked c =
    put_on c.args.self.now c.hold.new.self c.write.new.self c.args.slot c.args.place c.requires.kept
    c.hold.ensures.gained c.requires.there (fresh_there c.args.self.now c.args.slot c.requires.free)
    c.write.ensures
