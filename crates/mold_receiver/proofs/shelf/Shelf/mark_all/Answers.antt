use Rattle.std.proofs.Common.{◌≡◌, ◌+◌, List, ℕ, length, length-drop, take, drop, replicate, true, ◌++◌, ap, ◌∙◌, subst, arith}
use Rattle.mold_receiver.specs.Segments.{HasGained, bytes_at}
use Rattle.mold_receiver.specs.Shelf.{slots_on}
use Rattle.mold_receiver.proofs.PlacedLemmas.{blocks_long, filled_on, kept_filled}
use Rattle.mold_receiver.proofs.ShelfLemmas.{count_held_in}
use Rattle.mold_receiver.proofs.SlotLemmas.{count_within}
use Rattle.mold_receiver.proofs.TightLemmas.{marked_all}
use Rattle.mold_receiver.proofs.shelf.Shelf.mark_all.Goals as goal

pub hold-requires-clause-some : goal.hold-requires-clause-some
hold-requires-clause-some c =
    let bytes = bytes_at c.args.self.now.segments c.args.begin.segment in
    omega (
      arith,
      c.len-count.ensures.range.0,
      c.len-count.ensures.length,
      blocks_long c.args.blocks.now,
      ap (λ (t : List ℕ). length t) c.requires.there,
      length-drop c.args.begin.start bytes,
    )

pub hold-requires-clause-few : goal.hold-requires-clause-few
hold-requires-clause-few c =
    let old = c.args.self.now in
    omega (
      arith,
      c.requires.kept.slots.few,
      count_within (slots_on old),
      c.requires.kept.live c.args.begin.segment,
      count_held_in old.segments old.ring c.args.begin.segment,
    )

pub overflow_add-self : goal.overflow_add-self
overflow_add-self c =
    omega (arith, c.requires.kept.slots.few, c.requires.kept.slots.counted, count_within (slots_on c.args.self.now))

pub returns-clause-kept : goal.returns-clause-kept
returns-clause-kept c =
    let old = c.args.self.now in
    kept_filled old c.args.slot c.args.begin c.args.blocks.now c.requires.kept c.requires.free c.requires.each
    c.requires.there c.write_blocks.new.self c.hold.new.self _ c.set_range.new.self c.write_blocks.ensures
    c.hold.ensures.whole
    (subst (λ (n : ℕ). HasGained old.segments c.hold.new.self c.args.begin.segment n)
    (c.from-2.ensures ∙ c.len-count.ensures.length) c.hold.ensures.gained)
    (omega (arith, c.from-3.ensures, c.len-count.ensures.length))
    (subst (λ (n : ℕ). c.set_range.new.self ≡ take c.args.slot old.occupied ++ replicate n true ++ drop
    (c.args.slot + n) old.occupied) (c.from.ensures ∙ c.len-count.ensures.length) c.set_range.ensures)

pub returns-clause-filled : goal.returns-clause-filled
returns-clause-filled c =
    let old = c.args.self.now in
    filled_on c.args.self.now c.args.slot c.args.begin c.args.blocks.now c.requires.kept c.requires.free c.requires.each
    c.requires.there c.write_blocks.new.self c.hold.new.self c.write_blocks.ensures
    (subst (λ (n : ℕ). HasGained old.segments c.hold.new.self c.args.begin.segment n)
    (c.from-2.ensures ∙ c.len-count.ensures.length) c.hold.ensures.gained)

pub returns-clause-marked : goal.returns-clause-marked
returns-clause-marked c =
    marked_all c.args.self.now c.args.slot c.args.begin c.args.blocks.now c.requires.kept c.requires.free
    c.requires.each c.requires.there _ c.write_blocks.ensures c.hold.ensures.gained.bytes
