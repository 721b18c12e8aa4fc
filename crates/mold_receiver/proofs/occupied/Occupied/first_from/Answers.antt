use Rattle.std.proofs.Common.{◌≤◌, ◌+◌, ◌-◌, List, Bool, subst, refl, arith}
use Rattle.mold_receiver.specs.Occupied.{IsFirstFlag}
use Rattle.mold_receiver.proofs.FirstFlagLemmas.{flag_behind, flag_found}
use Rattle.mold_receiver.proofs.OccupiedRingLemmas.{flags_count}
use Rattle.mold_receiver.proofs.RingLemmas.{index_starts}
use Rattle.mold_receiver.proofs.occupied.Occupied.first_from.Goals as goal

pub ring_index-start-requires : goal.ring_index-start-requires
ring_index-start-requires c =
    let f = c.self.inside in
    let l = c.self.invariant.sound in
    omega (
      arith,
      c.requires,
      flags_count f.levels.bits.items f.head f.count c.args.self.now c.self.view_is,
      c.self.invariant.inside,
      c.self.invariant.room,
      l.words_fit,
      l.groups_fit,
      l.top_fits,
    )

pub overflow_sub-end : goal.overflow_sub-end
overflow_sub-end c =
    let f = c.self.inside in
    omega (arith, c.requires, flags_count f.levels.bits.items f.head f.count c.args.self.now c.self.view_is)

pub first_bit-bit-requires-clause-order : goal.first_bit-bit-requires-clause-order
first_bit-bit-requires-clause-order c =
    let f = c.self.inside in
    let few : c.args.from ≤ f.count =
    omega (arith, c.requires, flags_count f.levels.bits.items f.head f.count c.args.self.now c.self.view_is) in
    omega (
      arith,
      c.min-last.ensures,
      c.ring_index-start.ensures,
      index_starts f.head f.count c.args.from c.self.invariant.inside few,
    )

pub returns-then-bit-last : goal.returns-then-bit-last
returns-then-bit-last c =
    let f = c.self.inside in
    let few : c.args.from ≤ f.count =
    omega (arith, c.requires, flags_count f.levels.bits.items f.head f.count c.args.self.now c.self.view_is) in
    subst (λ (t : List Bool). IsFirstFlag t c.args.from c.args.set
    (c.args.from + (c.first_bit-bit.result - c.ring_index-start.result))) c.self.view_is
    (flag_found f.levels.bits.items f.head f.count c.args.from c.args.set c.self.invariant.inside few
    c.ring_index-start.result _ c.min-last.result c.ring_index-start.ensures refl c.min-last.ensures
    c.first_bit-bit.result c.first_bit-bit.ensures (omega (arith, c.if-bit-last.true)))

pub returns : goal.returns
returns c =
    let f = c.self.inside in
    let few : c.args.from ≤ f.count =
    omega (arith, c.requires, flags_count f.levels.bits.items f.head f.count c.args.self.now c.self.view_is) in
    subst (λ (t : List Bool). IsFirstFlag t c.args.from c.args.set
    (c.args.from + (c.min-last.result - c.ring_index-start.result) + c.first_bit.result)) c.self.view_is
    (flag_behind f.levels.bits.items f.head f.count c.args.from c.args.set c.self.invariant.inside few
    c.ring_index-start.result _ c.min-last.result c.ring_index-start.ensures refl c.min-last.ensures
    c.first_bit-bit.result c.first_bit-bit.ensures (omega (arith, c.if-bit-last.false)) c.first_bit.result
    c.first_bit.ensures)
