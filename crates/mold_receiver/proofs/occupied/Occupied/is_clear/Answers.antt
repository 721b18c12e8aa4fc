use Rattle.std.proofs.Common.{refl, List, Bool, subst, arith, ◌↔◌}
use Rattle.std.specs.Prelude.{IsTrue}
use Rattle.mold_receiver.specs.Occupied.{AreUnset}
use Rattle.mold_receiver.proofs.OccupiedRingLemmas.{clear_straight, clear_wrapped, not_clear, unset_none}
use Rattle.mold_receiver.proofs.RingLemmas.{index_within}
use Rattle.mold_receiver.proofs.occupied.Occupied.is_clear.Goals as goal

pub returns-then-from-to : goal.returns-then-from-to
returns-then-from-to c =
    let f = c.self.inside in
    let unset = subst (λ (t : List Bool). AreUnset t c.args.from c.args.to) c.self.view_is
    (unset_none f.levels.bits.items f.head f.count c.args.from c.args.to c.self.invariant.inside
    (omega (arith, c.if-from-to.true, c.min-to.ensures))) in
    (λ is. unset, λ all. refl)

pub returns-then-end-self : goal.returns-then-end-self
returns-then-end-self c =
    let f = c.self.inside in
    subst (λ (t : List Bool). IsTrue c.is_clear.result ↔ AreUnset t c.args.from c.args.to) c.self.view_is
    (clear_straight f.levels.bits.items f.head f.count c.args.from c.args.to c.self.invariant.inside
    c.ring_index-start.result _ c.ring_index-start.ensures (omega (arith, c.min-to.ensures)) c.is_clear.result
    c.if-end-self.true c.is_clear.ensures)

pub returns-then-is_clear : goal.returns-then-is_clear
returns-then-is_clear c =
    let f = c.self.inside in
    subst (λ (t : List Bool). IsTrue c.is_clear-then-is_clear.result ↔ AreUnset t c.args.from c.args.to) c.self.view_is
    (clear_wrapped f.levels.bits.items f.head f.count c.args.from c.args.to c.self.invariant.inside
    c.ring_index-start.result _ c.ring_index-start.ensures (omega (arith, c.min-to.ensures))
    c.is_clear-then-is_clear.result c.if-end-self.false c.is_clear-then-is_clear.ensures
    (c.is_clear-2.ensures.0 c.if-is_clear.true)
    (omega (
      arith,
      c.ring_index-start.ensures,
      c.if-from-to.false,
      c.min-to.ensures,
      index_within f.head f.count c.args.from c.self.invariant.inside,
    )))

pub returns-else-is_clear : goal.returns-else-is_clear
returns-else-is_clear c =
    let f = c.self.inside in
    subst (λ (t : List Bool). IsTrue c.is_clear-2.result ↔ AreUnset t c.args.from c.args.to) c.self.view_is
    (not_clear f.levels.bits.items f.head f.count c.args.from c.args.to c.self.invariant.inside
    c.ring_index-start.result _ c.ring_index-start.ensures (omega (arith, c.min-to.ensures)) c.is_clear-2.result
    c.if-end-self.false c.is_clear-2.ensures c.if-is_clear.false)
