use Rattle.std.proofs.Common.{ℕ, List, Bool, eqb, sym, ap, ◌∙◌}
use Rattle.mold_receiver.specs.Occupied.{bit_of, flag_at}
use Rattle.mold_receiver.proofs.OccupiedRingLemmas.{flag_in, flag_past}
use Rattle.mold_receiver.proofs.occupied.Occupied.is_set.Goals as goal

pub returns-then-slot-self : goal.returns-then-slot-self
returns-then-slot-self c =
    sym (flag_past c.self.inside.levels.bits.items c.self.inside.head c.self.inside.count c.args.slot
    c.if-slot-self.true)
    ∙ ap (λ (t : List Bool). flag_at t c.args.slot) c.self.view_is

pub returns : goal.returns
returns c =
    c.is_bit_set.ensures
    ∙ ap (λ (t : List ℕ). eqb (bit_of t c.ring_index.result) 1) c.deref.ensures.value
    ∙ ap (λ (p : ℕ). eqb (bit_of c.self.inside.levels.bits.items p) 1) c.ring_index.ensures
    ∙ sym (flag_in c.self.inside.levels.bits.items c.self.inside.head c.self.inside.count c.args.slot
    c.if-slot-self.false)
    ∙ ap (λ (t : List Bool). flag_at t c.args.slot) c.self.view_is
