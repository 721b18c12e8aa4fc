use Rattle.std.proofs.Common.{◌≡◌, ◌<◌, List, Bool, true, length, slice_set, sym, ap, ◌∙◌, arith}
use Rattle.mold_receiver.proofs.OccupiedRingLemmas.{flags_long, flags_set}
use Rattle.mold_receiver.proofs.RingLemmas.{index_within}
use Rattle.mold_receiver.proofs.occupied.Occupied.set.Goals as goal

pub ring_index-bit-requires : goal.ring_index-bit-requires
ring_index-bit-requires c =
    let long : c.self.inside.count ≡ length c.args.self.now =
    sym (flags_long c.self.inside.levels.bits.items c.self.inside.head c.self.inside.count)
    ∙ ap (λ (t : List Bool). length t) c.self.view_is in
    omega (
      arith,
      c.self.invariant.room,
      c.self.invariant.sound.words_fit,
      c.self.invariant.sound.groups_fit,
      c.self.invariant.sound.top_fits,
    )

pub write_part-requires-clause-within : goal.write_part-requires-clause-within
write_part-requires-clause-within c =
    let long : c.self.inside.count ≡ length c.args.self.now =
    sym (flags_long c.self.inside.levels.bits.items c.self.inside.head c.self.inside.count)
    ∙ ap (λ (t : List Bool). length t) c.self.view_is in
    let inside : c.args.slot < c.self.inside.count = omega arith in
    let within = index_within c.self.inside.head c.self.inside.count c.args.slot c.self.invariant.inside inside in
    omega (arith, c.ring_index-bit.ensures, c.self.invariant.room)

pub invariant_of-self : goal.invariant_of-self
invariant_of-self c =
    let long : c.self.inside.count ≡ length c.args.self.now =
    sym (flags_long c.self.inside.levels.bits.items c.self.inside.head c.self.inside.count)
    ∙ ap (λ (t : List Bool). length t) c.self.view_is in
    let inside : c.args.slot < c.self.inside.count = omega arith in
    let within = index_within c.self.inside.head c.self.inside.count c.args.slot c.self.invariant.inside inside in
    record {
      sound = c.write_part.ensures.levels;
      room = omega (arith, c.self.invariant.room, c.write_part.ensures.written.size);
      inside = c.self.invariant.inside;
      unused = λ i past. c.write_part.ensures.written.after i (omega (arith, c.ring_index-bit.ensures, past)) ∙ c.self.invariant.unused i past;
    }

pub returns : goal.returns
returns c =
    let long : c.self.inside.count ≡ length c.args.self.now =
    sym (flags_long c.self.inside.levels.bits.items c.self.inside.head c.self.inside.count)
    ∙ ap (λ (t : List Bool). length t) c.self.view_is in
    let inside : c.args.slot < c.self.inside.count = omega arith in
    flags_set c.self.inside.levels.bits.items c.write_part.new.self.bits.items c.self.inside.head c.self.inside.count
    c.args.slot c.self.invariant.inside inside (rw c.ring_index-bit.ensures at c.write_part.ensures.written)
    ∙ ap (λ (t : List Bool). slice_set t c.args.slot true) c.self.view_is
