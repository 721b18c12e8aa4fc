use Rattle.std.proofs.Common.{◌≡◌, ◌++◌, List, Bool, drop, replicate, length, false, ap, ◌∙◌, arith}
use Rattle.mold_receiver.proofs.OccupiedRingLemmas.{flags_count, flags_skipped}
use Rattle.mold_receiver.proofs.RingLemmas.{filled_long, index_starts}
use Rattle.mold_receiver.proofs.occupied.Occupied.skip.Goals as goal

pub ring_index-self-inside-requires : goal.ring_index-self-inside-requires
ring_index-self-inside-requires c =
    let f = c.self.inside in
    let sound = c.self.invariant.sound in
    omega (
      arith,
      flags_count f.levels.bits.items f.head f.count c.write.new.self c.self.view_is,
      ap (λ (t : List Bool). length t) c.write.ensures,
      filled_long 0 c.args.count false c.args.self.now (omega (arith, c.requires)),
      c.requires,
      c.self.invariant.inside,
      c.self.invariant.room,
      sound.words_fit,
      sound.groups_fit,
      sound.top_fits,
    )

pub invariant_of-self : goal.invariant_of-self
invariant_of-self c =
    let f = c.self.inside in
    let long : f.count ≡ length c.args.self.now = flags_count f.levels.bits.items f.head f.count c.write.new.self c.self.view_is
    ∙ ap (λ (t : List Bool). length t) c.write.ensures ∙ filled_long 0 c.args.count false c.args.self.now (omega (arith, c.requires)) in
    let is = c.self.invariant in
    record {
      sound = is.sound;
      room = is.room;
      inside = omega (arith, c.ring_index-self-inside.ensures, index_starts f.head f.count c.args.count is.inside (omega (arith, long, c.requires)));
      unused = is.unused;
    }

pub returns : goal.returns
returns c =
    let f = c.self.inside in
    let long : f.count ≡ length c.args.self.now = flags_count f.levels.bits.items f.head f.count c.write.new.self c.self.view_is
    ∙ ap (λ (t : List Bool). length t) c.write.ensures ∙ filled_long 0 c.args.count false c.args.self.now (omega (arith, c.requires)) in
    rw c.ring_index-self-inside.ensures
    (flags_skipped f.levels.bits.items f.head f.count c.args.count c.args.self.now c.self.invariant.inside
    (omega (arith, long, c.requires))
    (c.self.view_is ∙ c.write.ensures ∙ ap (λ n. replicate c.args.count false ++ drop n c.args.self.now) (omega arith)))
