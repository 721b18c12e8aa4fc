use Rattle.std.proofs.Common.{◌≤◌, ◌+◌, ◌++◌, List, Bool, take, drop, replicate, ap, ◌∙◌, arith}
use Rattle.mold_receiver.proofs.OccupiedRingLemmas.{flags_count, flags_written}
use Rattle.mold_receiver.proofs.RingLemmas.{index_starts}
use Rattle.mold_receiver.proofs.occupied.Occupied.write.Goals as goal

pub ring_index-start-requires : goal.ring_index-start-requires
ring_index-start-requires c =
    let f = c.self.inside in
    let sound = c.self.invariant.sound in
    omega (
      arith,
      flags_count f.levels.bits.items f.head f.count c.args.self.now c.self.view_is,
      c.requires,
      c.self.invariant.inside,
      c.self.invariant.room,
      sound.words_fit,
      sound.groups_fit,
      sound.top_fits,
    )

pub overflow_add-end : goal.overflow_add-end
overflow_add-end c =
    let f = c.self.inside in
    let sound = c.self.invariant.sound in
    let long = flags_count f.levels.bits.items f.head f.count c.args.self.now c.self.view_is in
    let most : c.args.slot ≤ f.count = omega (arith, c.requires, long) in
    omega (
      arith,
      long,
      c.requires,
      c.ring_index-start.ensures,
      index_starts f.head f.count c.args.slot c.self.invariant.inside most,
      c.self.invariant.room,
      sound.words_fit,
      sound.groups_fit,
      sound.top_fits,
    )

pub write-requires-clause-order : goal.write-requires-clause-order
write-requires-clause-order c =
    let f = c.self.inside in
    let long = flags_count f.levels.bits.items f.head f.count c.args.self.now c.self.view_is in
    let most : c.args.slot ≤ f.count = omega (arith, c.requires, long) in
    omega (arith, c.min.ensures, c.ring_index-start.ensures, index_starts f.head f.count c.args.slot c.self.invariant.inside most)

pub write-requires-2-clause-within : goal.write-requires-2-clause-within
write-requires-2-clause-within c =
    let f = c.self.inside in
    let long = flags_count f.levels.bits.items f.head f.count c.args.self.now c.self.view_is in
    let most : c.args.slot ≤ f.count = omega (arith, c.requires, long) in
    omega (
      arith,
      long,
      c.requires,
      c.saturating_sub.ensures,
      c.ring_index-start.ensures,
      c.self.invariant.room,
      c.write.ensures.written.size,
      index_starts f.head f.count c.args.slot c.self.invariant.inside most,
    )

pub invariant_of-self : goal.invariant_of-self
invariant_of-self c =
    let f = c.self.inside in
    let long = flags_count f.levels.bits.items f.head f.count c.args.self.now c.self.view_is in
    let most : c.args.slot ≤ f.count = omega (arith, c.requires, long) in
    let low = index_starts f.head f.count c.args.slot c.self.invariant.inside most in
    record {
      sound = c.write-2.ensures.levels;
      room = omega (arith, c.self.invariant.room, c.write.ensures.written.size, c.write-2.ensures.written.size);
      inside = c.self.invariant.inside;
      unused = λ i past.
          c.write-2.ensures.written.after i (omega (arith, c.saturating_sub.ensures, c.ring_index-start.ensures, low, long, c.requires, past))
          ∙ c.write.ensures.written.after i (omega (arith, c.min.ensures, past)) ∙ c.self.invariant.unused i past;
    }

pub returns : goal.returns
returns c =
    let f = c.self.inside in
    let long = flags_count f.levels.bits.items f.head f.count c.args.self.now c.self.view_is in
    flags_written f.levels.bits.items c.write.new.self.bits.items c.write-2.new.self.bits.items f.head f.count c.args.slot
    c.args.count c.args.set c.self.invariant.inside (omega (arith, c.requires, long)) c.ring_index-start.result
    (c.ring_index-start.result + c.args.count) c.ring_index-start.ensures (omega arith)
    (rw c.min.ensures at c.write.ensures.written) (rw c.saturating_sub.ensures at c.write-2.ensures.written)
    ∙ ap (λ (t : List Bool). take c.args.slot t ++ replicate c.args.count c.args.set ++ drop (c.args.slot + c.args.count) t) c.self.view_is
