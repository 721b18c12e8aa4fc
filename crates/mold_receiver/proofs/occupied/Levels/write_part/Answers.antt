use Rattle.std.proofs.Common.{refl}
use Rattle.mold_receiver.proofs.OccupiedLemmas.{levels_written_1, levels_written_2, levels_written_3, levels_written_4, write_in}
use Rattle.mold_receiver.proofs.occupied.Levels.write_part.Goals as goal

pub returns-then-not-write_bits-clause-levels : goal.returns-then-not-write_bits-clause-levels
returns-then-not-write_bits-clause-levels c =
    let bits = write_in c.args.self.now.bits c.deref_mut.ensures.value c.deref_mut.ensures.len c.write_bits.ensures in
    levels_written_1 c.args.self.now _ c.args.from c.args.to _ c.requires.levels _ bits c.if-not-write_bits.true refl
    refl refl

pub returns-then-not-write_bits-2-clause-levels : goal.returns-then-not-write_bits-2-clause-levels
returns-then-not-write_bits-2-clause-levels c =
    let bits = write_in c.args.self.now.bits c.deref_mut.ensures.value c.deref_mut.ensures.len c.write_bits.ensures in
    let words = write_in c.args.self.now.words c.deref_mut-2.ensures.value c.deref_mut-2.ensures.len
    c.write_bits-2.ensures in
    levels_written_2 c.args.self.now _ c.args.from c.args.to _ c.requires.levels _ _ bits c.if-not-write_bits.false words
    c.if-not-write_bits-2.true refl refl

pub returns-then-not-write_bits-3-clause-levels : goal.returns-then-not-write_bits-3-clause-levels
returns-then-not-write_bits-3-clause-levels c =
    let bits = write_in c.args.self.now.bits c.deref_mut.ensures.value c.deref_mut.ensures.len c.write_bits.ensures in
    let words = write_in c.args.self.now.words c.deref_mut-2.ensures.value c.deref_mut-2.ensures.len
    c.write_bits-2.ensures in
    let groups = write_in c.args.self.now.groups c.deref_mut-3.ensures.value c.deref_mut-3.ensures.len
    c.write_bits-3.ensures in
    levels_written_3 c.args.self.now _ c.args.from c.args.to _ c.requires.levels _ _ bits c.if-not-write_bits.false words
    _ c.if-not-write_bits-2.false groups c.if-not-write_bits-3.true refl

pub returns-clause-levels : goal.returns-clause-levels
returns-clause-levels c =
    let bits = write_in c.args.self.now.bits c.deref_mut.ensures.value c.deref_mut.ensures.len c.write_bits.ensures in
    let words = write_in c.args.self.now.words c.deref_mut-2.ensures.value c.deref_mut-2.ensures.len
    c.write_bits-2.ensures in
    let groups = write_in c.args.self.now.groups c.deref_mut-3.ensures.value c.deref_mut-3.ensures.len
    c.write_bits-3.ensures in
    levels_written_4 c.args.self.now _ c.args.from c.args.to _ c.requires.levels _ _ bits c.if-not-write_bits.false words
    _ c.if-not-write_bits-2.false groups c.if-not-write_bits-3.false c.write_bits-4.ensures.bits

pub returns-then-not-write_bits-clause-written : goal.returns-then-not-write_bits-clause-written
returns-then-not-write_bits-clause-written c =
    (write_in c.args.self.now.bits c.deref_mut.ensures.value c.deref_mut.ensures.len c.write_bits.ensures).bits

pub returns-then-not-write_bits-2-clause-written : goal.returns-then-not-write_bits-2-clause-written
returns-then-not-write_bits-2-clause-written c =
    (write_in c.args.self.now.bits c.deref_mut.ensures.value c.deref_mut.ensures.len c.write_bits.ensures).bits

pub returns-then-not-write_bits-3-clause-written : goal.returns-then-not-write_bits-3-clause-written
returns-then-not-write_bits-3-clause-written c =
    (write_in c.args.self.now.bits c.deref_mut.ensures.value c.deref_mut.ensures.len c.write_bits.ensures).bits

pub returns-clause-written : goal.returns-clause-written
returns-clause-written c =
    (write_in c.args.self.now.bits c.deref_mut.ensures.value c.deref_mut.ensures.len c.write_bits.ensures).bits
