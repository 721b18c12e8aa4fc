use Rattle.mold_receiver.proofs.OccupiedLemmas.{write_clear, write_set}
use Rattle.mold_receiver.proofs.occupied.write_bits.Goals as goal
use Rattle.mold_receiver.proofs.occupied.write_bits.Goals.{then-set, else-set}

pub returns : goal.returns
returns c = elim c.if-set.branch [
  | then-set w ↦
      rw w.if-set.true
      (write_set c.args.words.now c.args.from c.args.to w.mask.result c.if-set.new c.requires.there c.requires.some
      c.requires.one w.mask.ensures w.new-is)
  | else-set w ↦
      rw w.if-set.false
      (write_clear c.args.words.now c.args.from c.args.to w.mask-else-set.result c.if-set.new c.requires.there
      c.requires.some c.requires.one w.mask-else-set.ensures w.new-is)
]
