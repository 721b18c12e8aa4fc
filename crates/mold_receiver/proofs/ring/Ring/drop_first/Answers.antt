use Rattle.std.proofs.Common.{arith}
use Rattle.mold_receiver.proofs.SkipLemmas.{one_left}
use Rattle.mold_receiver.proofs.ring.Ring.drop_first.Goals as goal

pub loop-slot-preserved : goal.loop-slot-preserved
loop-slot-preserved c = record {
  left = one_left c.args.self.now c.loop-slot.self c.pop.new.self c.loop-slot._slot c.loop-slot.invariant.left
      c.pop.ensures.moved (omega (arith, c.requires, c.loop-slot-test.true));
}
