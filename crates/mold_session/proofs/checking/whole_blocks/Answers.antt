use Rattle.std.proofs.Common.{arith}
use Rattle.mold_wire.specs.declared.block.TheConstants.{MAX_MESSAGE}
use Rattle.mold_session.proofs.CheckingLemmas.{one_counted, whole_before}
use Rattle.mold_session.proofs.checking.whole_blocks.Goals as goal

pub counted-preserved : goal.counted-preserved
counted-preserved c = record {
  counted = one_counted MAX_MESSAGE c.counted.count c.args.bytes.now c.counted.rest.now c.in-Ok.behind.now
      c.counted.invariant.counted c.in-Ok.ensures.few c.in-Ok.ensures.skipped;
  few = omega (arith, c.counted-test.true);
}

pub returns : goal.returns
returns c =
    whole_before c.args.limit c.counted.count c.args.bytes.now c.counted.rest.now c.counted.invariant.counted
    c.counted.invariant.few
