use Rattle.std.proofs.Common.{arith}
use Rattle.mold_extract.proofs.RunLemmas.{few_between}
use Rattle.mold_extract.proofs.blocks.extract_blocks.Goals as goal

pub put_blocks-requires : goal.put_blocks-requires
put_blocks-requires g c =
    few_between c.args.checker.now.pairs c.first-first.result c.below-below.result c.new-carried.result
    (omega (arith, c.below-below.ensures)) c.new-carried.ensures
