use Rattle.mold_wire.specs.Block.{AreBlocksAndRest}
use Rattle.mold_wire.proofs.block.skip_blocks.Given as goal

-- The blocks that were skipped are whole.
abbrev pub invariant-loop-index : goal.invariant-loop-index
invariant-loop-index l = AreBlocksAndRest l.index l.bytes l.rest
