use Rattle.std.proofs.Common.{◌≤◌, ◌-◌, length, take}
use Rattle.mold_input.specs.Blocks.{block_entries}
use Rattle.mold_feeder.specs.Pieces.{AreWhole}
use Rattle.mold_feeder.proofs.piece_reader.whole_blocks.Given as goal

-- the blocks so far are whole
abbrev pub invariant-blocks-2 : goal.invariant-blocks-2
invariant-blocks-2 l = record {
  within : l.count ≤ length l.fn.bytes;
  whole : AreWhole block_entries (take l.count l.fn.bytes);
}

abbrev pub decreases-blocks-2 : goal.decreases-blocks-2
decreases-blocks-2 l = length l.bytes - l.count
