use Rattle.std.proofs.Common.{◌≤◌, ◌-◌, length, take}
use Rattle.mold_feeder.specs.ToEmpty.{MarksAfter}
use Rattle.mold_feeder.proofs.piece_source.blocks_before_empty.Given as goal

-- the blocks so far are whole and not empty
abbrev pub invariant-blocks-2 : goal.invariant-blocks-2
invariant-blocks-2 l = record {
  within : l.count ≤ length l.fn.bytes;
  marks : MarksAfter (take l.count l.fn.bytes);
}

abbrev pub decreases-blocks-2 : goal.decreases-blocks-2
decreases-blocks-2 l = length l.bytes - l.count
