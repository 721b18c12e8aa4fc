use Rattle.std.proofs.Common.{◌≡◌, ◌+◌, ◌≤◌, length, take}
use Rattle.std.specs.List.{AllByRecursion}
use Rattle.mold_wire.specs.Block.{IsMessage}
use Rattle.mold_capture.specs.Runs.{AreRuns, BeginWithin, IsSince, carried}
use Rattle.mold_capture.specs.Seen.{pairs_with}
use Rattle.mold_capture.proofs.keep.add_each.Given as goal

abbrev pub invariant-loop-message : goal.invariant-loop-message
invariant-loop-message l = record {
  are : AreRuns l.runs (length l.kept);
  short : AllByRecursion IsMessage l.message-iterator;
  counted : l.number + length l.message-iterator ≡ l.first + length l.blocks;
  same :
      pairs_with (carried l.runs l.kept) l.number l.message-iterator
      ≡ pairs_with (carried l.fn.runs l.fn.kept) l.first l.blocks;
  since : IsSince l.fn.runs l.runs l.since;
  from : l.first ≤ l.number;
  within : BeginWithin l.runs l.since l.first l.number;
  front : take l.since l.kept ≡ l.fn.kept;
  more : l.since ≤ length l.kept;
}
