use Rattle.std.proofs.Common.{◌<◌, ℕ}
use Rattle.std.specs.BTreeMap as tree
use Rattle.std.specs.Ordering.{nat_cmp}
use Rattle.mold_capture.specs.declared.run.Run.{Run}
use Rattle.mold_capture.specs.Runs.{BeginWithin, HasRun}
use Rattle.mold_capture.proofs.run.take_back.Given as goal

-- the runs that are still to be removed begin with the numbers that follow
abbrev pub invariant-loop-number : goal.invariant-loop-number
invariant-loop-number l = record {
  ordered : tree.IsOrdered nat_cmp l.runs;
  within : BeginWithin l.runs l.index l.number l.top;
  out : (f : ℕ) (run : Run) → HasRun l.runs f run → HasRun l.fn.runs f run;
  stays : (f : ℕ) (run : Run) → HasRun l.fn.runs f run → run.start < l.index → HasRun l.runs f run;
}
