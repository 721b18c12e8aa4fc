use Rattle.std.proofs.Common.{◌<◌, ◌^◌, ◌+◌, ◌-◌, length}
use Rattle.mold_receiver.specs.Handing.{run_in}
use Rattle.mold_receiver.proofs.BatchLemmas.{IsHanding}
use Rattle.mold_receiver.proofs.hand.push_held.Given as goal

abbrev pub invariant-loop-run : goal.invariant-loop-run
invariant-loop-run l = record {
  handing :
      IsHanding l.fn.batch l.batch (l.next + l.start) (l.next + l.end) (run_in l.slots l.end) (run_in l.slots l.start);
  fits : l.next + l.end < 2 ^ 64;
}

abbrev pub decreases-loop-run : goal.decreases-loop-run
decreases-loop-run l = length l.slots - l.end
