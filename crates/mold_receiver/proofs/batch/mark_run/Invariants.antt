use Rattle.std.proofs.Common.{◌≡◌, ◌+◌, length}
use Rattle.mold_receiver.specs.Places.{end_from, messages_from}
use Rattle.mold_receiver.proofs.MarkLemmas.{IsMarking}
use Rattle.mold_receiver.proofs.batch.mark_run.Given as goal

abbrev pub invariant-loop-left : goal.invariant-loop-left
invariant-loop-left l = record {
  bytes : l.list.bytes ≡ l.fn.list.bytes;
  behind : l.list.end ≡ l.begin + l.at;
  ends : end_from l.run.bytes.now l.at l.left ≡ length l.run.bytes.now;
  marking :
      IsMarking l.fn.list.messages l.list.messages (messages_from l.run.bytes.now l.at l.left)
      (messages_from l.run.bytes.now 0 l.run.count);
}

abbrev pub decreases-loop-left : goal.decreases-loop-left
decreases-loop-left l = l.left
