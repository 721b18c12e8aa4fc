use Rattle.std.proofs.Common.{◌+◌, ◌-◌, ◌≤◌, length, drop}
use Rattle.mold_ffi.proofs.RecordLemmas.{HasAdded}
use Rattle.mold_ffi.proofs.publisher.records.records_length.Given as goal

abbrev pub invariant-messages : goal.invariant-messages
invariant-messages l = record {
  some : 1 ≤ l.number;
  added : HasAdded (drop (l.from - 1) l.journal.messages) (drop (l.number - 1) l.journal.messages) l.size;
}

abbrev pub decreases-messages : goal.decreases-messages
decreases-messages l = length l.journal.messages + 1 - l.number
