use Rattle.std.proofs.Common.{◌+◌, ◌-◌, ◌≤◌, length, drop}
use Rattle.mold_ffi.proofs.RecordLemmas.{Fills}
use Rattle.mold_ffi.proofs.publisher.records.put_records.Given as goal

abbrev pub invariant-messages : goal.invariant-messages
invariant-messages l = record {
  some : 1 ≤ l.number;
  fills : Fills l.fn.buffer l.buffer (drop (l.from - 1) l.journal.messages) (drop (l.number - 1) l.journal.messages)
      l.used;
}

abbrev pub decreases-messages : goal.decreases-messages
decreases-messages l = length l.journal.messages + 1 - l.number
