use Rattle.std.proofs.Common.{◌≡◌, ◌+◌, ◌≤◌}
use Rattle.std.specs.Io.KnownBytes.{Keeps}
use Rattle.mold_devices.proofs.from_read.read_some.Given as goal

-- No byte was read, and at most 17 calls were made.
abbrev pub invariant-calls : goal.invariant-calls
invariant-calls g l = record {
  kept : Keeps (g.R.Read.remaining l.fn.reader) (g.R.Read.remaining l.reader);
  first : l.first ≡ l.fn.calls_left;
  lower : l.calls_left ≤ l.fn.calls_left;
  few : l.fn.calls_left ≤ l.calls_left + 17;
  none : l.calls_left ≡ l.fn.calls_left → l.reader ≡ l.fn.reader;
}

abbrev pub decreases-calls : goal.decreases-calls
decreases-calls g l = l.calls_left
