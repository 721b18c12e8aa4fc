use Rattle.std.proofs.Common.{◌≡◌, ◌≤◌, length}
use Rattle.mold_durable.proofs.file_storage.read_all_at.Given as goal

abbrev pub invariant-loop : goal.invariant-loop
invariant-loop l = record {
  within : l.count ≤ length l.buffer;
  same : length l.buffer ≡ length l.fn.buffer;
}
