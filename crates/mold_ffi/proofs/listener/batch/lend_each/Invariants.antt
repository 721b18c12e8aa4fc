use Rattle.std.proofs.Common.{◌≡◌, ◌+◌, ◌≤◌, length, take, drop, map}
use Rattle.mold_ffi.proofs.listener.batch.lend_each.Given as goal

-- As many elements are written as messages were read.
abbrev pub invariant-loop-bytes : goal.invariant-loop-bytes
invariant-loop-bytes l = record {
  left : drop l.filled l.batch.messages ≡ l.bytes-iterator;
  room : l.filled ≤ length l.fn.messages;
  counted : l.filled + length l.bytes-iterator ≡ length l.batch.messages;
  told : map (λ bytes. bytes.now) (take l.filled l.messages) ≡ take l.filled l.batch.messages;
  behind : drop l.filled l.messages ≡ drop l.filled l.fn.messages;
}
