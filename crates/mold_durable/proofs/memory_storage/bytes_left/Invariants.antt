use Rattle.std.proofs.Common.{◌≡◌, [], drop}
use Rattle.mold_durable.specs.Memory.{left_by}
use Rattle.mold_durable.proofs.memory_storage.bytes_left.Given as goal

-- The calls so far left these bytes, and the remaining ones leave what all leave.
abbrev pub invariant-loop-call : goal.invariant-loop-call
invariant-loop-call l =
    left_by l.tears l.left.items (drop l.call-index l.calls) l.rest ≡ left_by l.tears [] l.calls l.tears
