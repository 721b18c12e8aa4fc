use Rattle.std.proofs.Common.{◌≡◌, ◌≤◌, ◌++◌}
use Rattle.std.specs.Prelude.{vec_capacity}
use Rattle.mold_wire.specs.Block.{blocks}
use Rattle.mold_digest.specs.Digested.{digests}
use Rattle.mold_digest.proofs.digested.push_digests.Given as goal

-- The blocks so far, and those of the remaining messages.
abbrev pub invariant-loop-message : goal.invariant-loop-message
invariant-loop-message l = record {
  told : l.out.items ++ blocks (digests l.key l.message-iterator)
      ≡ l.fn.out.items ++ blocks (digests l.key l.messages);
  capacity : vec_capacity l.fn.out ≤ vec_capacity l.out;
}
