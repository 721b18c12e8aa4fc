use Rattle.std.proofs.Common.{◌-◌}
use Rattle.mold_session.specs.Loading.{message_spelling}
use Rattle.mold_indexed_file.proofs.PackLemmas.{Gathers}
use Rattle.mold_indexed_file.proofs.packing.pack_piece.Given as goal

-- The messages so far are in the packet.
abbrev pub invariant-loop-count : goal.invariant-loop-count
invariant-loop-count l = Gathers (message_spelling l.version) (l.fn.plan.from - l.first) l.fn.bytes l.fn.plan.session
    l.fn.plan.from l.fn.packer.limit l.packer l.rest l.count
