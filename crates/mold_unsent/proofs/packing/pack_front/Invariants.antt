use Rattle.mold_session.proofs.PackingLemmas.{Gathers}
use Rattle.mold_unsent.proofs.packing.pack_front.Given as goal

-- The messages so far are in the packet. The iterator has the remaining messages.
abbrev pub invariant-loop-message : goal.invariant-loop-message
invariant-loop-message l = Gathers l.fn.packer.limit l.fn.session l.fn.sequence l.fn.messages l.fn.most
    l.packer l.message-iterator l.count
