use Rattle.std.proofs.Common.{length}
use Rattle.mold_session.specs.File.{head_2}
use Rattle.mold_session.proofs.PuttingLemmas.{Fills}
use Rattle.mold_session.proofs.saving.put_file.Given as goal

-- The buffer has the head and the blocks of the messages so far. The iterator has the remaining messages.
abbrev pub invariant-loop-message : goal.invariant-loop-message
invariant-loop-message l =
    Fills l.fn.bytes l.bytes (head_2 l.fn.session.0 l.closed (length l.list.messages)) l.list.messages l.message-iterator
    l.used
