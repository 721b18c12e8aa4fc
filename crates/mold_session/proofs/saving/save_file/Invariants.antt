use Rattle.std.proofs.Common.{◌≡◌, length}
use Rattle.mold_session.specs.File.{head_2}
use Rattle.mold_session.proofs.SavingLemmas.{Saves}
use Rattle.mold_session.proofs.saving.save_file.Given as goal

-- The sink and the buffer have the head and the blocks of the messages so far. The iterator has the remaining
-- messages.
abbrev pub invariant-loop-message : goal.invariant-loop-message
invariant-loop-message g l = record {
  saves : Saves (g.K.Sink.held l.fn.sink) (g.K.Sink.held l.sink) (head_2 l.fn.session.0 l.closed (length l.list.messages))
      l.list.messages l.message-iterator l.buffer;
  counted : g.K.Sink.failed l.sink ≡ g.K.Sink.failed l.fn.sink;
}
