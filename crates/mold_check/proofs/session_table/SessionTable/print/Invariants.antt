use Rattle.std.proofs.Common.{◌≡◌, ◌++◌}
use Rattle.std.specs.Prelude.{max}
use Rattle.mold_devices.specs.Writing.{Moves}
use Rattle.mold_check.specs.EachCheck.{entries_statuses, entries_text, greatest}
use Rattle.mold_check.proofs.session_table.SessionTable.print.Given as goal

-- The text and the lines of the remaining sessions are what is not written yet.
abbrev pub invariant-loop-key : goal.invariant-loop-key
invariant-loop-key g l = record {
  moves :
      Moves (g.K.Sink.held l.fn.sink) (g.K.Sink.held l.sink)
      (l.fn.text.items ++ entries_text g.J.Judge.judging (g.N.Naming.named l.naming) l.refused l.self)
      (l.text.items ++ entries_text g.J.Judge.judging (g.N.Naming.named l.naming) l.refused l.key-iterator);
  statuses :
      max l.greatest (greatest (entries_statuses g.J.Judge.judging l.key-iterator))
      ≡ greatest (entries_statuses g.J.Judge.judging l.self);
  counted : g.K.Sink.failed l.sink ≡ g.K.Sink.failed l.fn.sink;
}
