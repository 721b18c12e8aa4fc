use Rattle.std.proofs.Common.{◌≡◌, ◌≤◌}
use Rattle.std.specs.Io.KnownBytes.{prepend_known}
use Rattle.mold_devices.specs.Lines.{work_left}
use Rattle.mold_input.specs.Entries.{known_entries}
use Rattle.mold_publish.proofs.PublishingLemmas.{FilledSoFar}
use Rattle.mold_publish.proofs.filling.fill.Given as goal

-- the messages so far are published, and no device failed
abbrev pub invariant-messages : goal.invariant-messages
invariant-messages g l = record {
  filled : FilledSoFar g.M.MessageReader.input_kind l.fn.publisher l.publisher
      (known_entries g.M.MessageReader.entries
      (prepend_known (g.M.InputReader.unread l.fn.messages) (g.S.Source.left l.fn.source)))
      (known_entries g.M.MessageReader.entries
      (prepend_known (g.M.InputReader.unread l.messages) (g.S.Source.left l.source)));
  work : work_left (g.S.Source.bound l.source) (g.M.InputReader.unread l.messages)
      ≤ work_left (g.S.Source.bound l.fn.source) (g.M.InputReader.unread l.fn.messages);
  failed : g.S.Source.failed l.source ≡ g.S.Source.failed l.fn.source;
}

abbrev pub decreases-messages : goal.decreases-messages
decreases-messages g l = work_left (g.S.Source.bound l.source) (g.M.InputReader.unread l.messages)
