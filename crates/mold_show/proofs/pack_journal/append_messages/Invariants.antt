use Rattle.std.proofs.Common.{◌≡◌}
use Rattle.std.specs.Io.KnownBytes.{prepend_known}
use Rattle.mold_devices.specs.Lines.{work_left}
use Rattle.mold_input.specs.Entries.{known_input}
use Rattle.mold_show.proofs.PackJournalLemmas.{SoFar}
use Rattle.mold_show.proofs.pack_journal.append_messages.Given as goal

-- the messages so far are appended, and no device failed
abbrev pub invariant-messages : goal.invariant-messages
invariant-messages g l = record {
  appended :
      SoFar l.fn.journal l.journal
      (known_input g.M.MessageReader.input_kind g.M.MessageReader.entries (g.S.Source.left l.fn.source))
      (known_input g.M.MessageReader.input_kind g.M.MessageReader.entries
      (prepend_known (g.M.InputReader.unread l.messages) (g.S.Source.left l.source)));
  failed : g.S.Source.failed l.source ≡ g.S.Source.failed l.fn.source;
}

abbrev pub decreases-messages : goal.decreases-messages
decreases-messages g l = work_left (g.S.Source.bound l.source) (g.M.InputReader.unread l.messages)
