use Rattle.std.proofs.Common.{◌≡◌, ◌+◌, ◌-◌, ◌≤◌, length}
use Rattle.std.specs.Io.KnownBytes.{prepend_known}
use Rattle.mold_input.specs.Entries.{known_entries}
use Rattle.mold_feeder.specs.JournalMessages.{HasMessages}
use Rattle.mold_feeder.proofs.ComparisonLemmas.{SoFar}
use Rattle.mold_feeder.proofs.comparison.compare_all.Given as goal

-- If the file has the journal's messages, the entries so far are these messages.
abbrev pub invariant-loop-at : goal.invariant-loop-at
invariant-loop-at g l =
    let messages = l.fn.publisher.publisher.journal.messages in
    record {
      has :
          HasMessages g.J.Source.left l.fn.journal messages l.fn.number →
          HasMessages g.J.Source.left l.journal messages l.at;
      same :
          HasMessages g.J.Source.left l.fn.journal messages l.fn.number →
          SoFar l.fn.publisher.publisher.journal l.fn.number l.at
          (known_entries g.M.MessageReader.entries
          (prepend_known (g.M.InputReader.unread l.fn.messages) (g.K.Source.left l.fn.source)))
          (known_entries g.M.MessageReader.entries
          (prepend_known (g.M.InputReader.unread l.messages) (g.K.Source.left l.source)));
      some : 1 ≤ l.at;
      within : l.at ≤ length messages + 1;
      failed : g.K.Source.failed l.source ≡ g.K.Source.failed l.fn.source;
      file : g.J.Source.failed l.journal.source ≡ g.J.Source.failed l.fn.journal.source;
    }

abbrev pub decreases-loop-at : goal.decreases-loop-at
decreases-loop-at g l = length l.fn.publisher.publisher.journal.messages + 1 - l.at
