use Rattle.std.proofs.Common.{◌≡◌, ◌≤◌, true}
use Rattle.std.specs.Io.KnownBytes.{prepend_known}
use Rattle.mold_devices.specs.Lines.{work_left}
use Rattle.mold_input.specs.Entries.{known_input}
use Rattle.mold_send.specs.PublishLoop.{IsSame, lines_state}
use Rattle.mold_publish.specs.Publishing.{HasRoom}
use Rattle.mold_send.proofs.SendingLemmas.{SentSoFar}
use Rattle.mold_send.proofs.publication.Publication.send_messages.Given as goal

-- the data so far were offered, and no device failed
abbrev pub invariant-publishing : goal.invariant-publishing
invariant-publishing g l = record {
  room : HasRoom l.self.publisher.now;
  few : l.self.datagrams ≤ l.self.publisher.now.sent;
  sends :
      g.D.Datagrams.modeled ≡ true →
      SentSoFar l.fn.self.two_lines.a.now l.fn.self.two_lines.b.now l.fn.self.publisher.now l.self.publisher.now
      (known_input g.M.MessageReader.input_kind g.M.MessageReader.entries (g.S.Source.left l.fn.source))
      (known_input g.M.MessageReader.input_kind g.M.MessageReader.entries
      (prepend_known (g.M.InputReader.unread l.messages) (g.S.Source.left l.source)))
      (lines_state g.D.Datagrams.port l.fn.self.two_lines) (lines_state g.D.Datagrams.port l.self.two_lines)
      l.self.datagrams;
  same : IsSame l.fn.self l.self;
  source : g.S.Source.failed l.source ≡ g.S.Source.failed l.fn.source;
}

abbrev pub decreases-publishing : goal.decreases-publishing
decreases-publishing g l = work_left (g.S.Source.bound l.source) (g.M.InputReader.unread l.messages)
