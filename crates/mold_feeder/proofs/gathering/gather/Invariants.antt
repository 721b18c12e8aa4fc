use Rattle.std.proofs.Common.{◌≡◌}
use Rattle.std.specs.Io.KnownBytes.{prepend_known}
use Rattle.mold_durable.specs.Life.{Life}
use Rattle.mold_durable_publisher.specs.DurablePublisher.{Publishes}
use Rattle.mold_input.specs.Entries.{known_entries}
use Rattle.mold_feeder.proofs.GatheringLemmas.{SoFar}
use Rattle.mold_feeder.proofs.gathering.gather.Given as goal

-- the messages so far wait
abbrev pub invariant-loop-message : goal.invariant-loop-message
invariant-loop-message g l = record {
  gathered :
      (life : Life) → Publishes g.S.Storage.shows g.S.Storage.may_leave l.fn.publisher life →
      SoFar g.S.Storage.shows g.S.Storage.may_leave g.M.MessageReader.input_kind life l._message l.fn.publisher
      l.publisher
      (known_entries g.M.MessageReader.entries
      (prepend_known (g.M.InputReader.unread l.fn.messages) (g.K.Source.left l.fn.source)))
      (known_entries g.M.MessageReader.entries
      (prepend_known (g.M.InputReader.unread l.messages) (g.K.Source.left l.source)));
  storage : l.publisher.durable.storage ≡ l.fn.publisher.durable.storage;
  intact : l.publisher.durable.broken ≡ l.fn.publisher.durable.broken;
  longest : l.publisher.publisher.journal.max_message ≡ l.fn.publisher.publisher.journal.max_message;
}
