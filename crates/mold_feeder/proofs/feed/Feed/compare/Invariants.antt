use Rattle.std.proofs.Common.{◌≡◌, ◌≤◌, ◌+◌, [], false, length}
use Rattle.mold_durable.specs.Life.{Life}
use Rattle.mold_wire.specs.declared.limits.TheConstants.{MAX_LIMIT}
use Rattle.mold_durable_publisher.specs.DurablePublisher.{IsAtRest}
use Rattle.mold_feeder.specs.Feeding.{HasFed, state_of}
use Rattle.mold_feeder.specs.Input.{IsInput, entries_of_rest}
use Rattle.mold_feeder.specs.JournalMessages.{HasMessages}
use Rattle.mold_feeder.specs.Taking.{IsSameTo}
use Rattle.mold_feeder.proofs.feed.Feed.compare.Given as goal

-- what was done so far
abbrev pub invariant-loop : goal.invariant-loop
invariant-loop g l = record {
  fed :
      (life : Life) → IsAtRest g.S.Storage.shows g.S.Storage.may_leave l.fn.self.feeder.publisher life →
      HasFed g.S.Storage.shows g.S.Storage.may_leave g.S.Storage.moment g.S.Storage.left_since g.S.Storage.failed
      g.L.PortSet.modeled
      g.D.Datagrams.modeled l.fn.lines life [] false (state_of g.L.PortSet.state g.D.Datagrams.port l.fn.self)
      (state_of g.L.PortSet.state g.D.Datagrams.port l.self);
  longest : l.self.feeder.publisher.publisher.journal.max_message ≤ l.self.requests.server.max_message;
  buffer : length l.buffer ≡ MAX_LIMIT;
  input : IsInput g.M.PieceReader.is_part g.M.InputReader.unread g.K.Source.left l.self.input;
  has :
      HasMessages g.J.Source.left l.fn.journal l.fn.self.feeder.publisher.publisher.journal.messages 1 →
      HasMessages g.J.Source.left l.journal l.fn.self.feeder.publisher.publisher.journal.messages l.number;
  same :
      HasMessages g.J.Source.left l.fn.journal l.fn.self.feeder.publisher.publisher.journal.messages 1 →
      IsSameTo l.fn.self.feeder.publisher.publisher.journal 1 l.number
      (entries_of_rest g.M.InputReader.unread g.K.Source.left g.M.MessageReader.entries l.fn.self.input)
      (entries_of_rest g.M.InputReader.unread g.K.Source.left g.M.MessageReader.entries l.self.input);
  journal : l.self.feeder.publisher.publisher.journal ≡ l.fn.self.feeder.publisher.publisher.journal;
  some : 1 ≤ l.number;
  within : l.number ≤ length l.self.feeder.publisher.publisher.journal.messages + 1;
}
