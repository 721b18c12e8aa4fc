use Rattle.std.proofs.Common.{◌≡◌, ◌≤◌, false, length, List, ℕ}
use Rattle.mold_durable.specs.Life.{Life}
use Rattle.mold_wire.specs.declared.limits.TheConstants.{MAX_LIMIT}
use Rattle.mold_durable_publisher.specs.DurablePublisher.{IsAtRest}
use Rattle.mold_feeder.specs.Feeding.{HasFed, state_of}
use Rattle.mold_feeder.specs.Input.{IsInput, entries_of_rest}
use Rattle.mold_feeder.specs.Taking.{Takes}
use Rattle.mold_publish.specs.declared.filling.Filled.TheVariants.{Full}
use Rattle.mold_feeder.proofs.feed.Feed.publish.Given as goal

-- what was done so far
abbrev pub invariant-loop : goal.invariant-loop
invariant-loop g l = record {
  fed :
      (life : Life) → IsAtRest g.S.Storage.shows g.S.Storage.may_leave l.fn.self.feeder.publisher life →
      (groups : List (List (List ℕ)))
      × HasFed g.S.Storage.shows g.S.Storage.may_leave g.S.Storage.moment g.S.Storage.left_since g.S.Storage.failed
      g.L.PortSet.modeled
      g.D.Datagrams.modeled l.fn.lines life groups false (state_of g.L.PortSet.state g.D.Datagrams.port l.fn.self)
      (state_of g.L.PortSet.state g.D.Datagrams.port l.self);
  longest : l.self.feeder.publisher.publisher.journal.max_message ≤ l.self.requests.server.max_message;
  buffer : length l.buffer ≡ MAX_LIMIT;
  taken :
      (life : Life) → IsAtRest g.S.Storage.shows g.S.Storage.may_leave l.fn.self.feeder.publisher life →
      Takes g.M.MessageReader.input_kind l.fn.self.feeder.publisher.publisher.journal
      l.self.feeder.publisher.publisher.journal
      (entries_of_rest g.M.InputReader.unread g.K.Source.left g.M.MessageReader.entries l.fn.self.input)
      (entries_of_rest g.M.InputReader.unread g.K.Source.left g.M.MessageReader.entries l.self.input) Full;
  input : IsInput g.M.PieceReader.is_part g.M.InputReader.unread g.K.Source.left l.self.input;
}
