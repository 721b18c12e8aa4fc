-- What holds of every world: everything sent is true, and receivers know nothing false.
use Rattle.std.specs.Prelude.{◌≡◌, ℕ, ◌-◌, List, take, Some, slice_get}
use Rattle.std.specs.FinMap as finite
use Rattle.mold_receiver.specs.Batch.{Follows}
use Rattle.mold_receiver.specs.Honest.{IsHonest}
use Rattle.mold_session.specs.Journal.{JournalState}
use Rattle.mold_session.specs.Publisher.{IsPublisher}
use Rattle.mold_session.specs.Truthful.{MayAnswer, IsTrueDatagram}
use Rattle.mold_world.specs.Machine.{IsEndSent, IsSentAs}
use Rattle.mold_world.specs.World.{SubscriberState, WorldState}

-- The receiver is honest, and its book is the published messages before its next number. Each stored message was
-- sent, and so was the end packet of a known end.
pub record IsSubscriberKept (journal : JournalState) (sent : List (List ℕ)) (subscriber : SubscriberState) :
    Type 0 where
  pub session : subscriber.arbitration.view.session ≡ journal.session
  pub honest : IsHonest subscriber.arbitration.view journal.messages journal.closed
  pub book : subscriber.book.messages ≡ take (subscriber.arbitration.view.next - 1) journal.messages
  -- The book is empty or ends just before the receiver's next number.
  pub follows : Follows subscriber.book subscriber.arbitration.view.next
  -- Each stored message was sent with its number.
  pub stored : (number : ℕ) (message : List ℕ) → finite.get subscriber.arbitration.view.store number ≡ Some message →
      IsSentAs sent number message
  -- The end packet of a known end was sent.
  pub ends : (end : ℕ) → subscriber.arbitration.view.ended ≡ Some end → IsEndSent sent journal.session end

-- What holds of every world. Its publisher and server are valid, everything sent is true of the journal, and its
-- receivers are as `IsSubscriberKept` states.
pub record IsWorld (w : WorldState) : Type 0 where
  pub publisher : IsPublisher w.publisher
  -- The server can send the journal's longest messages.
  pub answers : MayAnswer w.publisher.journal w.server_limit
  -- Each datagram that was sent is true of the journal.
  pub said : (place : ℕ) (bytes : List ℕ) → slice_get w.sent place ≡ Some bytes →
      IsTrueDatagram w.publisher.journal bytes
  pub subscribers : (receiver : ℕ) (subscriber : SubscriberState) → slice_get w.subscribers receiver ≡ Some subscriber →
      IsSubscriberKept w.publisher.journal w.sent subscriber
