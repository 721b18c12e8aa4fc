-- The straight path: a receiver gets each data packet of new messages right after it is sent, and doesn't restart.
use Rattle.std.specs.Prelude.{◌≡◌, ℕ, ◌+◌, List, take, Option, Some, Ok, slice_get}
use Rattle.mold_world.specs.Event.{Happening}
use Rattle.mold_world.specs.Effect.{effect, run_events}
use Rattle.mold_world.specs.declared.event.EventOf.TheVariants.{Datagram, Deliver, Restart}
use Rattle.mold_world.specs.Headline.{IsPrefix}
use Rattle.mold_world.specs.World.{SubscriberState, WorldState}
use Rattle.mold_world.specs.declared.report.Report.{Report}
use Rattle.mold_world.specs.declared.report.Report.TheVariants as report
use Rattle.mold_world.specs.declared.way.Way.{Way}

-- The event is the delivery of this datagram to the receiver, on a line or as a response.
pub record IsDelivery (receiver place : ℕ) (happening : Option Happening) : Type 0 where
  pub way : Way
  pub so : happening ≡ Some (Deliver receiver way place)

-- Each data packet of new messages is delivered to the receiver right after it is sent, and no restart of the
-- receiver is applied.
pub record IsStraight (w : WorldState) (receiver : ℕ) (happenings : List Happening) : Type 0 where
  -- If a data packet of new messages is sent, the next event delivers it to the receiver.
  pub delivered : (at place : ℕ) (new : WorldState) → slice_get happenings at ≡ Some Datagram →
      effect (run_events w (take at happenings)) Datagram ≡ Ok (report.Sent place, new) →
      IsDelivery receiver place (slice_get happenings (at + 1))
  -- A restart of the receiver is refused.
  pub stays : (at next : ℕ) (done : Report × WorldState) → slice_get happenings at ≡ Some (Restart receiver next) →
      effect (run_events w (take at happenings)) (Restart receiver next) ≡ Ok done → ⊥

-- The receiver's book begins with all messages that the publisher has sent in datagrams.
pub record HasSent (w : WorldState) (receiver : ℕ) : Type 0 where
  pub subscriber : SubscriberState
  pub here : slice_get w.subscribers receiver ≡ Some subscriber
  -- The messages that were sent in datagrams are a prefix of the book.
  pub front : IsPrefix (take w.publisher.sent w.publisher.journal.messages) subscriber.book.messages
