-- A run of events, and what its contract promises.
use Rattle.std.specs.Prelude.{◌≡◌, ℕ, List, take, Some, Result, Ok, Err, true, slice_get}
use Rattle.mold_world.specs.Event.{Happening}
use Rattle.mold_world.specs.Effect.{run_events}
use Rattle.mold_world.specs.Headline.{IsPrefix}
use Rattle.mold_world.specs.Refusals.{MayWant}
use Rattle.mold_world.specs.World.{SubscriberState, WorldState}
use Rattle.mold_world.specs.declared.stopped.Stopped.{Stopped}

-- The events of a run that were applied: all, or those before the event at which the run stopped.
abbrev pub applied : {T : Type 0} → Result T Stopped → List Happening → List Happening
applied (Ok done) happenings = happenings
applied (Err stopped) happenings = take stopped.at happenings

-- The run stopped at an event at which an allocation can fail.
pub record IsStopped (w : WorldState) (happenings : List Happening) (at : ℕ) : Type 0 where
  pub happening : Happening
  pub found : slice_get happenings at ≡ Some happening
  -- An allocation can fail at the event, after the events before it.
  pub wanting : MayWant (run_events w (take at happenings)) happening

-- The headline of a world: each book is a prefix of the published messages. If a receiver has delivered up to a known
-- end, its book is the whole closed session.
pub record IsHeadline (w : WorldState) : Type 0 where
  pub books : (receiver : ℕ) (subscriber : SubscriberState) → slice_get w.subscribers receiver ≡ Some subscriber →
      IsPrefix subscriber.book.messages w.publisher.journal.messages
  pub whole : (receiver : ℕ) (subscriber : SubscriberState) → slice_get w.subscribers receiver ≡ Some subscriber →
      subscriber.arbitration.view.ended ≡ Some subscriber.arbitration.view.next →
      (w.publisher.journal.closed ≡ true) × (subscriber.book.messages ≡ w.publisher.journal.messages)
