-- The world as the machine sees it, and events as steps of the machine.
use Rattle.std.specs.Prelude.{◌≡◌, ℕ, ◌≤◌, Bool, false, List, [], ◌∷◌, ◌++◌, length, map}
use Rattle.std.specs.Prelude.{Option, None, Some, Ok, Err, ◌==◌, slice_get}
use Rattle.mold_receiver.specs.View.{View}
use Rattle.mold_world.specs.Event.{Happening}
use Rattle.mold_world.specs.Effect.{Outcome, after_event, effect}
use Rattle.mold_world.specs.declared.event.EventOf.TheVariants.{Publish as PublishEvent, Datagram, Heartbeat}
use Rattle.mold_world.specs.declared.event.EventOf.TheVariants.{Close as CloseEvent, End, Request, Ask}
use Rattle.mold_world.specs.declared.event.EventOf.TheVariants.{Deliver as DeliverEvent, Noise, Restart as RestartEvent}
use Rattle.mold_world.specs.HandOns.{handed_by, handed_by_all}
use Rattle.mold_world.specs.Headline.{all_handed}
use Rattle.mold_world.specs.Machine.{AreAllowed, Machine, ReceiverLog, Step, run}
use Rattle.mold_world.specs.Machine.Step.{Publish, Close, Send, Deliver, Restart}
use Rattle.mold_world.specs.World.{SubscriberState, WorldState}

-- The known end is the number `next`.
abbrev pub is_end : Option ℕ → ℕ → Bool
is_end None next = false
is_end (Some end) next = end == next

-- Whether the view knows the session's end and all messages up to it were delivered.
abbrev pub is_finished : View → Bool
is_finished view = is_end view.ended view.next

-- What the machine knows of a receiver: its book, and whether it reports the end. A receiver that doesn't exist has
-- an empty book.
abbrev pub log_of : Option SubscriberState → ReceiverLog
log_of None = record { book = []; ended = false }
log_of (Some subscriber) = record { book = subscriber.book.messages; ended = is_finished subscriber.arbitration.view }

-- The state of the machine that corresponds to this world.
abbrev pub machine_of : WorldState → Machine
machine_of w = record {
  session = w.publisher.journal.session;
  published = w.publisher.journal.messages;
  closed = w.publisher.journal.closed;
  sent = w.sent;
  logs = λ receiver. log_of (slice_get w.subscribers receiver);
}

-- The steps send at most `most` datagrams.
pub record AreSends (most : ℕ) (steps : List Step) : Type 0 where
  pub sent : List (List ℕ)
  pub few : length sent ≤ most
  pub so : steps ≡ map Send sent

-- The steps are one delivery to this receiver.
pub record AreDelivery (receiver : ℕ) (steps : List Step) : Type 0 where
  pub messages : List (List ℕ)
  pub ended : Bool
  pub so : steps ≡ Deliver receiver messages ended ∷ []

-- The steps that an event names. A publication, a closing and a restart are one step each. Sending is a step for each
-- datagram, a delivery is one delivery, and noise is no step.
abbrev pub Names : WorldState → Happening → List Step → Type 0
Names w (PublishEvent message) steps = steps ≡ Publish message ∷ []
Names w Datagram steps = AreSends 1 steps
Names w Heartbeat steps = AreSends 1 steps
Names w CloseEvent steps = steps ≡ Close ∷ []
Names w End steps = AreSends 1 steps
Names w (Request bytes) steps = AreSends w.burst steps
Names w (Ask receiver) steps = AreSends w.burst steps
Names w (DeliverEvent receiver way place) steps = AreDelivery receiver steps
Names w (Noise receiver way bytes) steps = steps ≡ []
Names w (RestartEvent receiver next) steps = steps ≡ Restart receiver next ∷ []

-- The steps of the event lead the machine from the world `old` to the world `new`. Their kinds are those that `Names`
-- lists for the event. The machine allows these steps, and they deliver the same messages as the event.
pub record AreSteps (old : WorldState) (happening : Happening) (new : WorldState) : Type 0 where
  pub steps : List Step
  pub named : Names old happening steps
  pub allowed : AreAllowed (machine_of old) steps
  -- The world is then the machine after the steps.
  pub made : machine_of new ≡ run (machine_of old) steps
  pub handed : all_handed (machine_of old) steps ≡ handed_by old happening

-- The steps of an event with this outcome. A refused event has none.
abbrev pub NamesAfter : WorldState → Happening → Outcome → List Step → Type 0
NamesAfter w happening (Ok done) steps = Names w happening steps
NamesAfter w happening (Err refused) steps = steps ≡ []

-- The steps of all events of a run, in order.
abbrev pub NameAll : WorldState → List Happening → List Step → Type 0
NameAll w [] steps = steps ≡ []
NameAll w (happening ∷ happenings) steps = (first : List Step) × (others : List Step) × (steps ≡ first ++ others)
    × NamesAfter w happening (effect w happening) first × NameAll (after_event w happening) happenings others

-- The steps of all events of a run lead the machine from the world `old` to the world `new`. The machine allows these
-- steps, and they deliver the same messages as the events.
pub record AreStepsOfAll (old : WorldState) (happenings : List Happening) (new : WorldState) : Type 0 where
  pub steps : List Step
  pub named : NameAll old happenings steps
  pub allowed : AreAllowed (machine_of old) steps
  -- The world is then the machine after the steps.
  pub made : machine_of new ≡ run (machine_of old) steps
  pub handed : all_handed (machine_of old) steps ≡ handed_by_all old happenings
