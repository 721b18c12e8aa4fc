-- The messages that the events of a run deliver.
use Rattle.std.specs.Prelude.{ℕ, List, [], ◌∷◌, ◌++◌, Bool, true, false, Option, None, Some, Result, Ok, Err, slice_get}
use Rattle.mold_wire.specs.Reading.{reading}
use Rattle.mold_receiver.specs.Receive.{Reception, receive}
use Rattle.mold_rule.specs.declared.refusal.Refusal.{Refusal}
use Rattle.mold_world.specs.Event.{Happening}
use Rattle.mold_world.specs.Effect.{after_event, is_own}
use Rattle.mold_world.specs.declared.event.EventOf.TheVariants.{Publish, Datagram, Heartbeat, Close, End}
use Rattle.mold_world.specs.declared.event.EventOf.TheVariants.{Request, Ask, Deliver, Noise, Restart}
use Rattle.mold_world.specs.Headline.{HandOn, handed_from}
use Rattle.mold_world.specs.World.{SubscriberState, WorldState}

-- The messages that a receiver delivers from a datagram, given the receiving rule's result. The first has the
-- receiver's next number.
abbrev pub handed_of : ℕ → ℕ → Result Reception Refusal → List HandOn
handed_of receiver next (Ok reception) = handed_from receiver next reception.handed
handed_of receiver next (Err refused) = []

-- The messages that a receiver delivers when it receives a datagram, if both exist.
abbrev pub handed_at : ℕ → Option SubscriberState → Option (List ℕ) → List HandOn
handed_at receiver None datagram = []
handed_at receiver (Some subscriber) None = []
handed_at receiver (Some subscriber) (Some bytes) =
    handed_of receiver subscriber.arbitration.view.next (receive subscriber.arbitration.view bytes)

-- The messages that a receiver delivers from noise. Bytes that are a packet of the session are refused as noise, so
-- there are none.
abbrev pub handed_of_noise : ℕ → Option SubscriberState → List ℕ → Bool → List HandOn
handed_of_noise receiver subscriber bytes true = []
handed_of_noise receiver subscriber bytes false = handed_at receiver subscriber (Some bytes)

-- The messages that an event delivers. Only a delivery or noise can deliver any.
abbrev pub handed_by : WorldState → Happening → List HandOn
handed_by w (Publish message) = []
handed_by w Datagram = []
handed_by w Heartbeat = []
handed_by w Close = []
handed_by w End = []
handed_by w (Request bytes) = []
handed_by w (Ask receiver) = []
handed_by w (Deliver receiver way place) =
    handed_at receiver (slice_get w.subscribers receiver) (slice_get w.sent place)
handed_by w (Noise receiver way bytes) =
    handed_of_noise receiver (slice_get w.subscribers receiver) bytes
    (is_own w.publisher.journal.session (reading bytes))
handed_by w (Restart receiver next) = []

-- The messages that the events deliver, in order, including those of receivers that restart later.
abbrev pub handed_by_all : WorldState → List Happening → List HandOn
handed_by_all w [] = []
handed_by_all w (happening ∷ happenings) = handed_by w happening ++ handed_by_all (after_event w happening) happenings
