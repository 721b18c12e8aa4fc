-- Why a world can't be created, why an event is refused, and when an allocation can fail.
use Rattle.std.specs.Prelude.{◌≡◌, ◌⊎◌, ℕ, List, Option, Some, Result, Ok, Err, IsOk, IsSome, not, Bool, ◌&&◌, nat_le}
use Rattle.std.specs.Prelude.{if◌then◌else◌, slice_get, position}
use Rattle.std.specs.Option.{option_map}
use Rattle.mold_receiver.specs.Receive.{IsCopied}
use Rattle.mold_receiver.specs.Wanted.{wanted}
use Rattle.mold_wire.specs.declared.limits.TheConstants.{MAX_WINDOW}
use Rattle.mold_wire.specs.declared.limits.TheConstants.{MAX_LIMIT, MIN_LIMIT}
use Rattle.mold_wire.specs.declared.request.Request.{Request as Asked}
use Rattle.mold_world.specs.Event.{Happening}
use Rattle.mold_world.specs.Effect.{effect}
use Rattle.mold_world.specs.declared.event.EventOf.TheVariants.{Publish, Datagram, Heartbeat, Close, End}
use Rattle.mold_world.specs.declared.event.EventOf.TheVariants.{Request, Ask, Deliver, Noise, Restart}
use Rattle.mold_world.specs.World.{SubscriberState, WorldState}
use Rattle.mold_session.specs.Publisher.{next_end, next_heartbeat}
use Rattle.mold_wire.specs.declared.limits.TheConstants.{MAX_BURST}
use Rattle.mold_session.specs.declared.error.AppendError.{AppendError}
use Rattle.mold_session.specs.declared.error.AppendError.TheVariants as append
use Rattle.mold_world.specs.declared.report.Report.{Report}
use Rattle.mold_session.specs.declared.error.SessionError.TheVariants as session
use Rattle.mold_world.specs.declared.report.WorldError.{WorldError}
use Rattle.mold_world.specs.declared.report.WorldError.TheVariants.{Memory, BadLimit, BadBurst, BadWindow}
use Rattle.mold_world.specs.declared.report.WorldError.TheVariants.{Layer as Refusal}

-- The datagram limit is valid: `MIN_LIMIT` to `MAX_LIMIT` bytes.
abbrev pub is_limit : ℕ → Bool
is_limit limit = nat_le MIN_LIMIT limit && nat_le limit MAX_LIMIT

-- The burst is valid: 1 to `MAX_BURST` responses to a request.
abbrev pub is_burst : ℕ → Bool
is_burst burst = nat_le 1 burst && nat_le burst MAX_BURST

-- The window is valid: 1 to `MAX_WINDOW` messages.
abbrev pub is_window : ℕ → Bool
is_window window = nat_le 1 window && nat_le window MAX_WINDOW

-- The first reason, if any, why a world can't be created with these settings, other than a failed allocation. Of
-- several invalid windows, it names the first.
abbrev pub world_refusal : ℕ → ℕ → ℕ → List ℕ → Option WorldError
world_refusal limit server_limit burst windows =
    if not (is_limit limit && is_limit server_limit && nat_le limit server_limit) then Some BadLimit
    else if not (is_burst burst) then Some BadBurst
    else option_map (λ r. BadWindow r) (position (λ window. not (is_window window)) windows)

-- A datagram that was sent is delivered to a receiver, which delivers or stores at least one of its messages.
pub record IsCopying (w : WorldState) (receiver sent : ℕ) : Type 0 where
  pub subscriber : SubscriberState
  pub bytes : List ℕ
  pub here : slice_get w.subscribers receiver ≡ Some subscriber
  pub found : slice_get w.sent sent ≡ Some bytes
  pub copied : IsCopied subscriber.arbitration.view bytes

-- The receiver exists and misses messages, so it wants a request.
pub record IsAsking (w : WorldState) (receiver : ℕ) : Type 0 where
  pub subscriber : SubscriberState
  pub request : Asked
  pub here : slice_get w.subscribers receiver ≡ Some subscriber
  pub lacks : wanted subscriber.arbitration.view ≡ Some request

-- An allocation can fail at this event. It can't if the event needs no memory or is refused for another reason. The
-- publisher allocates space before it knows whether there is anything to send.
abbrev pub MayWant : WorldState → Happening → Type 0
MayWant w (Publish message) = IsOk (effect w (Publish message))
MayWant w Datagram = Unit {0}
MayWant w Heartbeat = IsSome (next_heartbeat w.publisher)
MayWant w Close = ⊥
MayWant w End = IsSome (next_end w.publisher)
MayWant w (Request bytes) = IsOk (effect w (Request bytes))
MayWant w (Ask receiver) = IsAsking w receiver
MayWant w (Deliver receiver way sent) = IsCopying w receiver sent
MayWant w (Noise receiver way bytes) = ⊥
MayWant w (Restart receiver next) = IsOk (effect w (Restart receiver next))

-- The event is refused for this reason: either the rule of events states it, or an allocation failed at an event that
-- needs memory.
abbrev pub Refuses : WorldState → Happening → WorldError → Type 0
Refuses w happening error = ((error ≡ Memory) × MayWant w happening) ⊎ (effect w happening ≡ Err error)

-- The event is applied as the rule of events states, or it is refused and nothing changes.
abbrev pub Applies : WorldState → Happening → Result Report WorldError → WorldState → Type 0
Applies old happening (Ok report) new = effect old happening ≡ Ok (report, new)
Applies old happening (Err error) new = Refuses old happening error × (new ≡ old)

-- The world's error for a refusal of the publisher.
abbrev pub append_error : AppendError → WorldError
append_error append.Memory = Memory
append_error append.Closed = Refusal (session.Append append.Closed)
append_error (append.TooLong len) = Refusal (session.Append (append.TooLong len))
append_error append.Full = Refusal (session.Append append.Full)
