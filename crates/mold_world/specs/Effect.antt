-- The rule of events: what each event does to a world. A refusal has no outcome, so it leaves the world unchanged.
use Rattle.std.specs.Prelude.{ℕ, ◌+◌, ◌-◌, List, [], ◌∷◌, ◌++◌, length, map, take, Bool, true, false}
use Rattle.std.specs.Prelude.{Option, None, Some, Result, Ok, Err, ◌&&◌, nat_le, nat_lt, if◌then◌else◌, slice_get}
use Rattle.std.specs.Prelude.{slice_set}
use Rattle.std.specs.Str.{bytes_eq}
use Rattle.mold_wire.specs.Packet.{spelling_of}
use Rattle.mold_wire.specs.Reading.{reading}
use Rattle.mold_wire.specs.declared.error.DecodeError.{DecodeError}
use Rattle.mold_wire.specs.declared.packet.Packet.{Packet}
use Rattle.mold_wire.specs.declared.request.Request.{Request as Asked}
use Rattle.mold_wire.specs.declared.session.Session.{Session}
use Rattle.mold_receiver.specs.Arbiter.{arbitrates}
use Rattle.mold_receiver.specs.Batch.{Handed, followed_by, handed_from}
use Rattle.mold_receiver.specs.Receive.{Reception, receive}
use Rattle.mold_receiver.specs.Fresh.{fresh_arbitration}
use Rattle.mold_receiver.specs.Wanted.{wanted}
use Rattle.mold_rule.specs.declared.refusal.Refusal.{Refusal}
use Rattle.mold_session.specs.Answer.{answer}
use Rattle.mold_session.specs.Journal.{append_refusal}
use Rattle.mold_session.specs.Publisher.{PublisherState, after_datagram, closed, next_datagram, next_end}
use Rattle.mold_session.specs.Publisher.{next_heartbeat, published}
use Rattle.mold_session.specs.Server.{checked_request}
use Rattle.mold_session.specs.declared.error.AnswerError.{AnswerError}
use Rattle.mold_session.specs.declared.error.AppendError.{AppendError}
use Rattle.mold_world.specs.Event.{Happening, line_of}
use Rattle.mold_world.specs.World.{SubscriberState, WorldState}
use Rattle.mold_world.specs.declared.event.EventOf.TheVariants.{Publish, Datagram, Heartbeat, Close, End}
use Rattle.mold_world.specs.declared.event.EventOf.TheVariants.{Request, Ask, Deliver, Noise, Restart}
use Rattle.mold_world.specs.declared.report.Report.{Report}
use Rattle.mold_world.specs.declared.report.Report.TheVariants as report
use Rattle.mold_session.specs.declared.error.SessionError.TheVariants as session
use Rattle.mold_world.specs.declared.report.WorldError.{WorldError}
use Rattle.mold_world.specs.declared.report.WorldError.TheVariants.{NoReceiver, NoSuchDatagram, NotNoise, NotReached}
use Rattle.mold_world.specs.declared.report.WorldError.TheVariants.{Layer as Refuses}
use Rattle.mold_world.specs.declared.way.Way.{Way}

-- The report and the new world, or the reason why the event is refused.
abbrev pub Outcome : Type 0
Outcome = Result (Report × WorldState) WorldError

-- The outcome of publishing a message, given the reason against it if there is one.
abbrev pub publishing : WorldState → List ℕ → Option AppendError → Outcome
publishing w message None =
    Ok (
      report.Published (length w.publisher.journal.messages + 1),
      record w { publisher = published w.publisher message },
    )
publishing w message (Some refusal) = Err (Refuses (session.Append refusal))

-- The outcome of sending a packet, if there is one. Its encoding is appended to the sent datagrams, and `publisher`
-- is the new publisher.
abbrev pub sending : WorldState → Option Packet → PublisherState → Outcome
sending w None publisher = Ok (report.Nothing, w)
sending w (Some packet) publisher =
    Ok (report.Sent (length w.sent), record w { publisher = publisher; sent = w.sent ++ spelling_of packet ∷ [] })

-- The number of published messages that were not sent in a datagram yet.
abbrev pub unsent_count : PublisherState → ℕ
unsent_count publisher = length publisher.journal.messages - publisher.sent

-- The outcome of closing the session. It is refused while messages are unsent.
abbrev pub closing : WorldState → Outcome
closing w = if nat_lt 0 (unsent_count w.publisher)
    then Err (Refuses (session.Close (record { count = unsent_count w.publisher })))
    else Ok (report.Closed, record w { publisher = closed w.publisher })

-- The outcome of sending all responses to a request, in order.
abbrev pub bursting : WorldState → List Packet → Outcome
bursting w packets =
    Ok (report.Burst (length w.sent) (length packets), record w { sent = w.sent ++ map spelling_of packets })

-- The outcome of responding to a request.
abbrev pub answered : WorldState → Asked → Outcome
answered w request = bursting w
    (answer w.publisher.journal.messages w.publisher.journal.session w.server_limit
    request.sequence request.count w.burst)

-- The outcome of a request that the server accepts, or of one that it refuses.
abbrev pub requested : WorldState → Result Asked AnswerError → Outcome
requested w (Ok request) = answered w request
requested w (Err refusal) = Err (Refuses (session.Answer refusal))

-- The outcome of responding to the request that a receiver wants, if it wants one.
abbrev pub asked_for : WorldState → Option Asked → Outcome
asked_for w None = Ok (report.Nothing, w)
asked_for w (Some request) = answered w request

-- The outcome of asking for what a receiver wants, if the receiver exists.
abbrev pub asked : WorldState → Option SubscriberState → Outcome
asked w None = Err NoReceiver
asked w (Some subscriber) = asked_for w (wanted subscriber.arbitration.view)

-- The world in which the receiver with this number is replaced.
abbrev pub with_subscriber : WorldState → ℕ → SubscriberState → WorldState
with_subscriber w receiver subscriber = record w { subscribers = slice_set w.subscribers receiver subscriber }

-- The book after a datagram: the delivered messages are appended. After a refusal, it is unchanged.
abbrev pub book_after : Handed → ℕ → Result Reception Refusal → Handed
book_after book next (Ok reception) = followed_by book next reception.handed
book_after book next (Err refused) = book

-- The receiver and its book after it received a datagram, accepted or refused.
abbrev pub given : SubscriberState → Way → List ℕ → SubscriberState
given subscriber way bytes = record {
  arbitration = arbitrates (line_of way) bytes subscriber.arbitration;
  book = book_after subscriber.book subscriber.arbitration.view.next (receive subscriber.arbitration.view bytes);
}

-- The report of what a receiver did with a datagram.
abbrev pub told : Result Reception Refusal → Report
told (Ok reception) = report.Delivered reception.taken
told (Err refused) = report.NoiseRefused refused

-- The outcome of giving a receiver a datagram.
abbrev pub giving : WorldState → ℕ → SubscriberState → Way → List ℕ → Outcome
giving w receiver subscriber way bytes =
    Ok (told (receive subscriber.arbitration.view bytes), with_subscriber w receiver (given subscriber way bytes))

-- The outcome of delivering a datagram that was sent, if the receiver and the datagram exist.
abbrev pub delivered : WorldState → ℕ → Way → Option SubscriberState → Option (List ℕ) → Outcome
delivered w receiver way None datagram = Err NoReceiver
delivered w receiver way (Some subscriber) None = Err NoSuchDatagram
delivered w receiver way (Some subscriber) (Some bytes) = giving w receiver subscriber way bytes

-- What was decoded is a packet of the session `own`.
abbrev pub is_own : Session → Result Packet DecodeError → Bool
is_own own (Ok packet) = bytes_eq packet.session.0 own.0
is_own own (Err error) = false

-- The outcome of giving a receiver bytes as noise. It is refused if the bytes are a packet of the session.
abbrev pub noised : WorldState → ℕ → Way → List ℕ → Option SubscriberState → Bool → Outcome
noised w receiver way bytes None own = Err NoReceiver
noised w receiver way bytes (Some subscriber) true = Err NotNoise
noised w receiver way bytes (Some subscriber) false = giving w receiver subscriber way bytes

-- The receiver after a restart at `next`. Its view and its reports are new, and its book keeps only the messages
-- before `next`.
abbrev pub restarted_at : SubscriberState → ℕ → SubscriberState
restarted_at subscriber next = record {
  arbitration = fresh_arbitration subscriber.arbitration.view.session next subscriber.arbitration.view.window;
  book = handed_from subscriber.book.first (take (next - 1) subscriber.book.messages);
}

-- The outcome of a restart at `next`, if the receiver exists. It is refused unless the receiver had reached that
-- number.
abbrev pub restarted : WorldState → ℕ → ℕ → Option SubscriberState → Outcome
restarted w receiver next None = Err NoReceiver
restarted w receiver next (Some subscriber) =
    if nat_le 1 next && nat_le next subscriber.arbitration.view.next
    then Ok (report.Restarted next, with_subscriber w receiver (restarted_at subscriber next))
    else Err (NotReached subscriber.arbitration.view.next)

-- The rule of events: the report and the new world after an event, or the reason why it is refused.
unfoldable pub effect : WorldState → Happening → Outcome
effect w (Publish message) = publishing w message (append_refusal w.publisher.journal message)
effect w Datagram = sending w (next_datagram w.publisher) (after_datagram w.publisher)
effect w Heartbeat = sending w (next_heartbeat w.publisher) w.publisher
effect w Close = closing w
effect w End = sending w (next_end w.publisher) w.publisher
effect w (Request bytes) = requested w (checked_request w.publisher.journal bytes)
effect w (Ask receiver) = asked w (slice_get w.subscribers receiver)
effect w (Deliver receiver way place) =
    delivered w receiver way (slice_get w.subscribers receiver) (slice_get w.sent place)
effect w (Noise receiver way bytes) =
    noised w receiver way bytes (slice_get w.subscribers receiver) (is_own w.publisher.journal.session (reading bytes))
effect w (Restart receiver next) = restarted w receiver next (slice_get w.subscribers receiver)

-- The world after an outcome. A refusal leaves it unchanged.
abbrev pub after_outcome : WorldState → Outcome → WorldState
after_outcome w (Ok done) = done.1
after_outcome w (Err refused) = w

-- The world after an event, accepted or refused.
abbrev pub after_event : WorldState → Happening → WorldState
after_event w happening = after_outcome w (effect w happening)

-- The world after the events in order. Refused events change nothing.
abbrev pub run_events : WorldState → List Happening → WorldState
run_events w [] = w
run_events w (happening ∷ happenings) = run_events (after_event w happening) happenings
