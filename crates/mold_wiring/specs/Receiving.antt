-- The repairer that an order of `receive` asks for.
use Rattle.std.specs.Prelude.{◌≡◌, ℕ, ◌+◌, ◌-◌, ◌*◌, ◌/◌, [], length, max, min, Some}
use Rattle.mold_receiver.specs.Fresh.{fresh_arbitration_within}
use Rattle.mold_repair.specs.declared.options.RepairOptions.{RepairOptions}
use Rattle.mold_repair.specs.declared.repairer.Repairer.{Repairer}
use Rattle.mold_wire.specs.declared.session.Session.{Session}
use Rattle.mold_wiring.specs.declared.receiving.TheConstants.{AT_ONCE_PART, BYTES_PER_MIB, MOST_AT_ONCE}
use Rattle.mold_wiring.specs.declared.receiving.TheConstants.{NANOS_PER_MICRO, NANOS_PER_MILLI, NANOS_PER_SECOND}
use Rattle.mold_wiring.specs.declared.receiving.TheConstants.{SETTLE}
use Rattle.mold_words.specs.declared.receive_order.ReceiveOrder.{ReceiveOrder}

-- How many requests may be sent at once, if this number may be sent in a second: an eighth of it, rounded down, but at
-- most 32 and at least 1.
abbrev pub request_bucket : ℕ → ℕ
request_bucket requests = max (min (requests / AT_ONCE_PART) MOST_AT_ONCE) 1

-- The number of requests in a second that are not sent at once.
abbrev pub other_requests : ℕ → ℕ
other_requests requests = requests - request_bucket requests

-- The time after which another request may be sent, in nanoseconds: a second divided by one more than the number of
-- other requests, rounded up.
abbrev pub request_interval : ℕ → ℕ
request_interval requests = (NANOS_PER_SECOND + other_requests requests) / (other_requests requests + 1)

-- The options of the repairer that the order asks for.
abbrev pub repair_options : ReceiveOrder → RepairOptions
repair_options order = record {
  patience = order.patience * NANOS_PER_MICRO;
  timeout = order.timeout * NANOS_PER_MILLI;
  ceiling = order.ceiling * NANOS_PER_MILLI;
  settle = SETTLE;
  interval = request_interval order.requests;
  bucket = request_bucket order.requests;
  places = order.in_flight;
  servers = length order.servers.items;
  give_up = order.give_up;
  audit = order.audit;
}

-- The repairer is new. Its receiver is of this session, starts at message `next`, and has the order's window and room.
pub record HasRepairerOf (order : ReceiveOrder) (session : Session) (next : ℕ) (repairer : Repairer) : Type 0 where
  pub arbiter :
      repairer.arbiter ≡ fresh_arbitration_within (Some (order.store * BYTES_PER_MIB)) session next order.window
  pub options : repairer.options ≡ repair_options order
  pub flights : repairer.pacer.flights.items ≡ []
