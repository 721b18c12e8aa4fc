-- Defines the condition that a loop's ports give only what the loop sent.
use Rattle.std.specs.Prelude.{◌≡◌, ℕ, List, []}
use Rattle.std.specs.List.{Contains}
use Rattle.mold_ports.specs.Ports.{Port}
use Rattle.mold_feed.specs.Received.{GivesOnly}
use Rattle.mold_loop.specs.Looping.{LineState}
use Rattle.mold_loop.specs.Repairing.{RepairState}

-- The bytes are a datagram that was sent, to any address.
pub record WasSent {P : Type 0} (sent : List (P × List ℕ)) (bytes : List ℕ) : Type 0 where
  pub to : P
  pub among : Contains sent (to, bytes)

-- Each datagram that the port gives, cut at `MAX_LIMIT` bytes, was sent. A datagram may come any number of times, in
-- any order, or never.
abbrev pub GivesSent : {P : Type 0} → List (P × List ℕ) → Port P → Type 0
GivesSent sent port = GivesOnly (WasSent sent) port

-- The ports of the lines and of the listener's requests give only what the loop sent. The server's port may give
-- anything. The publisher's port and the server's port have sent nothing at the start.
pub record OwnPorts {P : Type 0} (lines lines_left : LineState P) (rounds rounds_left : RepairState P) : Type 0 where
  pub publisher : lines.publisher.sent ≡ []
  pub server : rounds.server.sent ≡ []
  -- Line A gives only datagrams that the publisher's port sent by the end of the loop.
  pub a : GivesSent lines_left.publisher.sent lines.a
  -- Line B gives only datagrams that the publisher's port sent by the end of the loop.
  pub b : GivesSent lines_left.publisher.sent lines.b
  -- The port of requests gives only responses that the server's port sent by the end of the loop.
  pub requests : GivesSent rounds_left.server.sent rounds.requests
