-- Defines the models of a running loop (`LocalFeed`), and what its steps leave unchanged.
use Rattle.std.specs.Prelude.{◌≡◌, ℕ, Bool, true, List, Option, Result, length}
use Rattle.mold_ports.specs.Ports.{Port}
use Rattle.mold_session.specs.Server.{ServerState}
use Rattle.mold_listen.specs.Listening.{Asking, asking}
use Rattle.mold_turns.specs.Outgoing.{OutgoingState}
use Rattle.mold_loop.specs.Looping.{HasPassed, LineState, PassRests, lines_at}
use Rattle.mold_loop.specs.Repairing.{RepairState, rounds_at}
use Rattle.mold_loop.specs.declared.local_feed.LocalFeed.{LocalFeed}
use Rattle.mold_loop.specs.declared.loop_parts.Routes.{Routes}
use Rattle.mold_wire.specs.declared.limits.TheConstants.{MAX_LIMIT}

-- The state of the loop's lines. `port` returns the model of a port.
abbrev pub lines : {D A P : Type 0} → (D → Port P) → LocalFeed D A → LineState P
lines port feed = lines_at port feed.ports.now feed.listener.now

-- The state of the loop's rounds with a server. `port` returns the model of a port.
abbrev pub rounds : {D A P : Type 0} → (D → Port P) → ServerState → LocalFeed D A → RepairState P
rounds port server feed = rounds_at port feed.ports.now server feed.listener.now

-- The part of the loop's state that receiving a response changes: the port of requests and the listener.
abbrev pub asking_state : {D A P : Type 0} → (D → Port P) → LocalFeed D A → Asking P
asking_state port feed =
    asking (port feed.ports.now.requests) feed.listener.now.arbiter feed.listener.now.printer.outgoing

-- What the loop still has to write.
abbrev pub outgoing : {D A : Type 0} → LocalFeed D A → OutgoingState
outgoing feed = feed.listener.now.printer.outgoing

-- The text for standard output that the loop still has to write.
abbrev pub unwritten : {D A : Type 0} → LocalFeed D A → List ℕ
unwritten feed = feed.listener.now.printer.outgoing.text

-- The loop's buffer is as long as the longest datagram.
abbrev pub HasBuffer : {D A : Type 0} → LocalFeed D A → Type 0
HasBuffer feed = length feed.buffer.now ≡ MAX_LIMIT

-- The loop still borrows the same ports and the same listener, with the same options. Its buffer has the same length.
pub record IsSame {D A : Type 0} (old new : LocalFeed D A) : Type 0 where
  pub ports : new.ports.ghost_name ≡ old.ports.ghost_name
  pub options : new.options ≡ old.options
  pub buffer : length new.buffer.now ≡ length old.buffer.now
  pub listener : new.listener.ghost_name ≡ old.listener.ghost_name

-- Passing a datagram changes neither what the loop borrows nor the ports of the server and of the requests. If the
-- ports are modeled, the ports of the lines send nothing.
pub record OnlyPasses {D A P : Type 0} (modeled : Bool) (port : D → Port P) (old new : LocalFeed D A) : Type 0 where
  pub same : IsSame old new
  pub server : new.ports.now.server ≡ old.ports.now.server
  pub requests : new.ports.now.requests ≡ old.ports.now.requests
  pub a : modeled ≡ true → (port new.ports.now.a).sent ≡ (port old.ports.now.a).sent
  pub b : modeled ≡ true → (port new.ports.now.b).sent ≡ (port old.ports.now.b).sent

-- A round changes neither what the loop borrows nor the ports of the publisher and of the lines.
pub record OnlyRepairs {D A : Type 0} (old new : LocalFeed D A) : Type 0 where
  pub same : IsSame old new
  pub publisher : new.ports.now.publisher ≡ old.ports.now.publisher
  pub a : new.ports.now.a ≡ old.ports.now.a
  pub b : new.ports.now.b ≡ old.ports.now.b

-- The loop passed these datagrams, each on the lines paired with it, in the sense of `HasPassed`.
abbrev pub Passes : {D P T E : Type 0} → (D → Port P) → List (Routes × List ℕ) → Result T E → LocalFeed D P →
    LocalFeed D P → Type 0
Passes port datagrams result old new =
    HasPassed old.options.now.peers.a old.options.now.peers.b datagrams result (lines port old) (lines port new)

-- The loop passed these datagrams and then wrote some text, in the sense of `PassRests`.
abbrev pub PassesAndWrites : {D P T E : Type 0} → (D → Port P) → List (Routes × List ℕ) → Result T E →
    LocalFeed D P → LocalFeed D P → Option (List ℕ) → Option (List ℕ) → Option (List ℕ) → Option (List ℕ) → Type 0
PassesAndWrites port datagrams result old new held_old held_new errors_old errors_new =
    PassRests old.options.now.peers.a old.options.now.peers.b datagrams result (lines port old) (lines port new)
    held_old held_new errors_old errors_new
