-- The parts of the commands over ports that an order asks for.
use Rattle.std.specs.Prelude.{ℕ, ◌-◌, List}
use Rattle.mold_receiver.specs.Arbiter.{Arbitration}
use Rattle.mold_receiver.specs.Fresh.{fresh_arbitration}
use Rattle.mold_session.specs.Publisher.{PublisherState, fresh_publisher}
use Rattle.mold_session.specs.Server.{ServerState, fresh_server}
use Rattle.mold_wire.specs.declared.limits.TheConstants.{MESSAGE_OVERHEAD}
use Rattle.mold_words.specs.declared.listen_order.ListenOrder.{ListenOrder}
use Rattle.mold_words.specs.declared.publish_order.PublishOrder.{PublishOrder}
use Rattle.mold_words.specs.declared.serve_order.ServeOrder.{ServeOrder}

-- The publisher of a new session whose packets have at most `limit` bytes.
abbrev pub new_publisher : List ℕ → ℕ → PublisherState
new_publisher session limit = fresh_publisher (record { 0 = session }) limit

-- A server whose packets have at most `server_limit` bytes, for the messages of a publisher whose packets have at most
-- `limit`. It sends at most `burst` responses to a request.
abbrev pub new_server : ℕ → ℕ → ℕ → ServerState
new_server server_limit limit burst = fresh_server server_limit (limit - MESSAGE_OVERHEAD) burst

-- An arbiter whose receiver starts at message `next` and has this window.
abbrev pub new_arbiter : List ℕ → ℕ → ℕ → Arbitration
new_arbiter session next window = fresh_arbitration (record { 0 = session }) next window

-- The publisher that the order asks for.
abbrev pub publisher_of : PublishOrder → PublisherState
publisher_of order = new_publisher order.session order.limit

-- The server that the order asks for.
abbrev pub server_of : ServeOrder → ServerState
server_of order = new_server order.limit order.limit order.burst

-- The arbiter that the order asks for.
abbrev pub arbiter_of : ListenOrder → Arbitration
arbiter_of order = new_arbiter order.session order.next order.window
