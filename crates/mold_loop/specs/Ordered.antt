-- Defines the parts of a loop that an order (the parsed command line) determines.
use Rattle.mold_receiver.specs.Arbiter.{Arbitration}
use Rattle.mold_session.specs.Publisher.{PublisherState}
use Rattle.mold_session.specs.Server.{ServerState}
use Rattle.mold_wiring.specs.Wiring.{new_arbiter, new_publisher, new_server}
use Rattle.mold_words.specs.declared.loop_order.LoopOrder.{LoopOrder}
use Rattle.mold_loop.specs.declared.loop_parts.Drops.{Drops}

-- The publisher of the order's loop, with the order's session and limit and no messages.
abbrev pub loop_publisher_of : LoopOrder → PublisherState
loop_publisher_of order = new_publisher order.session order.limits.limit

-- The re-request server of the order's loop, with the order's limits and burst.
abbrev pub loop_server_of : LoopOrder → ServerState
loop_server_of order = new_server order.limits.server_limit order.limits.limit order.burst

-- The arbiter of the order's loop, which starts at message 1 of the order's session.
abbrev pub loop_arbiter_of : LoopOrder → Arbitration
loop_arbiter_of order = new_arbiter order.session 1 order.window

-- The data packets that each line of the order's loop leaves out.
abbrev pub drops_of : LoopOrder → Drops
drops_of order = record { a = order.drop_a; b = order.drop_b }
