use Rattle.std.proofs.Common.{◌≡◌, ◌++◌, replicate}
use Rattle.mold_sockets.specs.Receiving.{hosts_of, responders}
use Rattle.mold_sockets.proofs.receiving.add_servers.Given as goal

-- this many ports were added
abbrev pub invariant-loop-server : goal.invariant-loop-server
invariant-loop-server l =
    hosts_of l.ports.senders ≡ hosts_of l.fn.ports.senders ++ replicate l._server (responders l.fn.order)
