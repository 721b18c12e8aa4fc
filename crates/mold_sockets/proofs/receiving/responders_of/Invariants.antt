use Rattle.std.proofs.Common.{◌≡◌, ◌-◌, ◌++◌, None, Some, map, replicate, take}
use Rattle.mold_sockets.specs.Receiving.{hosts_in}
use Rattle.mold_sockets.proofs.receiving.responders_of.Given as goal

-- the list has the addresses of the servers so far, and its other entries are empty
abbrev pub invariant-loop-index : goal.invariant-loop-index
invariant-loop-index l =
    hosts_in l.list
    ≡ map (λ server. Some server.host) (take l.index l.fn.order.servers.items) ++ replicate (8 - l.index) None
