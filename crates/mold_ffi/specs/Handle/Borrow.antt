-- What a handle does not hold.
use Rattle.std.specs.Prelude.{◌≡◌, Option, None, Some}
use Rattle.mold_ffi.specs.Listener.BatchedArbiter.{BatchedArbitration}
use Rattle.mold_ffi.specs.Repairer.BatchedRepairer.{batched_of}
use Rattle.mold_ffi.specs.declared.handle.held.Held.{Held}
use Rattle.mold_ffi.specs.declared.handle.held.Held.TheVariants.{Listener, Publisher, Server, Checker, Repairer}

-- The handle is empty, or holds something other than a listener.
abbrev pub IsNoListener : Option Held → Type 0
IsNoListener None = Unit {0}
IsNoListener (Some (Listener arbiter)) = ⊥
IsNoListener (Some (Publisher exchange)) = Unit {0}
IsNoListener (Some (Server serving)) = Unit {0}
IsNoListener (Some (Checker seen)) = Unit {0}
IsNoListener (Some (Repairer timed)) = Unit {0}

-- The handle is empty, or holds something other than a publisher.
abbrev pub IsNoPublisher : Option Held → Type 0
IsNoPublisher None = Unit {0}
IsNoPublisher (Some (Listener arbiter)) = Unit {0}
IsNoPublisher (Some (Publisher exchange)) = ⊥
IsNoPublisher (Some (Server serving)) = Unit {0}
IsNoPublisher (Some (Checker seen)) = Unit {0}
IsNoPublisher (Some (Repairer timed)) = Unit {0}

-- The handle holds neither a server nor a publisher that has a server.
abbrev pub IsNoServer : Option Held → Type 0
IsNoServer None = Unit {0}
IsNoServer (Some (Listener arbiter)) = Unit {0}
IsNoServer (Some (Publisher exchange)) = exchange.server ≡ None
IsNoServer (Some (Server serving)) = ⊥
IsNoServer (Some (Checker seen)) = Unit {0}
IsNoServer (Some (Repairer timed)) = Unit {0}

-- The handle is empty, or holds something other than a checker.
abbrev pub IsNoChecker : Option Held → Type 0
IsNoChecker None = Unit {0}
IsNoChecker (Some (Listener arbiter)) = Unit {0}
IsNoChecker (Some (Publisher exchange)) = Unit {0}
IsNoChecker (Some (Server serving)) = Unit {0}
IsNoChecker (Some (Checker seen)) = ⊥
IsNoChecker (Some (Repairer timed)) = Unit {0}

-- The handle is empty, or holds something other than a repairer.
abbrev pub IsNoRepairer : Option Held → Type 0
IsNoRepairer None = Unit {0}
IsNoRepairer (Some (Listener arbiter)) = Unit {0}
IsNoRepairer (Some (Publisher exchange)) = Unit {0}
IsNoRepairer (Some (Server serving)) = Unit {0}
IsNoRepairer (Some (Checker seen)) = Unit {0}
IsNoRepairer (Some (Repairer timed)) = ⊥

-- The listener that a handle shows to the calls that read one: that which it holds, or that of its repairer.
abbrev pub listening : Option Held → Option BatchedArbitration
listening None = None
listening (Some (Listener batched)) = Some batched
listening (Some (Publisher exchange)) = None
listening (Some (Server serving)) = None
listening (Some (Checker seen)) = None
listening (Some (Repairer timed)) = Some (batched_of timed)
