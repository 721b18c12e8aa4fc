-- Sets of UDP ports.
use Rattle.std.specs.Prelude.{ℕ, List, Option}
use Rattle.mold_port_set.specs.declared.opened.Opened.{Opened}
use Rattle.mold_port_set.specs.declared.sender_list.SenderList.{SenderList}

-- The state of a set of UDP ports. Contracts do not know what its sockets send and receive.
pub record UdpSetState : Type 0 where
  -- how each port was opened, in order
  pub ports : List Opened
  -- the senders whose datagrams each port gives, in the same order. With `None` it gives those of all senders
  pub senders : List (Option SenderList)
  -- the time of the last wait or receive, in nanoseconds since the set was made
  pub time : ℕ
  -- the count of failed waits, sends and receives
  pub failures : ℕ
