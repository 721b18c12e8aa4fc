-- UDP sockets as ports.
use Rattle.std.specs.Prelude.{ℕ}
use Rattle.std.specs.declared.net.socket_addr.SocketAddrV4.{SocketAddrV4}
use Rattle.mold_ports.specs.declared.outlook.Outlook.{Outlook}

-- The state of a UDP port: the address that it was opened at, its count of failures, and what its next receive does
-- first. Contracts do not know what a socket sends and receives.
pub record UdpState : Type 0 where
  pub bound : SocketAddrV4
  pub failures : ℕ
  pub outlook : Outlook
