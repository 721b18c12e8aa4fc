-- Addresses of an order in the forms that the system takes.
use Rattle.std.specs.Prelude.{◌≡◌}
use Rattle.std.specs.Net.Addr.{ipv4_octets}
use Rattle.std.specs.Net.Socket.{v4_ip, v4_port}
use Rattle.std.specs.declared.net.socket_addr.SocketAddr.{SocketAddr}
use Rattle.std.specs.declared.net.socket_addr.SocketAddr.TheVariants.{V4, V6}
use Rattle.std.specs.declared.net.socket_addr.SocketAddrV4.{SocketAddrV4}
use Rattle.mold_words.specs.declared.address.Address.{Address}

-- The system's address has the host and the port number of this address.
abbrev pub IsSocketOf : Address → SocketAddrV4 → Type 0
IsSocketOf address socket = (ipv4_octets (v4_ip socket) ≡ address.host) × (v4_port socket ≡ address.port)

-- The peer is an IPv4 address with the host and the port number of this address.
abbrev pub IsPeerOf : Address → SocketAddr → Type 0
IsPeerOf address (V4 socket) = IsSocketOf address socket
IsPeerOf address (V6 socket) = ⊥
