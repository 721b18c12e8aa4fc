-- Which senders' datagrams a port gives.
use Rattle.std.specs.Prelude.{Option, None, Some, Contains, ⊤}
use Rattle.std.specs.declared.net.ipv4_addr.Ipv4Addr.{Ipv4Addr}
use Rattle.mold_port_set.specs.declared.sender_list.SenderList.{SenderList}

-- A port with these senders gives datagrams of this IP address. Without a list, it gives those of every address.
abbrev pub IsWanted : Option SenderList → Ipv4Addr → Type 0
IsWanted None host = ⊤
IsWanted (Some list) host = Contains list.hosts (Some host)
