-- Which senders' datagrams the ports of `receive` give.
use Rattle.std.specs.Prelude.{if◌then◌else◌, ℕ, ◌-◌, List, [], ◌∷◌, ◌++◌, Option, None, Some, length, map}
use Rattle.std.specs.Prelude.{option_map, replicate}
use Rattle.std.specs.Net.Addr.{ipv4_octets}
use Rattle.mold_port_set.specs.declared.sender_list.SenderList.{SenderList}
use Rattle.mold_words.specs.declared.line_port.LinePort.{LinePort}
use Rattle.mold_words.specs.declared.receive_order.ReceiveOrder.{ReceiveOrder}

-- A list of senders as a list of IP addresses, each as four numbers. Entries may be empty.
abbrev pub hosts_in : SenderList → List (Option (List ℕ))
hosts_in list = map (option_map ipv4_octets) list.hosts

-- The lists of the senders of ports.
abbrev pub hosts_of : List (Option SenderList) → List (Option (List (Option (List ℕ))))
hosts_of senders = map (option_map hosts_in) senders

-- The list of senders that has the IP address of each of these values. Its other entries are empty.
abbrev pub listed : {X : Type 0} → (X → List ℕ) → List X → List (Option (List ℕ))
listed host xs = map (λ x. Some (host x)) xs ++ replicate (8 - length xs) None

-- The senders whose responses are accepted: the servers, or `None` for all senders.
abbrev pub responders : ReceiveOrder → Option (List (Option (List ℕ)))
responders order =
    if order.any_responder then None else Some (listed (λ server. server.host) order.servers.items)

-- The senders whose datagrams are accepted on a line with this source, or `None` for all senders.
abbrev pub line_senders : Option (List ℕ) → Option (List (Option (List ℕ)))
line_senders source = option_map (λ host. listed (λ this. this) (host ∷ [])) source

-- The senders of line B, if there is a line B.
abbrev pub senders_of_b : Option LinePort → Option (List ℕ) → List (Option (List (Option (List ℕ))))
senders_of_b None source = []
senders_of_b (Some port) source = line_senders source ∷ []

-- The senders whose datagrams the ports give: those of the lines, and then the responders for each server.
abbrev pub senders_of : ReceiveOrder → List (Option (List (Option (List ℕ))))
senders_of order =
    line_senders order.source_a
    ∷ (senders_of_b order.b order.source_b ++ replicate (length order.servers.items) (responders order))
