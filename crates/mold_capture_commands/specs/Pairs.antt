-- The destinations and sessions of datagrams, and what is counted for each pair of them.
use Rattle.std.specs.Prelude.{ℕ, ◌+◌, ◌==◌, ◌&&◌, min, max, Bool, true, false, not, List, [], ◌∷◌, map, length}
use Rattle.std.specs.Prelude.{Option, None, Some, Result, Ok, Err}
use Rattle.std.specs.List.{filter, flat_map}
use Rattle.std.specs.Str.{bytes_eq}
use Rattle.mold_frame.specs.Carried.{Datagram}
use Rattle.mold_frame.specs.IpAddress.{ip_address}
use Rattle.mold_wire.specs.Packet.{messages_of}
use Rattle.mold_wire.specs.Reading.{reading}
use Rattle.mold_wire.specs.declared.error.DecodeError.{DecodeError}
use Rattle.mold_wire.specs.declared.limits.TheConstants.{MAX_NUMBER}
use Rattle.mold_wire.specs.declared.packet.Packet.{Packet}
use Rattle.mold_wire.specs.declared.packet.Body.{Body}
use Rattle.mold_wire.specs.declared.packet.Body.TheVariants.{Data, Heartbeat, End}
use Rattle.mold_wire.specs.declared.session.Session.{Session}
use Rattle.mold_capture_commands.specs.declared.pair.Pair.{Pair}
use Rattle.mold_capture_commands.specs.declared.pair_tally.PairTally.{PairTally}
use Rattle.mold_frame.specs.declared.ip_address.IpAddress.{IpAddress}
use Rattle.mold_frame.specs.declared.ip_address.IpAddress.TheVariants.{V4, V6}

-- The session of a packet. Bytes that do not encode a packet have none.
abbrev pub session_read : Result Packet DecodeError → Option Session
session_read (Ok packet) = Some packet.session
session_read (Err fault) = None

-- The pair that a datagram belongs to: its destination, and the session of its packet.
abbrev pub pair_of : Datagram → Pair
pair_of datagram = record {
  target = ip_address datagram.target;
  port = datagram.target_port;
  session = session_read (reading datagram.payload);
}

-- Two addresses are equal.
abbrev pub same_address : IpAddress → IpAddress → Bool
same_address (V4 one) (V4 other) = bytes_eq one other
same_address (V6 one) (V6 other) = bytes_eq one other
same_address (V4 one) (V6 other) = false
same_address (V6 one) (V4 other) = false

-- Two sessions are equal, or both are missing.
abbrev pub same_session : Option Session → Option Session → Bool
same_session None None = true
same_session (Some one) (Some other) = bytes_eq one.0 other.0
same_session None (Some other) = false
same_session (Some one) None = false

-- Two pairs are equal.
unfoldable pub same_pair : Pair → Pair → Bool
same_pair one other =
    same_address one.target other.target && (one.port == other.port && same_session one.session other.session)

-- The pairs of the list, each of them once, in the order of their first appearance.
unfoldable pub distinct : List Pair → List Pair
distinct [] = []
distinct (pair ∷ pairs) = pair ∷ filter (λ other. not (same_pair other pair)) (distinct pairs)

-- The packets or faults of the datagrams of a pair.
unfoldable pub readings_of : Pair → List Datagram → List (Result Packet DecodeError)
readings_of pair list = map (λ d. reading d.payload) (filter (λ d. same_pair (pair_of d) pair) list)

-- The numbers of consecutive messages, of which the first has this number.
unfoldable pub numbers_from : ℕ → List (List ℕ) → List ℕ
numbers_from number [] = []
numbers_from number (message ∷ messages) = number ∷ numbers_from (number + 1) messages

-- The numbers of the messages that a packet carries.
abbrev pub carried_numbers : Result Packet DecodeError → List ℕ
carried_numbers (Ok packet) = numbers_from packet.sequence (messages_of packet.body)
carried_numbers (Err fault) = []

-- Whether the body is that of a heartbeat.
abbrev pub is_heartbeat_body : Body → Bool
is_heartbeat_body (Data messages) = false
is_heartbeat_body Heartbeat = true
is_heartbeat_body End = false

-- Whether the packet is a heartbeat.
abbrev pub is_heartbeat : Result Packet DecodeError → Bool
is_heartbeat (Ok packet) = is_heartbeat_body packet.body
is_heartbeat (Err fault) = false

-- The sequence number, if the body is that of an end packet.
abbrev pub end_in : ℕ → Body → List ℕ
end_in sequence (Data messages) = []
end_in sequence Heartbeat = []
end_in sequence End = sequence ∷ []

-- The sequence number of the packet, if it is an end packet.
abbrev pub end_numbers : Result Packet DecodeError → List ℕ
end_numbers (Ok packet) = end_in packet.sequence packet.body
end_numbers (Err fault) = []

-- Two numbers as one, where either may be missing.
abbrev pub joint : (ℕ → ℕ → ℕ) → Option ℕ → Option ℕ → Option ℕ
joint op None other = other
joint op (Some number) None = Some number
joint op (Some number) (Some other) = Some (op number other)

-- All numbers of a list as one, if there are any.
unfoldable pub combined : (ℕ → ℕ → ℕ) → List ℕ → Option ℕ
combined op [] = None
combined op (number ∷ numbers) = joint op (Some number) (combined op numbers)

-- The later of two numbers.
abbrev pub later : ℕ → ℕ → ℕ
later number other = other

-- The least number of a list.
abbrev pub least : List ℕ → Option ℕ
least numbers = combined min numbers

-- The greatest number of a list.
abbrev pub greatest : List ℕ → Option ℕ
greatest numbers = combined max numbers

-- The last number of a list.
abbrev pub last : List ℕ → Option ℕ
last numbers = combined later numbers

-- What is counted for the datagrams of a pair. The counts stop at `MAX_NUMBER`.
abbrev pub tally_of : List (Result Packet DecodeError) → PairTally
tally_of list = record {
  datagrams = min (length list) MAX_NUMBER;
  first = least (flat_map carried_numbers list);
  last = greatest (flat_map carried_numbers list);
  heartbeats = min (length (filter is_heartbeat list)) MAX_NUMBER;
  end = last (flat_map end_numbers list);
}
