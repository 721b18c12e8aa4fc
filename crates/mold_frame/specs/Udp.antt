-- UDP, as RFC 768 lays it out: both ports, the length and the checksum of 2 bytes each, and then the payload. The
-- length counts the header of 8 bytes. Bytes after it are not part of the datagram.
use Rattle.std.specs.Prelude.{ℕ, ◌-◌, ◌==◌, ◌||◌, List, length, take, drop, nat_lt, if◌then◌else◌, Option, None, Some}
use Rattle.byteorder.specs.Endian.{big_number}
use Rattle.mold_frame.specs.Carried.{Datagram, Carried, Whole, Cut, Other}

-- The destination port, if the bytes of both ports are there.
abbrev pub port_of : List ℕ → Option ℕ
port_of bytes = if nat_lt (length bytes) 4 then None else Some (big_number 2 (drop 2 bytes))

-- The destination port of a fragment. Only the first fragment, at offset 0, begins with the ports.
abbrev pub fragment_port : ℕ → List ℕ → Option ℕ
fragment_port offset bytes = if offset == 0 then port_of bytes else None

-- The datagram of `size` bytes, its header included.
abbrev pub datagram_of : List ℕ → List ℕ → ℕ → List ℕ → Datagram
datagram_of source target size bytes =
    record {
      source = source;
      source_port = big_number 2 bytes;
      target = target;
      target_port = big_number 2 (drop 2 bytes);
      payload = take (size - 8) (drop 8 bytes);
    }

-- The datagram at the start of the whole payload of an IP packet with these addresses.
unfoldable pub udp_of : List ℕ → List ℕ → List ℕ → Carried
udp_of source target bytes =
    let size = big_number 2 (drop 4 bytes) in
    if nat_lt (length bytes) 8 then Other
    else if nat_lt size 8 || nat_lt (length bytes) size then Other
    else Whole (datagram_of source target size bytes)

-- The datagram in an IP payload of `size` bytes, of which the capture has these.
unfoldable pub udp_in : List ℕ → List ℕ → ℕ → List ℕ → Carried
udp_in source target size bytes =
    if nat_lt (length bytes) size then Cut (record { address = target; port = port_of bytes })
    else udp_of source target bytes
