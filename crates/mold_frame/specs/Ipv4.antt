-- IPv4, as RFC 791 lays it out.
use Rattle.std.specs.Prelude.{ℕ, ◌*◌, ◌-◌, ◌/◌, ◌%◌, ◌==◌, ◌||◌, ◌&&◌, not, Bool, List, length, take, drop, nat_lt}
use Rattle.std.specs.Prelude.{if◌then◌else◌, slice_index}
use Rattle.byteorder.specs.Endian.{big_number}
use Rattle.mold_frame.specs.Carried.{Carried, Fragment, Other}
use Rattle.mold_frame.specs.Udp.{fragment_port, udp_in}

-- The version of an IP packet is the high half of its first byte.
abbrev pub version_of : List ℕ → ℕ
version_of bytes = slice_index bytes 0 / 16

-- The field at byte 6 of a header, without the flags that do not make a fragment. It has the flag "more fragments"
-- (8192) and the fragment's offset below it.
unfoldable pub fragment_field : List ℕ → ℕ
fragment_field header = big_number 2 (drop 6 header) % 16384

-- What a UDP packet with this fragment field and these addresses carries. Its payload has `size` bytes, of which the
-- capture has `payload`.
unfoldable pub ipv4_part : ℕ → List ℕ → List ℕ → ℕ → List ℕ → Carried
ipv4_part field source target size payload =
    if field == 0 then udp_in source target size payload
    else Fragment (record { address = target; port = fragment_port (field % 8192) payload })

-- What a UDP packet with this header carries. The addresses are at bytes 12 and 16.
unfoldable pub ipv4_payload : List ℕ → ℕ → List ℕ → Carried
ipv4_payload header size payload =
    ipv4_part (fragment_field header) (take 4 (drop 12 header)) (take 4 (drop 16 header)) size payload

-- The packet has a UDP datagram or a part of one, and the bytes of its addresses are there.
abbrev pub is_ipv4_udp : List ℕ → Bool
is_ipv4_udp bytes = not (nat_lt (length bytes) 20) && (version_of bytes == 4 && slice_index bytes 9 == 17)

-- What the packet at the start of the bytes carries. The low half of the first byte is the header's length in units of
-- 4 bytes, with the options. The field at byte 2 is the packet's length. Bytes after the packet are padding.
unfoldable pub ipv4_of : List ℕ → Carried
ipv4_of bytes =
    let start = 4 * (slice_index bytes 0 % 16) in
    let total = big_number 2 (drop 2 bytes) in
    if is_ipv4_udp bytes
    then (
    if nat_lt start 20 || nat_lt total start then Other
    else ipv4_payload bytes (total - start) (take (total - start) (drop start bytes))
    )
    else Other
