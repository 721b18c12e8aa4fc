-- IPv6 and its extension headers, as RFC 8200 lays them out.
use Rattle.std.specs.Prelude.{ℕ, ◌+◌, ◌*◌, ◌-◌, ◌/◌, ◌%◌, ◌==◌, ◌||◌, ◌&&◌, Bool, List, length, take, drop, nat_lt}
use Rattle.std.specs.Prelude.{if◌then◌else◌, Option, None, Some, slice_index}
use Rattle.byteorder.specs.Endian.{big_number}
use Rattle.mold_frame.specs.Carried.{Carried, Fragment, Other}
use Rattle.mold_frame.specs.Ipv4.{version_of}
use Rattle.mold_frame.specs.Steps.{after_steps}
use Rattle.mold_frame.specs.Udp.{fragment_port, udp_in}

-- What follows an IPv6 header or an extension header: its protocol number `next`, and its `size` bytes, of which the
-- capture has `bytes`.
pub record Payload : Type 0 where
  pub next : ℕ
  pub size : ℕ
  pub bytes : List ℕ

-- Hop-by-hop options, routing, destination options, mobility, HIP and shim6.
abbrev pub is_common : ℕ → Bool
is_common next = next == 0 || (next == 43 || (next == 60 || (next == 135 || (next == 139 || next == 140))))

-- The field of a fragment header states the offset 0 and that no fragment follows: the packet was not fragmented.
abbrev pub is_atomic : ℕ → Bool
is_atomic field = field / 8 == 0 && field % 2 == 0

-- The length of a fragment header that is passed over. Its field is at byte 2.
abbrev pub atomic_length : List ℕ → Option ℕ
atomic_length bytes =
    if nat_lt (length bytes) 4 then None
    else if is_atomic (big_number 2 (drop 2 bytes)) then Some 8
    else None

-- The length of an extension header that is passed over, if the payload begins with one. Byte 1 has the length in units
-- of 8 bytes without the first 8, and in the authentication header in units of 4 bytes without the first 8.
unfoldable pub header_length : ℕ → List ℕ → Option ℕ
header_length next bytes =
    if nat_lt (length bytes) 2 then None
    else if is_common next then Some (8 * (slice_index bytes 1 + 1))
    else if next == 51 then Some (4 * (slice_index bytes 1 + 2))
    else if next == 44 then atomic_length bytes
    else None

-- What follows an extension header of this length. Byte 0 of the header is the next protocol number.
abbrev pub after_header : Payload → Option ℕ → Option Payload
after_header payload None = None
after_header payload (Some len) =
    if nat_lt payload.size len then None
    else Some (record {
      next = slice_index payload.bytes 0;
      size = payload.size - len;
      bytes = drop len payload.bytes;
    })

-- What follows the extension header at the start of the payload, if it begins with one that is passed over.
unfoldable pub passed : Payload → Option Payload
passed payload = after_header payload (header_length payload.next payload.bytes)

-- What a payload carries that begins with a fragment header. The fragment follows the header's 8 bytes.
unfoldable pub ipv6_fragment : List ℕ → ℕ → List ℕ → Carried
ipv6_fragment target size bytes =
    let field = big_number 2 (drop 2 bytes) in
    if nat_lt size 8 || nat_lt (length bytes) 4 then Other
    else if is_atomic field then Other
    else if slice_index bytes 0 == 17
    then Fragment (record { address = target; port = fragment_port (field / 8) (drop 8 bytes) })
    else Other

-- What the payload after the extension headers carries.
unfoldable pub ipv6_payload : List ℕ → List ℕ → Payload → Carried
ipv6_payload source target payload =
    if payload.next == 17 then udp_in source target payload.size payload.bytes
    else if payload.next == 44 then ipv6_fragment target payload.size payload.bytes
    else Other

-- What follows the header of 40 bytes. The payload's length is at byte 4, and its protocol number is at byte 6. Bytes
-- after the payload are padding.
abbrev pub first_payload : List ℕ → Payload
first_payload bytes =
    let size = big_number 2 (drop 4 bytes) in
    record { next = slice_index bytes 6; size = size; bytes = take size (drop 40 bytes) }

-- What the packet at the start of the bytes carries. At most 8 extension headers are passed over.
unfoldable pub ipv6_of : List ℕ → Carried
ipv6_of bytes =
    if nat_lt (length bytes) 40 then Other
    else if version_of bytes == 6
    then (
    ipv6_payload (take 16 (drop 8 bytes)) (take 16 (drop 24 bytes))
    (after_steps passed 8 (first_payload bytes))
    )
    else Other
