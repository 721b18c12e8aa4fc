-- Frames of each link type that is read, by the numbers of the registry of link types.
use Rattle.std.specs.Prelude.{ℕ, ◌==◌, ◌||◌, Bool, List, length, drop, nat_lt, if◌then◌else◌, Option, None, Some}
use Rattle.byteorder.specs.Endian.{big_number}
use Rattle.mold_frame.specs.Carried.{Carried, Other, Unread}
use Rattle.mold_frame.specs.Ipv4.{ipv4_of, version_of}
use Rattle.mold_frame.specs.Ipv6.{ipv6_of}
use Rattle.mold_frame.specs.Steps.{after_steps}

-- What follows a link's header or a VLAN tag: the protocol number and the bytes.
pub record Tagged : Type 0 where
  pub protocol : ℕ
  pub bytes : List ℕ

-- What follows a link's header.
abbrev pub after_link : ℕ → ℕ → List ℕ → Tagged
after_link header at bytes = record { protocol = big_number 2 (drop at bytes); bytes = drop header bytes }

-- The protocol numbers of VLAN tags.
abbrev pub is_tag : ℕ → Bool
is_tag protocol = protocol == 0x8100 || (protocol == 0x88a8 || protocol == 0x9100)

-- What follows the tag at the start, if there is one. Bytes 2 and 3 of a tag are the next protocol number.
unfoldable pub untagged : Tagged → Option Tagged
untagged tagged =
    if is_tag tagged.protocol
    then (
    if nat_lt (length tagged.bytes) 4 then None
    else Some (record { protocol = big_number 2 (drop 2 tagged.bytes); bytes = drop 4 tagged.bytes })
    )
    else None

-- What a packet of this protocol carries.
unfoldable pub protocol_of : ℕ → List ℕ → Carried
protocol_of protocol bytes =
    if protocol == 0x0800 then ipv4_of bytes
    else if protocol == 0x86dd then ipv6_of bytes
    else Other

-- What the packet after the tags carries.
abbrev pub tagged_of : Tagged → Carried
tagged_of tagged = protocol_of tagged.protocol tagged.bytes

-- What the packet carries after a link's header and at most two tags. The header has `header` bytes, of which those at
-- `at` are the protocol number.
unfoldable pub headed_of : ℕ → ℕ → List ℕ → Carried
headed_of header at bytes =
    if nat_lt (length bytes) header then Other
    else tagged_of (after_steps untagged 2 (after_link header at bytes))

-- What an IP packet of either version carries.
unfoldable pub ip_of : List ℕ → Carried
ip_of bytes =
    if length bytes == 0 then Other
    else if version_of bytes == 4 then ipv4_of bytes
    else if version_of bytes == 6 then ipv6_of bytes
    else Other

-- What an IP packet carries that follows the 4 bytes of an address family.
unfoldable pub loopback_of : List ℕ → Carried
loopback_of bytes = if nat_lt (length bytes) 4 then Other else ip_of (drop 4 bytes)

-- What a frame of this link type carries: Ethernet, raw IP, IPv4, IPv6, Linux cooked of both versions, BSD loopback in
-- either byte order.
unfoldable pub carried : ℕ → List ℕ → Carried
carried link bytes =
    if link == 1 then headed_of 14 12 bytes
    else if link == 101 then ip_of bytes
    else if link == 228 then ipv4_of bytes
    else if link == 229 then ipv6_of bytes
    else if link == 113 then headed_of 16 14 bytes
    else if link == 276 then headed_of 20 0 bytes
    else if link == 0 || link == 108 then loopback_of bytes
    else Unread
