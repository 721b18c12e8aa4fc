-- Frames as a sender writes them.
use Rattle.std.specs.Prelude.{◌≡◌, ◌⊎◌, ℕ, ◌+◌, ◌*◌, ◌<◌, ◌≤◌, ◌^◌, List, [], ◌∷◌, ◌++◌, length, flat_map}
use Rattle.std.specs.List.{AllByRecursion}
use Rattle.byteorder.specs.Endian.{big_bytes}
use Rattle.mold_frame.specs.Carried.{Datagram}

-- The two big-endian bytes of a number below 65,536.
abbrev pub be16 : ℕ → List ℕ
be16 number = big_bytes 2 number

-- A datagram whose addresses have `width` bytes.
pub record IsDatagram (width : ℕ) (d : Datagram) : Type 0 where
  pub source : length d.source ≡ width
  pub source_port : d.source_port < 2 ^ 16
  pub target : length d.target ≡ width
  pub target_port : d.target_port < 2 ^ 16

-- The UDP header with any checksum, and the payload (RFC 768).
abbrev pub udp_bytes : ℕ → Datagram → List ℕ
udp_bytes checksum d =
    be16 d.source_port
    ++ (be16 d.target_port ++ (be16 (8 + length d.payload) ++ (be16 checksum ++ d.payload)))

-- The fields of an IPv4 header that do not change its datagram. `flags` are the two bits above the flag "more
-- fragments". The options have 4 bytes for each of `words`.
pub record Ipv4Fields : Type 0 where
  pub service : ℕ
  pub id : ℕ
  pub flags : ℕ
  pub hops : ℕ
  pub checksum : ℕ
  pub words : ℕ
  pub options : List ℕ

-- The fields are in their ranges, and the datagram fits the packet.
pub record AreIpv4Fields (fields : Ipv4Fields) (d : Datagram) : Type 0 where
  pub flags : fields.flags < 4
  pub words : fields.words ≤ 10
  pub options : length fields.options ≡ 4 * fields.words
  pub fits : 28 + 4 * fields.words + length d.payload < 2 ^ 16

-- The IPv4 header after its fragment field.
abbrev pub ipv4_header_end : Ipv4Fields → Datagram → List ℕ
ipv4_header_end fields d =
    fields.hops ∷ 17 ∷ (be16 fields.checksum ++ (d.source ++ (d.target ++ fields.options)))

-- An IPv4 header (RFC 791).
abbrev pub ipv4_header : Ipv4Fields → Datagram → List ℕ
ipv4_header fields d =
    (69 + fields.words) ∷ fields.service ∷ (be16 (28 + 4 * fields.words + length d.payload)
    ++ (be16 fields.id ++ (be16 (16384 * fields.flags) ++ ipv4_header_end fields d)))

-- An extension header of IPv6: its protocol number, its second byte, and the bytes after this one.
pub record Extension : Type 0 where
  pub number : ℕ
  pub second : ℕ
  pub rest : List ℕ

-- Hop-by-hop options, routing, destination options, mobility, HIP and shim6. The second byte is the length in units of
-- 8 bytes without the first 8.
abbrev pub IsCommon : ℕ → Type 0
IsCommon number =
    (number ≡ 0) ⊎ ((number ≡ 43) ⊎ ((number ≡ 60) ⊎ ((number ≡ 135) ⊎ ((number ≡ 139) ⊎ (number ≡ 140)))))

-- The header of a packet that was not fragmented: after a field of 2 zero bytes it has 4 bytes of identification.
pub record IsAtomic (extension : Extension) : Type 0 where
  pub number : extension.number ≡ 44
  pub id : List ℕ
  pub long : length id ≡ 4
  pub rest : extension.rest ≡ 0 ∷ 0 ∷ id

-- An extension header that is passed over. The second byte of the authentication header is its length in units of 4
-- bytes without the first 8.
abbrev pub IsExtension : Extension → Type 0
IsExtension e =
    (IsCommon e.number × (2 + length e.rest ≡ 8 * (e.second + 1)))
    ⊎ (((e.number ≡ 51) × (2 + length e.rest ≡ 4 * (e.second + 2))) ⊎ IsAtomic e)

-- The protocol number of the first extension header, or that of UDP.
abbrev pub first_number : List Extension → ℕ
first_number [] = 17
first_number (extension ∷ extensions) = extension.number

-- The extension headers and the datagram after them. The first byte of a header is the protocol number of the next one.
abbrev pub extended_bytes : List Extension → List ℕ → List ℕ
extended_bytes [] datagram = datagram
extended_bytes (extension ∷ extensions) datagram =
    first_number extensions ∷ extension.second ∷ (extension.rest ++ extended_bytes extensions datagram)

-- The fields of an IPv6 header that do not change its datagram. `class` is the high half of the traffic class, and
-- `flow` the 24 bits after it.
pub record Ipv6Fields : Type 0 where
  pub class : ℕ
  pub flow : ℕ
  pub hops : ℕ
  pub extensions : List Extension

-- The payload of the IPv6 packet.
abbrev pub ipv6_payload_bytes : ℕ → Ipv6Fields → Datagram → List ℕ
ipv6_payload_bytes checksum fields d = extended_bytes fields.extensions (udp_bytes checksum d)

-- The fields are in their ranges, and the payload fits the packet.
pub record AreIpv6Fields (checksum : ℕ) (fields : Ipv6Fields) (d : Datagram) : Type 0 where
  pub class : fields.class < 16
  pub few : length fields.extensions ≤ 8
  pub each : AllByRecursion IsExtension fields.extensions
  pub fits : length (ipv6_payload_bytes checksum fields d) < 2 ^ 16

-- An IPv6 header (RFC 8200).
abbrev pub ipv6_header : ℕ → Ipv6Fields → Datagram → List ℕ
ipv6_header size fields d =
    (96 + fields.class) ∷ (big_bytes 3 fields.flow
    ++ (be16 size ++ (first_number fields.extensions ∷ fields.hops ∷ (d.source ++ d.target))))

-- An IPv4 packet, and padding after it.
abbrev pub ipv4_bytes : ℕ → Ipv4Fields → Datagram → List ℕ → List ℕ
ipv4_bytes checksum fields d padding = ipv4_header fields d ++ (udp_bytes checksum d ++ padding)

-- An IPv6 packet, and padding after it.
abbrev pub ipv6_bytes : ℕ → Ipv6Fields → Datagram → List ℕ → List ℕ
ipv6_bytes checksum fields d padding =
    let payload = ipv6_payload_bytes checksum fields d in
    ipv6_header (length payload) fields d ++ (payload ++ padding)

-- A VLAN tag: its protocol number and its control field.
pub record Tag : Type 0 where
  pub protocol : ℕ
  pub control : ℕ

-- The tag has one of the three protocol numbers of VLAN tags.
abbrev pub IsTag : Tag → Type 0
IsTag tag = (tag.protocol ≡ 0x8100) ⊎ ((tag.protocol ≡ 0x88a8) ⊎ (tag.protocol ≡ 0x9100))

-- At most two tags.
pub record AreTags (tags : List Tag) : Type 0 where
  pub few : length tags ≤ 2
  pub each : AllByRecursion IsTag tags

-- The four bytes of a tag: its protocol number and its control field.
abbrev pub tag_bytes : Tag → List ℕ
tag_bytes tag = be16 tag.protocol ++ be16 tag.control

-- The tags, the protocol number after them, and the packet.
abbrev pub tagged_bytes : List Tag → ℕ → List ℕ → List ℕ
tagged_bytes tags protocol packet = flat_map tag_bytes tags ++ (be16 protocol ++ packet)
