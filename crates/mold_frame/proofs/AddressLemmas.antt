-- The addresses that a frame carries are of IPv4 or of IPv6.
use Rattle.std.proofs.Common.{◌≡◌, ℕ, ◌+◌, ◌*◌, ◌-◌, ◌/◌, ◌%◌, ◌≤◌, List, length, take, drop}
use Rattle.std.proofs.Common.{true, false, Bool, nat_lt, inl, inr}
use Rattle.std.proofs.Common.{arith, sym, ◌∙◌, length-drop}
use Rattle.std.proofs.lemmas.Bool.{cond_both, ltb-false}
use Rattle.std.proofs.lemmas.Bool.Decides.{nat_tests}
use Rattle.std.proofs.lemmas.List.{length-take-le}
use Rattle.std.specs.Prelude.{◌==◌, ◌||◌, if◌then◌else◌, slice_index}
use Rattle.byteorder.specs.Endian.{big_number}
use Rattle.mold_frame.specs.Addresses.{HasAddresses, IsAddress}
use Rattle.mold_frame.specs.Carried.{Carried, Whole, Fragment, Cut, Other, Unread}
use Rattle.mold_frame.specs.Ipv4.{fragment_field, ipv4_of, ipv4_part, ipv4_payload, is_ipv4_udp, version_of}
use Rattle.mold_frame.specs.Ipv6.{Payload, first_payload, is_atomic, ipv6_fragment, ipv6_of, ipv6_payload, passed}
use Rattle.mold_frame.specs.Link.{Tagged, after_link, carried, headed_of, ip_of, loopback_of, protocol_of, untagged}
use Rattle.mold_frame.specs.Steps.{after_steps}
use Rattle.mold_frame.specs.Udp.{datagram_of, fragment_port, port_of, udp_in, udp_of}

-- `HasAddresses` in a form that does not compute.
record Has (carried : Carried) : Type 0 where
  addresses : HasAddresses carried

nothing : Has Other
nothing = record { addresses = tt }

-- Both outcomes of a test.
has_either : (b : Bool) (first second : Carried) → Has first → Has second → Has (if b then first else second)
has_either true first second has_first has_second = has_first
has_either false first second has_first has_second = has_second

udp_addresses :
    (source target bytes : List ℕ) → IsAddress source → length target ≡ length source →
    Has (udp_of source target bytes)
unfolding udp_of
udp_addresses source target bytes from same =
    let whole : (size : ℕ) → Has (Whole (datagram_of source target size bytes)) =
    λ size. record { addresses = (from, same) } in
    search (has_either, nothing, whole)

as_target : (source target : List ℕ) → IsAddress source → length target ≡ length source → IsAddress target
as_target source target (inl four) same = inl (same ∙ four)
as_target source target (inr sixteen) same = inr (same ∙ sixteen)

in_addresses :
    (source target : List ℕ) (size : ℕ) (bytes : List ℕ) → IsAddress source → length target ≡ length source →
    Has (udp_in source target size bytes)
unfolding udp_in
in_addresses source target size bytes from same =
    let cut : Carried = Cut (record { address = target; port = port_of bytes }) in
    let has : Has cut = record { addresses = as_target source target from same } in
    has_either (nat_lt (length bytes) size) cut (udp_of source target bytes) has
    (udp_addresses source target bytes from same)

part_length : (at size : ℕ) (bytes : List ℕ) → at + size ≤ length bytes → length (take size (drop at bytes)) ≡ size
part_length at size bytes fits =
    let there : size ≤ length (drop at bytes) = omega (arith, length-drop at bytes) in
    length-take-le size (drop at bytes) there

payload_addresses :
    (header : List ℕ) (size : ℕ) (payload : List ℕ) → 20 ≤ length header →
    Has (ipv4_payload header size payload)
unfolding ipv4_payload ipv4_part
payload_addresses header size payload long =
    let from : length (take 4 (drop 12 header)) ≡ 4 = part_length 12 4 header (omega arith) in
    let to : length (take 4 (drop 16 header)) ≡ 4 = part_length 16 4 header (omega arith) in
    let field = fragment_field header in
    let source = take 4 (drop 12 header) in
    let target = take 4 (drop 16 header) in
    let fragment : Carried = Fragment (record { address = target; port = fragment_port (field % 8192) payload }) in
    let has : Has fragment = record { addresses = inl to } in
    has_either (field == 0) (udp_in source target size payload) fragment
    (in_addresses source target size payload (inl from) (to ∙ sym from)) has

ipv4_long : (bytes : List ℕ) → is_ipv4_udp bytes ≡ true → 20 ≤ length bytes
ipv4_long bytes is = grind (arith, nat_tests)

ipv4_addresses : (bytes : List ℕ) → Has (ipv4_of bytes)
unfolding ipv4_of
ipv4_addresses bytes =
    let start = 4 * (slice_index bytes 0 % 16) in
    let total = big_number 2 (drop 2 bytes) in
    let size = total - start in
    let payload : Carried = ipv4_payload bytes size (take size (drop start bytes)) in
    cond_both (is_ipv4_udp bytes) (if nat_lt start 20 || nat_lt total start then Other else payload) Other Has
    (λ is.
    let long : 20 ≤ length bytes = ipv4_long bytes is in
    has_either (nat_lt start 20 || nat_lt total start) Other payload nothing
    (payload_addresses bytes size (take size (drop start bytes)) long))
    (λ _. nothing)

fragment_addresses :
    (target : List ℕ) (size : ℕ) (bytes : List ℕ) → IsAddress target → Has (ipv6_fragment target size bytes)
unfolding ipv6_fragment
fragment_addresses target size bytes to =
    let field = big_number 2 (drop 2 bytes) in
    let fragment : Carried =
    Fragment (record { address = target; port = fragment_port (field / 8) (drop 8 bytes) }) in
    let found : Carried = if slice_index bytes 0 == 17 then fragment else Other in
    let has : Has fragment = record { addresses = to } in
    has_either (nat_lt size 8 || nat_lt (length bytes) 4) Other (if is_atomic field then Other else found) nothing
    (has_either (is_atomic field) Other found nothing
    (has_either (slice_index bytes 0 == 17) fragment Other has nothing))

upper_addresses :
    (source target : List ℕ) (payload : Payload) → IsAddress source → length target ≡ length source →
    Has (ipv6_payload source target payload)
unfolding ipv6_payload
upper_addresses source target payload from same =
    let whole : Carried = udp_in source target payload.size payload.bytes in
    let fragment : Carried = ipv6_fragment target payload.size payload.bytes in
    has_either (payload.next == 17) whole (if payload.next == 44 then fragment else Other)
    (in_addresses source target payload.size payload.bytes from same)
    (has_either (payload.next == 44) fragment Other
    (fragment_addresses target payload.size payload.bytes (as_target source target from same)) nothing)

long_addresses :
    (bytes : List ℕ) (payload : Payload) → 40 ≤ length bytes →
    Has (ipv6_payload (take 16 (drop 8 bytes)) (take 16 (drop 24 bytes)) payload)
long_addresses bytes payload long =
    let from : length (take 16 (drop 8 bytes)) ≡ 16 = part_length 8 16 bytes (omega arith) in
    let to : length (take 16 (drop 24 bytes)) ≡ 16 = part_length 24 16 bytes (omega arith) in
    upper_addresses (take 16 (drop 8 bytes)) (take 16 (drop 24 bytes)) payload (inr from) (to ∙ sym from)

ipv6_addresses : (bytes : List ℕ) → Has (ipv6_of bytes)
unfolding ipv6_of
ipv6_addresses bytes =
    let found : Carried =
    ipv6_payload (take 16 (drop 8 bytes)) (take 16 (drop 24 bytes)) (after_steps passed 8 (first_payload bytes)) in
    cond_both (nat_lt (length bytes) 40) Other (if version_of bytes == 6 then found else Other) Has (λ _. nothing)
    (λ short. has_either (version_of bytes == 6) found Other
    (long_addresses bytes (after_steps passed 8 (first_payload bytes)) (ltb-false (length bytes) 40 short)) nothing)

protocol_addresses : (protocol : ℕ) (bytes : List ℕ) → Has (protocol_of protocol bytes)
unfolding protocol_of
protocol_addresses protocol bytes =
    has_either (protocol == 0x0800) (ipv4_of bytes) (if protocol == 0x86dd then ipv6_of bytes else Other)
    (ipv4_addresses bytes)
    (has_either (protocol == 0x86dd) (ipv6_of bytes) Other (ipv6_addresses bytes) nothing)

headed_addresses : (header at : ℕ) (bytes : List ℕ) → Has (headed_of header at bytes)
unfolding headed_of
headed_addresses header at bytes =
    let packet : Tagged = after_steps untagged 2 (after_link header at bytes) in
    has_either (nat_lt (length bytes) header) Other (protocol_of packet.protocol packet.bytes) nothing
    (protocol_addresses packet.protocol packet.bytes)

ip_addresses : (bytes : List ℕ) → Has (ip_of bytes)
unfolding ip_of
ip_addresses bytes =
    let sixth : Carried = if version_of bytes == 6 then ipv6_of bytes else Other in
    has_either (length bytes == 0) Other (if version_of bytes == 4 then ipv4_of bytes else sixth) nothing
    (has_either (version_of bytes == 4) (ipv4_of bytes) sixth (ipv4_addresses bytes)
    (has_either (version_of bytes == 6) (ipv6_of bytes) Other (ipv6_addresses bytes) nothing))

loopback_addresses : (bytes : List ℕ) → Has (loopback_of bytes)
unfolding loopback_of
loopback_addresses bytes =
    has_either (nat_lt (length bytes) 4) Other (ip_of (drop 4 bytes)) nothing (ip_addresses (drop 4 bytes))

unread : Has Unread
unread = record { addresses = tt }

all_addresses : (link : ℕ) (bytes : List ℕ) → Has (carried link bytes)
unfolding carried
all_addresses link bytes =
    let last : Carried = if link == 0 || link == 108 then loopback_of bytes else Unread in
    let cooked_2 : Carried = if link == 276 then headed_of 20 0 bytes else last in
    let cooked : Carried = if link == 113 then headed_of 16 14 bytes else cooked_2 in
    let raw_6 : Carried = if link == 229 then ipv6_of bytes else cooked in
    let raw_4 : Carried = if link == 228 then ipv4_of bytes else raw_6 in
    let raw : Carried = if link == 101 then ip_of bytes else raw_4 in
    has_either (link == 1) (headed_of 14 12 bytes) raw (headed_addresses 14 12 bytes)
    (has_either (link == 101) (ip_of bytes) raw_4 (ip_addresses bytes)
    (has_either (link == 228) (ipv4_of bytes) raw_6 (ipv4_addresses bytes)
    (has_either (link == 229) (ipv6_of bytes) cooked (ipv6_addresses bytes)
    (has_either (link == 113) (headed_of 16 14 bytes) cooked_2 (headed_addresses 16 14 bytes)
    (has_either (link == 276) (headed_of 20 0 bytes) last (headed_addresses 20 0 bytes)
    (has_either (link == 0 || link == 108) (loopback_of bytes) Unread (loopback_addresses bytes) unread))))))

pub carried_addresses : (link : ℕ) (bytes : List ℕ) → HasAddresses (carried link bytes)
carried_addresses link bytes = (all_addresses link bytes).addresses
