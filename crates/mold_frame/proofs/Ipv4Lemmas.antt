-- An IPv4 packet that is written is read back.
use Rattle.std.proofs.Common.{◌≡◌, ℕ, ◌+◌, ◌*◌, ◌-◌, ◌/◌, ◌%◌, ◌<◌, ◌≤◌, ◌^◌, List, ◌++◌}
use Rattle.std.proofs.Common.{length, take, drop, true, false, nat_lt}
use Rattle.std.proofs.Common.{refl, sym, ap, ◌∙◌, arith, append_assoc, length-append}
use Rattle.std.proofs.lemmas.Bool.{le-ltb}
use Rattle.std.proofs.lemmas.List.{drop_at, take_at}
use Rattle.std.specs.List.{slice_index}
use Rattle.byteorder.specs.Endian.{big_number}
use Rattle.mold_frame.specs.Carried.{Datagram, Whole}
use Rattle.mold_frame.specs.Ipv4.{fragment_field, ipv4_of, ipv4_part, ipv4_payload, is_ipv4_udp}
use Rattle.mold_frame.specs.Udp.{udp_in}
use Rattle.mold_frame.specs.Written.{AreIpv4Fields, IsDatagram, Ipv4Fields, ipv4_bytes, ipv4_header, udp_bytes}
use Rattle.mold_frame.proofs.UdpLemmas.{length-udp_bytes, udp-written}

field_is : (header : List ℕ) → big_number 2 (drop 6 header) % 16384 ≡ 0 → fragment_field header ≡ 0
unfolding fragment_field
field_is header zero = zero

whole_read :
    (header : List ℕ) (source target : List ℕ) (size : ℕ) (payload : List ℕ) →
    fragment_field header ≡ 0 → take 4 (drop 12 header) ≡ source → take 4 (drop 16 header) ≡ target →
    ipv4_payload header size payload ≡ udp_in source target size payload
unfolding ipv4_payload ipv4_part
whole_read header source target size payload whole from to = rw (whole, from, to) refl

packet_read :
    (bytes : List ℕ) (start total : ℕ) → is_ipv4_udp bytes ≡ true → 4 * (slice_index bytes 0 % 16) ≡ start →
    big_number 2 (drop 2 bytes) ≡ total → 20 ≤ start → start ≤ total →
    ipv4_of bytes ≡ ipv4_payload bytes (total - start) (take (total - start) (drop start bytes))
unfolding ipv4_of
packet_read bytes start total is begins sized least fits =
    let long : nat_lt start 20 ≡ false = le-ltb start 20 least in
    let within : nat_lt total start ≡ false = le-ltb total start fits in
    rw (is, begins, sized, long, within) refl

-- The parts of the bytes after the first 12 of a header.
joined : (a b c d : List ℕ) → (a ++ (b ++ c)) ++ d ≡ a ++ (b ++ (c ++ d))
joined a b c d = append_assoc a (b ++ c) d ∙ ap (λ (t : List ℕ). a ++ t) (append_assoc b c d)

pub ipv4-written :
    (d : Datagram) (checksum : ℕ) (fields : Ipv4Fields) (padding : List ℕ) → IsDatagram 4 d →
    AreIpv4Fields fields d → ipv4_of (ipv4_bytes checksum fields d padding) ≡ Whole d
ipv4-written d checksum fields padding is are =
    let header = ipv4_header fields d in
    let rest = udp_bytes checksum d ++ padding in
    let bytes = header ++ rest in
    let start = 20 + 4 * fields.words in
    let size = 8 + length d.payload in
    let total = start + size in
    let end : List ℕ = (d.source ++ (d.target ++ fields.options)) ++ rest in
    let parts : end ≡ d.source ++ (d.target ++ (fields.options ++ rest)) =
    joined d.source d.target fields.options rest in
    let from : take 4 end ≡ d.source =
    ap (take 4) parts ∙ take_at d.source (d.target ++ (fields.options ++ rest)) 4 is.source in
    let to : take 4 (drop 4 end) ≡ d.target =
    ap (λ (t : List ℕ). take 4 (drop 4 t)) parts
    ∙ ap (take 4) (drop_at d.source (d.target ++ (fields.options ++ rest)) 4 is.source)
    ∙ take_at d.target (fields.options ++ rest) 4 is.target in
    let long : length header ≡ start =
    omega (
      arith,
      length-append d.source (d.target ++ fields.options),
      length-append d.target fields.options,
      is.source,
      is.target,
      are.options,
    ) in
    let all : nat_lt (length bytes) 20 ≡ false =
    le-ltb (length bytes) 20 (omega (arith, length-append header rest)) in
    let version : (69 + fields.words) / 16 ≡ 4 = omega (arith, are.words) in
    let udp : is_ipv4_udp bytes ≡ true = rw (all, version) refl in
    let begins : 4 * ((69 + fields.words) % 16) ≡ start = omega (arith, are.words) in
    let sized : big_number 2 (drop 2 bytes) ≡ total = omega (arith, are.fits) in
    let least : 20 ≤ start = omega arith in
    let fits : start ≤ total = omega arith in
    let left : total - start ≡ size = omega arith in
    let small : total - start < 2 ^ 16 = omega (arith, are.fits) in
    let payload : take (total - start) (drop start bytes) ≡ udp_bytes checksum d =
    ap (take (total - start)) (drop_at header rest start long)
    ∙ take_at (udp_bytes checksum d) padding (total - start) (length-udp_bytes checksum d ∙ sym left) in
    let none : big_number 2 (drop 6 bytes) % 16384 ≡ 0 = omega (arith, are.flags) in
    let unfragmented : fragment_field bytes ≡ 0 = field_is bytes none in
    packet_read bytes start total udp begins sized least fits
    ∙ (ap (ipv4_payload bytes (total - start)) payload
    ∙ (whole_read bytes d.source d.target (total - start) (udp_bytes checksum d) unfragmented from to
    ∙ udp-written 4 checksum (total - start) d is left small))
