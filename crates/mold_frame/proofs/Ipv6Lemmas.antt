-- An IPv6 packet that is written is read back.
use Rattle.std.proofs.Common.{◌≡◌, ℕ, zero, suc, ◌+◌, ◌*◌, ◌-◌, ◌/◌, ◌<◌, ◌≤◌, ◌^◌, List, [], ◌∷◌, ◌++◌}
use Rattle.std.proofs.Common.{length, take, drop, Bool, true, false, nat_lt, Option, None, Some, inl, inr}
use Rattle.std.proofs.Common.{refl, sym, ap, ◌∙◌, arith, append_assoc, length-append}
use Rattle.std.proofs.lemmas.Bool.{le-ltb}
use Rattle.std.proofs.lemmas.List.{drop_at, take_at}
use Rattle.std.proofs.Math.Bool.{cond}
use Rattle.std.specs.List.{AllByRecursion, slice_index}
use Rattle.byteorder.specs.Endian.{big_number}
use Rattle.mold_frame.specs.Carried.{Datagram, Whole}
use Rattle.mold_frame.specs.Ipv4.{version_of}
use Rattle.mold_frame.specs.Ipv6.{Payload, first_payload, header_length, ipv6_of, ipv6_payload, is_common, passed}
use Rattle.mold_frame.specs.Steps.{after_steps}
use Rattle.mold_frame.specs.Udp.{udp_in}
use Rattle.mold_frame.specs.Written.{AreIpv6Fields, Extension, IsCommon, IsDatagram, IsExtension, Ipv6Fields}
use Rattle.mold_frame.specs.Written.{extended_bytes, first_number, ipv6_bytes, ipv6_header, ipv6_payload_bytes}
use Rattle.mold_frame.specs.Written.{udp_bytes}
use Rattle.mold_frame.proofs.StepLemmas.{first_step, stopped}
use Rattle.mold_frame.proofs.UdpLemmas.{length-udp_bytes, udp-written}

-- A payload that the capture has whole.
abbrev payload_of : ℕ → List ℕ → Payload
payload_of next bytes = record { next = next; size = length bytes; bytes = bytes }

either_none : (b : Bool) → ◌≡◌ {A = Option ℕ} (cond b None None) None
either_none true = refl
either_none false = refl

-- A datagram is not an extension header.
no_header : (size : ℕ) (bytes : List ℕ) → passed (record { next = 17; size = size; bytes = bytes }) ≡ None
unfolding passed header_length
no_header size bytes = rw (either_none (nat_lt (length bytes) 2)) refl

datagram_read :
    (source target : List ℕ) (size : ℕ) (bytes : List ℕ) →
    ipv6_payload source target (record { next = 17; size = size; bytes = bytes }) ≡ udp_in source target size bytes
unfolding ipv6_payload
datagram_read source target size bytes = refl

packet_read :
    (bytes source target : List ℕ) (payload : Payload) → 40 ≤ length bytes → version_of bytes ≡ 6 →
    take 16 (drop 8 bytes) ≡ source → take 16 (drop 24 bytes) ≡ target → first_payload bytes ≡ payload →
    ipv6_of bytes ≡ ipv6_payload source target (after_steps passed 8 payload)
unfolding ipv6_of
packet_read bytes source target payload whole version from to first =
    let long : nat_lt (length bytes) 40 ≡ false = le-ltb (length bytes) 40 whole in
    rw (long, version, from, to, first) refl

same_payload :
    (next size other : ℕ) (bytes same : List ℕ) → size ≡ other → bytes ≡ same →
    ◌≡◌ {A = Payload} (record { next = next; size = size; bytes = bytes })
    (record { next = next; size = other; bytes = same })
same_payload next size other bytes same sizes equal = rw (sizes, equal) refl

-- ---- extension headers

common_header :
    (number second : ℕ) (bytes : List ℕ) → is_common number ≡ true → 2 ≤ length bytes → slice_index bytes 1 ≡ second →
    header_length number bytes ≡ Some (8 * (second + 1))
unfolding header_length
common_header number second bytes is long at =
    let there : nat_lt (length bytes) 2 ≡ false = le-ltb (length bytes) 2 long in
    rw (there, is, at) refl

authentication_header :
    (second : ℕ) (bytes : List ℕ) → 2 ≤ length bytes → slice_index bytes 1 ≡ second →
    header_length 51 bytes ≡ Some (4 * (second + 2))
unfolding header_length
authentication_header second bytes long at =
    let there : nat_lt (length bytes) 2 ≡ false = le-ltb (length bytes) 2 long in
    rw (there, at) refl

atomic_header :
    (bytes : List ℕ) → 4 ≤ length bytes → big_number 2 (drop 2 bytes) ≡ 0 → header_length 44 bytes ≡ Some 8
unfolding header_length
atomic_header bytes long at =
    let there : nat_lt (length bytes) 2 ≡ false = le-ltb (length bytes) 2 (omega arith) in
    let field : nat_lt (length bytes) 4 ≡ false = le-ltb (length bytes) 4 long in
    rw (there, field, at) refl

common_is : (number : ℕ) → IsCommon number → is_common number ≡ true
common_is number (inl is) = rw is refl
common_is number (inr (inl is)) = rw is refl
common_is number (inr (inr (inl is))) = rw is refl
common_is number (inr (inr (inr (inl is)))) = rw is refl
common_is number (inr (inr (inr (inr (inl is))))) = rw is refl
common_is number (inr (inr (inr (inr (inr is))))) = rw is refl

-- The length of an extension header that is written, whatever follows it.
extension_length :
    (e : Extension) (next : ℕ) (rest : List ℕ) → IsExtension e →
    header_length e.number (next ∷ e.second ∷ (e.rest ++ rest)) ≡ Some (2 + length e.rest)
extension_length e next rest (inl common) =
    let bytes : List ℕ = next ∷ e.second ∷ (e.rest ++ rest) in
    common_header e.number e.second bytes (common_is e.number common.0) (omega arith) refl
    ∙ ap (λ (n : ℕ). Some n) (sym common.1)
extension_length e next rest (inr (inl authentication)) =
    ap (λ (n : ℕ). header_length n (next ∷ e.second ∷ (e.rest ++ rest))) authentication.0
    ∙ (authentication_header e.second (next ∷ e.second ∷ (e.rest ++ rest)) (omega arith) refl
    ∙ ap (λ (n : ℕ). Some n) (sym authentication.1))
extension_length e next rest (inr (inr atomic)) =
    let bytes : List ℕ = next ∷ e.second ∷ (e.rest ++ rest) in
    let size : length e.rest ≡ 6 = ap length atomic.rest ∙ omega (arith, atomic.long) in
    let field : big_number 2 (e.rest ++ rest) ≡ 0 = ap (λ (t : List ℕ). big_number 2 (t ++ rest)) atomic.rest in
    let known : 8 ≡ 2 + length e.rest = omega arith in
    ap (λ (n : ℕ). header_length n bytes) atomic.number
    ∙ (atomic_header bytes (omega (arith, length-append e.rest rest)) field ∙ ap (λ (n : ℕ). Some n) known)

passed_at :
    (number size len : ℕ) (bytes : List ℕ) → header_length number bytes ≡ Some len → len ≤ size →
    passed (record { next = number; size = size; bytes = bytes })
    ≡ Some (record { next = slice_index bytes 0; size = size - len; bytes = drop len bytes })
unfolding passed
passed_at number size len bytes is fits =
    let within : nat_lt size len ≡ false = le-ltb size len fits in
    rw (is, within) refl

one_passed :
    (e : Extension) (next : ℕ) (rest : List ℕ) → IsExtension e →
    passed (payload_of e.number (next ∷ e.second ∷ (e.rest ++ rest))) ≡ Some (payload_of next rest)
one_passed e next rest is =
    let bytes : List ℕ = next ∷ e.second ∷ (e.rest ++ rest) in
    let len : ℕ = 2 + length e.rest in
    let long : length bytes ≡ len + length rest = omega (arith, length-append e.rest rest) in
    let left : length bytes - len ≡ length rest = omega arith in
    let after : drop len bytes ≡ rest = drop_at (next ∷ e.second ∷ e.rest) rest len (omega arith) in
    let same = same_payload next (length bytes - len) (length rest) (drop len bytes) rest left after in
    passed_at e.number (length bytes) len bytes (extension_length e next rest is) (omega arith)
    ∙ ap (λ (p : Payload). Some p) same

extended_long :
    (extensions : List Extension) (datagram : List ℕ) → length datagram ≤ length (extended_bytes extensions datagram)
extended_long [] datagram = omega arith
extended_long (e ∷ extensions) datagram =
    omega (arith, length-append e.rest (extended_bytes extensions datagram), extended_long extensions datagram)

-- Extension headers that are written are passed over.
extensions_passed :
    (most : ℕ) (extensions : List Extension) (datagram : List ℕ) → AllByRecursion IsExtension extensions →
    length extensions ≤ most →
    after_steps passed most (payload_of (first_number extensions) (extended_bytes extensions datagram))
    ≡ payload_of 17 datagram
extensions_passed most [] datagram each few =
    stopped passed most (payload_of 17 datagram) (no_header (length datagram) datagram)
extensions_passed zero (e ∷ extensions) datagram each few = absurd (omega arith)
extensions_passed (suc most) (e ∷ extensions) datagram each few =
    let next : ℕ = first_number extensions in
    let rest : List ℕ = extended_bytes extensions datagram in
    first_step passed most (payload_of e.number (next ∷ e.second ∷ (e.rest ++ rest))) (payload_of next rest)
    (one_passed e next rest each.0)
    ∙ extensions_passed most extensions datagram each.1 (omega arith)

-- ---- the packet

pub ipv6-written :
    (d : Datagram) (checksum : ℕ) (fields : Ipv6Fields) (padding : List ℕ) → IsDatagram 16 d →
    AreIpv6Fields checksum fields d → ipv6_of (ipv6_bytes checksum fields d padding) ≡ Whole d
ipv6-written d checksum fields padding is are =
    let udp : List ℕ = udp_bytes checksum d in
    let datagram : Payload = record { next = 17; size = length udp; bytes = udp } in
    let inner : List ℕ = ipv6_payload_bytes checksum fields d in
    let size : ℕ = length inner in
    let number : ℕ = first_number fields.extensions in
    let payload : Payload = record { next = number; size = size; bytes = inner } in
    let header : List ℕ = ipv6_header size fields d in
    let rest : List ℕ = inner ++ padding in
    let bytes : List ℕ = header ++ rest in
    let end : List ℕ = (d.source ++ d.target) ++ rest in
    let parts : end ≡ d.source ++ (d.target ++ rest) = append_assoc d.source d.target rest in
    let from : take 16 end ≡ d.source = ap (take 16) parts ∙ take_at d.source (d.target ++ rest) 16 is.source in
    let to : take 16 (drop 16 end) ≡ d.target =
    ap (λ (t : List ℕ). take 16 (drop 16 t)) parts
    ∙ ap (take 16) (drop_at d.source (d.target ++ rest) 16 is.source)
    ∙ take_at d.target rest 16 is.target in
    let long : length header ≡ 40 = omega (arith, length-append d.source d.target, is.source, is.target) in
    let all : 40 ≤ length bytes = omega (arith, length-append header rest) in
    let version : (96 + fields.class) / 16 ≡ 6 = omega (arith, are.class) in
    let sized : big_number 2 (drop 4 bytes) ≡ size = omega (arith, are.fits) in
    let whole : take (big_number 2 (drop 4 bytes)) (drop 40 bytes) ≡ inner =
    ap (take (big_number 2 (drop 4 bytes))) (drop_at header rest 40 long)
    ∙ take_at inner padding (big_number 2 (drop 4 bytes)) (sym sized) in
    let first : first_payload bytes ≡ payload = same_payload number _ size _ inner sized whole in
    let within : length udp < 2 ^ 16 = omega (arith, are.fits, extended_long fields.extensions udp) in
    packet_read bytes d.source d.target payload all version from to first
    ∙ (ap (ipv6_payload d.source d.target) (extensions_passed 8 fields.extensions udp are.each are.few)
    ∙ (datagram_read d.source d.target (length udp) udp
    ∙ udp-written 16 checksum (length udp) d is (length-udp_bytes checksum d) within))
