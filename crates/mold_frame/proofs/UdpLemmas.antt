-- A datagram that is written is read back.
use Rattle.std.proofs.Common.{◌≡◌, ℕ, ◌+◌, ◌-◌, ◌<◌, ◌≤◌, ◌^◌, List, ◌++◌, length, take, drop, false, nat_lt}
use Rattle.std.proofs.Common.{refl, ap, ◌∙◌, arith}
use Rattle.std.proofs.lemmas.Bool.{le-ltb}
use Rattle.std.proofs.lemmas.List.{take_all}
use Rattle.byteorder.specs.Endian.{big_number}
use Rattle.mold_frame.specs.Carried.{Datagram, Whole}
use Rattle.mold_frame.specs.Udp.{datagram_of, udp_in, udp_of}
use Rattle.mold_frame.specs.Written.{IsDatagram, be16, udp_bytes}

pub number-be16 : (number : ℕ) (rest : List ℕ) → number < 2 ^ 16 → big_number 2 (be16 number ++ rest) ≡ number
number-be16 number rest fits = omega arith

pub udp_read :
    (source target bytes : List ℕ) (size : ℕ) → big_number 2 (drop 4 bytes) ≡ size → 8 ≤ size →
    size ≤ length bytes → udp_of source target bytes ≡ Whole (datagram_of source target size bytes)
unfolding udp_of
udp_read source target bytes size is least fits =
    let head : nat_lt (length bytes) 8 ≡ false = le-ltb (length bytes) 8 (omega arith) in
    let large : nat_lt size 8 ≡ false = le-ltb size 8 least in
    let whole : nat_lt (length bytes) size ≡ false = le-ltb (length bytes) size fits in
    rw (is, head, large, whole) refl

same_datagram :
    (d : Datagram) (source_port target_port : ℕ) (payload : List ℕ) → source_port ≡ d.source_port →
    target_port ≡ d.target_port → payload ≡ d.payload →
    record {
      source = d.source;
      source_port = source_port;
      target = d.target;
      target_port = target_port;
      payload = payload;
    }
    ≡ d
same_datagram d source_port target_port payload from to same = rw (from, to, same) refl

datagram-written :
    (width checksum : ℕ) (d : Datagram) → IsDatagram width d →
    datagram_of d.source d.target (8 + length d.payload) (udp_bytes checksum d) ≡ d
datagram-written width checksum d is =
    let long : length d.payload ≤ 8 + length d.payload - 8 = omega arith in
    same_datagram d (big_number 2 (udp_bytes checksum d)) (big_number 2 (drop 2 (udp_bytes checksum d)))
    (take (8 + length d.payload - 8) (drop 8 (udp_bytes checksum d)))
    (omega (arith, is.source_port)) (omega (arith, is.target_port))
    (take_all (8 + length d.payload - 8) d.payload long)

in_read :
    (source target bytes : List ℕ) (size : ℕ) → size ≤ length bytes →
    udp_in source target size bytes ≡ udp_of source target bytes
unfolding udp_in
in_read source target bytes size fits =
    let whole : nat_lt (length bytes) size ≡ false = le-ltb (length bytes) size fits in
    rw whole refl

pub length-udp_bytes : (checksum : ℕ) (d : Datagram) → length (udp_bytes checksum d) ≡ 8 + length d.payload
length-udp_bytes checksum d = omega arith

pub udp-written :
    (width checksum size : ℕ) (d : Datagram) → IsDatagram width d → size ≡ 8 + length d.payload → size < 2 ^ 16 →
    udp_in d.source d.target size (udp_bytes checksum d) ≡ Whole d
udp-written width checksum size d is sized fits =
    let bytes = udp_bytes checksum d in
    let long : length bytes ≡ 8 + length d.payload = length-udp_bytes checksum d in
    let stated : big_number 2 (drop 4 bytes) ≡ 8 + length d.payload = omega arith in
    in_read d.source d.target bytes size (omega arith)
    ∙ (udp_read d.source d.target bytes (8 + length d.payload) stated (omega arith) (omega arith)
    ∙ ap Whole (datagram-written width checksum d is))
