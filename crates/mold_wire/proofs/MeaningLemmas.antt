-- The reading of any bytes is correct: they encode the packet or the request, or they have the fault.
use Rattle.std.proofs.Common.{◌≡◌, ℕ, zero, suc, ◌+◌, ◌<◌, ◌≤◌, eqb, leb, ltb, List, [], ◌∷◌, ◌++◌, length}
use Rattle.std.proofs.Common.{length-append, length-drop, take, drop, refl, sym, ap, subst, ◌∙◌, append_assoc, arith}
use Rattle.std.specs.Prelude.{Result, Ok, Err}
use Rattle.std.specs.List.{AllByRecursion}
use Rattle.std.proofs.lemmas.Bool.{cond_both, eqb-true, eqb-false, leb-true, leb-false, ltb-true, ltb-false}
use Rattle.std.proofs.lemmas.List.{append-nil, drop-drop, length-take-le, nil_from_length, take-append-drop}
use Rattle.byteorder.specs.Endian.{big_number}
use Rattle.mold_wire.specs.declared.header.Header.{Header}
use Rattle.mold_wire.specs.declared.packet.Packet.{Packet}
use Rattle.mold_wire.specs.declared.request.Request.{Request}
use Rattle.mold_wire.specs.declared.error.DecodeError.{DecodeError}
use Rattle.mold_wire.specs.declared.error.RequestError.{RequestError}
use Rattle.mold_wire.specs.Block.{IsBytes, be16, be64, IsMessage, block, blocks}
use Rattle.mold_wire.specs.Block.{IsBlockAndRest, AreBlocksAndRest, BeginsNoBlock, AreCutBlocks}
use Rattle.mold_wire.specs.Packet.{stated_blocks, Spells}
use Rattle.mold_wire.specs.Fault.{FaultAt}
use Rattle.mold_wire.specs.Header.{header_bytes, IsHeaderAndRest}
use Rattle.mold_wire.specs.Reading.{behind_first, blocks_at, body_of, packet_from, reading}
use Rattle.mold_wire.specs.Request.{SpellsRequest, RequestFaultAt, request_reading}
use Rattle.mold_wire.proofs.HeaderLemmas.{header_parts}
use Rattle.mold_wire.proofs.BlockLemmas.{big_number-be16, blocks_none}
use Rattle.mold_wire.proofs.PacketLemmas.{body_of_is, cut_in, spells_whole, trailing_behind}
use Rattle.mold_wire.proofs.ReadingLemmas.{IsBytes-drop, be16-read, be64-read, block_stands}

-- The reading of the blocks is correct.
abbrev IsFound : ℕ → List ℕ → Result (List (List ℕ) × List ℕ) ℕ → Type 0
IsFound number bytes (Ok found) = (whole : AreBlocksAndRest number bytes found.1) × (whole.messages ≡ found.0)
IsFound number bytes (Err index) = (index < number) × AreCutBlocks index bytes

found_behind :
    (number : ℕ) (bytes message rest : List ℕ) (found : Result (List (List ℕ) × List ℕ) ℕ) →
    IsBlockAndRest bytes message rest → IsFound number rest found →
    IsFound (suc number) bytes (behind_first message found)
found_behind number bytes message rest (Ok found) first is = (
  record {
    messages = message ∷ is.0.messages;
    counted = ap suc is.0.counted;
    each = (first.each, is.0.each);
    parts =
        first.parts
        ∙ ap (λ (t : List ℕ). block message ++ t) is.0.parts
        ∙ sym (append_assoc (block message) (blocks is.0.messages) found.1);
  },
  ap (λ (t : List (List ℕ)). message ∷ t) is.1,
)
found_behind number bytes message rest (Err index) first is = (
  omega (arith, is.0),
  record {
    rest = is.1.rest;
    whole = record {
      messages = message ∷ is.1.whole.messages;
      counted = ap suc is.1.whole.counted;
      each = (first.each, is.1.whole.each);
      parts =
          first.parts
          ∙ ap (λ (t : List ℕ). block message ++ t) is.1.whole.parts
          ∙ sym (append_assoc (block message) (blocks is.1.whole.messages) is.1.rest);
    };
    cut = is.1.cut;
  },
)

-- A block that is longer than the bytes is not whole.
too_short : (bytes : List ℕ) → length bytes < 2 + big_number 2 bytes → BeginsNoBlock bytes
too_short bytes short message more fits parts =
    let laid : bytes ≡ be16 (length message) ++ (message ++ more) =
    parts ∙ append_assoc (be16 (length message)) message more
    in
    omega (
      arith,
      ap (λ (t : List ℕ). big_number 2 t) laid,
      big_number-be16 (length message) (message ++ more) fits,
      ap (λ (t : List ℕ). length t) laid,
      length-append (be16 (length message)) (message ++ more),
      length-append message more,
    )

blocks_at_is : (number : ℕ) (bytes : List ℕ) → IsBytes bytes → IsFound number bytes (blocks_at number bytes)
unfolding blocks_at
blocks_at_is zero bytes fits = (record { messages = []; counted = refl; each = tt; parts = refl }, refl)
blocks_at_is (suc number) bytes fits =
    let size = big_number 2 bytes in
    let rest = drop size (drop 2 bytes) in
    cond_both (leb (2 + size) (length bytes)) _ _
    (λ (found : Result (List (List ℕ) × List ℕ) ℕ). IsFound (suc number) bytes found)
    (λ long.
    found_behind number bytes (take size (drop 2 bytes)) rest (blocks_at number rest)
    (block_stands bytes fits (leb-true _ _ long))
    (blocks_at_is number rest (IsBytes-drop size (drop 2 bytes) (IsBytes-drop 2 bytes fits))))
    (λ short. (
      omega arith,
      record { rest = bytes; whole = blocks_none bytes; cut = too_short bytes (omega (arith, leb-false _ _ short)) },
    ))

-- The reading of a packet is correct.
abbrev IsRead : List ℕ → Result Packet DecodeError → Type 0
IsRead bytes (Ok packet) = Spells packet bytes
IsRead bytes (Err error) = FaultAt error bytes

packet_from_is :
    (header : Header) (bytes behind : List ℕ) (found : Result (List (List ℕ) × List ℕ) ℕ) →
    IsHeaderAndRest header bytes behind → IsFound (stated_blocks header.count) behind found →
    IsRead bytes (packet_from header.session.0 header.sequence header.count (length bytes) found)
packet_from_is header bytes behind (Ok found) stands is =
    let whole : AreBlocksAndRest (stated_blocks header.count) behind found.1 = is.0 in
    let counted : length found.0 ≡ stated_blocks header.count =
    ap (λ (t : List (List ℕ)). length t) (sym is.1) ∙ whole.counted
    in
    let each : AllByRecursion IsMessage found.0 =
    subst (λ (t : List (List ℕ)). AllByRecursion IsMessage t) is.1 whole.each
    in
    cond_both (eqb (length found.1) 0) _ _ (λ (read : Result Packet DecodeError). IsRead bytes read)
    (λ none.
    let all : behind ≡ blocks found.0 =
    whole.parts
    ∙ ap (λ (t : List ℕ). blocks whole.messages ++ t) (nil_from_length found.1 (eqb-true _ _ none))
    ∙ append-nil (blocks whole.messages)
    ∙ ap blocks is.1
    in
    spells_whole header bytes behind found.0 (body_of header.count found.0) stands all
    (body_of_is header.count found.0 counted each stands.count))
    (λ some.
    let more = eqb-false (length found.1) 0 some in
    trailing_behind header bytes behind found.1 stands whole (omega arith))
packet_from_is header bytes behind (Err index) stands is = cut_in header index bytes behind stands is.0 is.1

-- The header that the first 20 bytes encode.
abbrev header_at : List ℕ → Header
header_at bytes = record {
  session = record { 0 = take 10 bytes };
  sequence = big_number 8 (drop 10 bytes);
  count = big_number 2 (drop 18 bytes);
}

-- Any 20 or more bytes start with a header.
header_stands :
    (bytes : List ℕ) → IsBytes bytes → 20 ≤ length bytes →
    IsHeaderAndRest (header_at bytes) bytes (drop 20 bytes)
header_stands bytes fits long =
    let sequence : List ℕ = drop 10 bytes in
    let count : List ℕ = drop 18 bytes in
    let sequence_bytes : IsBytes sequence = IsBytes-drop 10 bytes fits in
    let count_bytes : IsBytes count = IsBytes-drop 18 bytes fits in
    let sequence_long : 8 ≤ length sequence = omega (arith, length-drop 10 bytes) in
    let count_long : 2 ≤ length count = omega (arith, length-drop 18 bytes) in
    record {
      session = length-take-le 10 bytes (omega arith);
      sequence = omega (
        arith,
        sequence_bytes 0,
        sequence_bytes 1,
        sequence_bytes 2,
        sequence_bytes 3,
        sequence_bytes 4,
        sequence_bytes 5,
        sequence_bytes 6,
        sequence_bytes 7,
      );
      count = omega (arith, count_bytes 0, count_bytes 1);
      parts =
          sym (take-append-drop 10 bytes)
          ∙ ap (λ (t : List ℕ). take 10 bytes ++ t) (sym (take-append-drop 8 sequence))
          ∙ ap (λ (t : List ℕ). take 10 bytes ++ (t ++ drop 8 sequence))
          (sym (be64-read sequence sequence_bytes sequence_long))
          ∙ ap (λ (t : List ℕ). take 10 bytes ++ (be64 (big_number 8 sequence) ++ t)) (
          drop-drop 8 10 bytes
          ∙ sym (take-append-drop 2 count)
          ∙ ap (λ (t : List ℕ). t ++ drop 2 count) (sym (be16-read count count_bytes count_long))
          ∙ ap (λ (t : List ℕ). be16 (big_number 2 count) ++ t) (drop-drop 2 18 bytes)
          )
          ∙ sym (header_parts (take 10 bytes) (big_number 8 sequence) (big_number 2 count) (drop 20 bytes));
    }

reading_is : (bytes : List ℕ) → IsBytes bytes → IsRead bytes (reading bytes)
unfolding reading
reading_is bytes fits =
    cond_both (ltb (length bytes) 20) _ _ (λ (read : Result Packet DecodeError). IsRead bytes read)
    (λ short. (ltb-true _ _ short, refl))
    (λ long.
    packet_from_is (header_at bytes) bytes (drop 20 bytes) _
    (header_stands bytes fits (ltb-false _ _ long))
    (blocks_at_is (stated_blocks (big_number 2 (drop 18 bytes))) (drop 20 bytes) (IsBytes-drop 20 bytes fits)))

pub read_is_spelled :
    (packet : Packet) (bytes : List ℕ) → IsBytes bytes → reading bytes ≡ Ok packet → Spells packet bytes
read_is_spelled packet bytes fits read =
    subst (λ (t : Result Packet DecodeError). IsRead bytes t) read (reading_is bytes fits)

pub refused_is_fault :
    (error : DecodeError) (bytes : List ℕ) → IsBytes bytes → reading bytes ≡ Err error → FaultAt error bytes
refused_is_fault error bytes fits read =
    subst (λ (t : Result Packet DecodeError). IsRead bytes t) read (reading_is bytes fits)

abbrev IsReadRequest : List ℕ → Result Request RequestError → Type 0
IsReadRequest bytes (Ok request) = SpellsRequest request bytes
IsReadRequest bytes (Err error) = RequestFaultAt error bytes

request_reading_is : (bytes : List ℕ) → IsBytes bytes → IsReadRequest bytes (request_reading bytes)
unfolding request_reading
request_reading_is bytes fits =
    cond_both (eqb (length bytes) 20) _ _ (λ (read : Result Request RequestError). IsReadRequest bytes read)
    (λ right.
    let size : length bytes ≡ 20 = eqb-true _ _ right in
    let header = header_stands bytes fits (omega arith) in
    let none : drop 20 bytes ≡ [] = nil_from_length (drop 20 bytes) (omega (arith, length-drop 20 bytes)) in
    let head : List ℕ = header_bytes (take 10 bytes) (big_number 8 (drop 10 bytes)) (big_number 2 (drop 18 bytes)) in
    record {
      is_request = record { session = header.session; sequence = header.sequence; count = header.count };
      spelled = header.parts ∙ ap (λ (t : List ℕ). head ++ t) none ∙ append-nil head;
    })
    (λ wrong. (eqb-false _ _ wrong, refl))

pub request_read_is_spelled :
    (request : Request) (bytes : List ℕ) → IsBytes bytes → request_reading bytes ≡ Ok request →
    SpellsRequest request bytes
request_read_is_spelled request bytes fits read =
    subst (λ (t : Result Request RequestError). IsReadRequest bytes t) read (request_reading_is bytes fits)

abbrev IsRefusedRequest : List ℕ → Result Request RequestError → Type 0
IsRefusedRequest bytes (Ok request) = Unit {0}
IsRefusedRequest bytes (Err error) = RequestFaultAt error bytes

request_refusal_is : (bytes : List ℕ) → IsRefusedRequest bytes (request_reading bytes)
unfolding request_reading
request_refusal_is bytes =
    cond_both (eqb (length bytes) 20) _ _ (λ (read : Result Request RequestError). IsRefusedRequest bytes read)
    (λ _. tt)
    (λ wrong. (eqb-false _ _ wrong, refl))

pub request_refused_is_fault :
    (error : RequestError) (bytes : List ℕ) → request_reading bytes ≡ Err error → RequestFaultAt error bytes
request_refused_is_fault error bytes read =
    subst (λ (t : Result Request RequestError). IsRefusedRequest bytes t) read (request_refusal_is bytes)
