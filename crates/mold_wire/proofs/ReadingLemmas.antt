-- Bytes that encode a packet read as that packet, and bytes with a fault read as that fault. So no bytes
-- encode two packets, have two faults, or encode a packet and have a fault.
use Rattle.std.proofs.Common.{◌≡◌, ℕ, zero, suc, ◌+◌, ◌-◌, ◌<◌, ◌≤◌, ◌^◌, true, cond, eqb, leb, ltb, List, [], ◌∷◌}
use Rattle.std.proofs.Common.{◌++◌, length, length-append, take, drop, refl, sym, ap, subst, ◌∙◌}
use Rattle.std.proofs.Common.{append_assoc, inl, inr, length-drop, arith, lit<}
use Rattle.std.specs.Prelude.{Result, Ok, Err, IfOk, IfErr}
use Rattle.std.specs.List.{AllByRecursion}
use Rattle.std.proofs.lemmas.Bool.{leb-true, le-leb, cases_Bool, cases_lt, lt-ltb, le-ltb, ne_eqb, cond-true}
use Rattle.std.proofs.lemmas.Bool.{cond-false}
use Rattle.std.proofs.lemmas.List.{take_at, drop_at, drop-drop, take-append-drop, append-nil, length-take-le}
use Rattle.std.proofs.lemmas.List.{length-take, get_or-take, get_or-drop, get_or_past, get_or-append-add}
use Rattle.std.proofs.lemmas.Nat.{be_bytes_2, be_bytes_8}
use Rattle.byteorder.specs.Endian.{big_number}
use Rattle.mold_wire.specs.declared.packet.Packet.{Packet}
use Rattle.mold_wire.specs.declared.packet.Body.{Body}
use Rattle.mold_wire.specs.declared.packet.Body.TheVariants.{Data, Heartbeat, End}
use Rattle.mold_wire.specs.declared.error.DecodeError.{DecodeError}
use Rattle.mold_wire.specs.declared.error.DecodeError.TheVariants.{Short, BlockCut, Trailing}
use Rattle.mold_wire.specs.Block.{IsBytes, be16, be64, IsMessage, block, blocks, IsBlockAndRest, BeginsNoBlock}
use Rattle.mold_wire.specs.Header.{header_bytes}
use Rattle.mold_wire.specs.Packet.{IsBody, count_of, messages_of, stated_blocks, Spells}
use Rattle.mold_wire.specs.Fault.{IsCutPacket, IsTrailing, FaultAt}
use Rattle.mold_wire.specs.Reading.{blocks_at, behind_first, body_of, packet_from, reading}
use Rattle.mold_wire.proofs.BlockLemmas.{big_number-be16}
use Rattle.mold_wire.proofs.HeaderLemmas.{header_parts, length-counted}

abbrev done : Packet → Result Packet DecodeError
done packet = Ok packet

abbrev refusal : DecodeError → Result Packet DecodeError
refusal error = Err error

IsBytes-take : (n : ℕ) (bytes : List ℕ) → IsBytes bytes → IsBytes (take n bytes)
IsBytes-take n bytes fits i =
    elim (cases_lt i n) [
      | inl lt ↦ rw (get_or-take n bytes i 0 lt) (fits i)
      | inr le ↦ rw (get_or_past (take n bytes) i 0 (omega (arith, length-take n bytes))) (omega arith)
    ]

pub IsBytes-behind : (front bytes : List ℕ) → IsBytes (front ++ bytes) → IsBytes bytes
IsBytes-behind front bytes fits i =
    subst (λ (n : ℕ). n < 256) (get_or-append-add front bytes i 0) (fits (length front + i))

pub IsBytes-drop : (n : ℕ) (bytes : List ℕ) → IsBytes bytes → IsBytes (drop n bytes)
IsBytes-drop n bytes fits i = rw (get_or-drop n bytes i 0) (fits (n + i))

-- The first two bytes are the encoding of the number that they read as. The same holds for the first eight.
pub be16-read : (bytes : List ℕ) → IsBytes bytes → 2 ≤ length bytes → be16 (big_number 2 bytes) ≡ take 2 bytes
be16-read bytes fits long =
    be_bytes_2 (take 2 bytes) (big_number 2 bytes) (length-take-le 2 bytes long) (IsBytes-take 2 bytes fits)
    (omega (arith, get_or-take 2 bytes 0 0, get_or-take 2 bytes 1 0))

pub be64-read : (bytes : List ℕ) → IsBytes bytes → 8 ≤ length bytes → be64 (big_number 8 bytes) ≡ take 8 bytes
be64-read bytes fits long =
    be_bytes_8 (take 8 bytes) (big_number 8 bytes) (length-take-le 8 bytes long) (IsBytes-take 8 bytes fits)
    (omega (
      arith,
      get_or-take 8 bytes 0 0,
      get_or-take 8 bytes 1 0,
      get_or-take 8 bytes 2 0,
      get_or-take 8 bytes 3 0,
      get_or-take 8 bytes 4 0,
      get_or-take 8 bytes 5 0,
      get_or-take 8 bytes 6 0,
      get_or-take 8 bytes 7 0,
    ))

-- If the bytes start with a block, it is read first.
pub blocks_at-block :
    (number : ℕ) (message rest : List ℕ) → IsMessage message →
    blocks_at (suc number) (block message ++ rest) ≡ behind_first message (blocks_at number rest)
unfolding blocks_at
blocks_at-block number message rest fits =
    let len : big_number 2 (be16 (length message) ++ (message ++ rest)) ≡ length message =
    big_number-be16 (length message) (message ++ rest) fits
    in
    let whole : leb (2 + length message) (length (be16 (length message) ++ (message ++ rest))) ≡ true =
    le-leb _ _ (omega (arith, length-append message rest))
    in
    rw (len, whole, take_at message rest (length message) refl, drop_at message rest (length message) refl) refl

-- Whole blocks are read, whatever bytes follow them.
pub blocks_at-blocks :
    (messages : List (List ℕ)) (rest : List ℕ) → AllByRecursion IsMessage messages →
    blocks_at (length messages) (blocks messages ++ rest) ≡ Ok (messages, rest)
unfolding blocks_at
blocks_at-blocks [] rest each = refl
blocks_at-blocks (message ∷ messages) rest each =
    ap (blocks_at (suc (length messages))) (append_assoc (block message) (blocks messages) rest)
    ∙ blocks_at-block (length messages) message (blocks messages ++ rest) each.0
    ∙ ap (behind_first message) (blocks_at-blocks messages rest each.1)

-- The bytes start with a whole block if they are as long as its length field states.
pub block_stands :
    (bytes : List ℕ) → IsBytes bytes → 2 + big_number 2 bytes ≤ length bytes →
    IsBlockAndRest bytes (take (big_number 2 bytes) (drop 2 bytes)) (drop (big_number 2 bytes) (drop 2 bytes))
block_stands bytes fits long =
    let number = big_number 2 bytes in
    let behind = drop 2 bytes in
    let message = take number behind in
    let number_fits : number < 2 ^ 16 = omega (arith, fits 0, fits 1) in
    let behind_length : length behind ≡ length bytes - 2 = length-drop 2 bytes in
    let message_length : length message ≡ number = length-take-le number behind (omega arith) in
    record {
      each = omega arith;
      parts =
          sym (take-append-drop 2 bytes)
          ∙ ap (λ (t : List ℕ). t ++ behind) (sym (be16-read bytes fits (omega arith)))
          ∙ ap (λ (t : List ℕ). be16 number ++ t) (sym (take-append-drop number behind))
          ∙ ap (λ (n : ℕ). be16 n ++ (message ++ drop number behind)) (sym message_length);
    }

-- The index of the first cut block is reported.
pub blocks_at-cut :
    (whole : List (List ℕ)) (rest : List ℕ) (number : ℕ) → AllByRecursion IsMessage whole → length whole < number →
    IsBytes rest → BeginsNoBlock rest → blocks_at number (blocks whole ++ rest) ≡ Err (length whole)
unfolding blocks_at
blocks_at-cut [] rest zero each below fits cut = absurd (omega arith)
blocks_at-cut [] rest (suc number) each below fits cut =
    cond-false (leb (2 + big_number 2 rest) (length rest)) _ _
    (elim (cases_Bool (leb (2 + big_number 2 rest) (length rest))) [
      | inl long ↦
          let block = block_stands rest fits (leb-true _ _ long) in absurd (cut _ _ block.each block.parts)
      | inr short ↦ short
    ])
blocks_at-cut (message ∷ whole) rest zero each below fits cut = absurd (omega arith)
blocks_at-cut (message ∷ whole) rest (suc number) each below fits cut =
    ap (blocks_at (suc number)) (append_assoc (block message) (blocks whole) rest)
    ∙ blocks_at-block number message (blocks whole ++ rest) each.0
    ∙ ap (behind_first message) (blocks_at-cut whole rest number each.1 (omega arith) fits cut)

-- The eight bytes of a number read as that number.
pub big_number-be64 : (number : ℕ) (rest : List ℕ) → number < 2 ^ 64 → big_number 8 (be64 number ++ rest) ≡ number
big_number-be64 number rest fits = omega arith

-- The message count at its offset, and the bytes after the header.
pub record CountRead (bytes : List ℕ) (count : ℕ) (behind : List ℕ) : Type 0 where
  pub read : big_number 2 (drop 18 bytes) ≡ count
  pub rest : drop 20 bytes ≡ behind
  pub long : length bytes ≡ 20 + length behind

pub count_read :
    (front bytes : List ℕ) (count : ℕ) (behind : List ℕ) → length front ≡ 18 → count < 2 ^ 16 →
    bytes ≡ front ++ (be16 count ++ behind) → CountRead bytes count behind
count_read front bytes count behind len fits parts =
    let at : drop 18 bytes ≡ be16 count ++ behind =
    ap (λ (t : List ℕ). drop 18 t) parts ∙ drop_at front (be16 count ++ behind) 18 len
    in
    record {
      read = ap (λ (t : List ℕ). big_number 2 t) at ∙ big_number-be16 count behind fits;
      rest = sym (drop-drop 2 18 bytes) ∙ ap (λ (t : List ℕ). drop 2 t) at;
      long = omega (arith, ap (λ (t : List ℕ). length t) parts, length-append front (be16 count ++ behind), len);
    }

-- The header fields at their offsets, and the bytes after the header.
pub record HeaderRead (bytes session : List ℕ) (sequence count : ℕ) (behind : List ℕ) : Type 0 where
  pub name : take 10 bytes ≡ session
  pub number : big_number 8 (drop 10 bytes) ≡ sequence
  pub counted : CountRead bytes count behind

pub header_read :
    (session : List ℕ) (sequence count : ℕ) (bytes behind : List ℕ) → length session ≡ 10 → sequence < 2 ^ 64 →
    count < 2 ^ 16 → bytes ≡ header_bytes session sequence count ++ behind →
    HeaderRead bytes session sequence count behind
header_read session sequence count bytes behind ten sequence_fits count_fits parts =
    let numbers : List ℕ = be64 sequence ++ (be16 count ++ behind) in
    let laid : bytes ≡ session ++ numbers = parts ∙ header_parts session sequence count behind in
    record {
      name = ap (λ (t : List ℕ). take 10 t) laid ∙ take_at session numbers 10 ten;
      number =
          ap (λ (t : List ℕ). big_number 8 (drop 10 t)) laid
          ∙ ap (λ (t : List ℕ). big_number 8 t) (drop_at session numbers 10 ten)
          ∙ big_number-be64 sequence (be16 count ++ behind) sequence_fits;
      counted =
          count_read (session ++ be64 sequence) bytes count behind (length-counted session sequence ten) count_fits
          (laid ∙ sym (append_assoc session (be64 sequence) (be16 count ++ behind)));
    }

not_end : (count : ℕ) → count < 65535 → stated_blocks count ≡ count
not_end count below = cond-false (eqb count 65535) 0 count (ne_eqb count 65535 (λ e. omega (arith, below, e)))

-- The message count of a valid body states as many blocks as there are messages. The count and the messages
-- give the body.
stated-count_of : (body : Body) → IsBody body → stated_blocks (count_of body) ≡ length (messages_of body)
stated-count_of (Data messages) is = not_end (length messages) is.1
stated-count_of Heartbeat is = refl
stated-count_of End is = refl

body_of-count_of : (body : Body) → IsBody body → body_of (count_of body) (messages_of body) ≡ body
body_of-count_of (Data messages) is =
    let count = length messages in
    cond-false (eqb count 0) Heartbeat (cond (eqb count 65535) End (Data messages))
    (ne_eqb count 0 (λ e. omega (arith, is.0, e)))
    ∙ cond-false (eqb count 65535) End (Data messages) (ne_eqb count 65535 (λ e. omega (arith, is.1, e)))
body_of-count_of Heartbeat is = refl
body_of-count_of End is = refl

count_of-fits : (body : Body) → IsBody body → count_of body < 2 ^ 16
count_of-fits (Data messages) is = omega (arith, is.1)
count_of-fits Heartbeat is = lit< tt
count_of-fits End is = lit< tt

each-messages_of : (body : Body) → IsBody body → AllByRecursion IsMessage (messages_of body)
each-messages_of (Data messages) is = is.2
each-messages_of Heartbeat is = tt
each-messages_of End is = tt

-- A packet followed by any bytes reads as its parts and these bytes.
reading-parts :
    (packet : Packet) (front more bytes : List ℕ) → Spells packet front → bytes ≡ front ++ more →
    reading bytes
    ≡ packet_from packet.session.0 packet.sequence (count_of packet.body) (length bytes)
    (Ok (messages_of packet.body, more))
unfolding reading
reading-parts packet front more bytes spells parts =
    let count = count_of packet.body in
    let messages = messages_of packet.body in
    let behind : List ℕ = blocks messages ++ more in
    let head : List ℕ = header_bytes packet.session.0 packet.sequence count in
    let is = spells.is_packet in
    let at : HeaderRead bytes packet.session.0 packet.sequence count behind =
    header_read packet.session.0 packet.sequence count bytes behind is.session is.sequence
    (count_of-fits packet.body is.body)
    (parts ∙ ap (λ (t : List ℕ). t ++ more) spells.spelled ∙ append_assoc head (blocks messages) more)
    in
    let found : blocks_at (stated_blocks count) behind ≡ Ok (messages, more) =
    ap (λ (n : ℕ). blocks_at n behind) (stated-count_of packet.body is.body)
    ∙ blocks_at-blocks messages more (each-messages_of packet.body is.body)
    in
    cond-false (ltb (length bytes) 20) _ _ (le-ltb (length bytes) 20 (omega (arith, at.counted.long)))
    ∙ rw (at.name, at.number, at.counted.read, at.counted.rest, found) refl

pub reading-spelled : (packet : Packet) (bytes : List ℕ) → Spells packet bytes → reading bytes ≡ Ok packet
reading-spelled packet bytes spells =
    reading-parts packet bytes [] bytes spells (sym (append-nil bytes))
    ∙ ap (λ (b : Body). done (record { session = packet.session; sequence = packet.sequence; body = b }))
    (body_of-count_of packet.body spells.is_packet.body)

pub reading-trailing : (at : ℕ) (bytes : List ℕ) → IsTrailing at bytes → reading bytes ≡ Err (Trailing at)
reading-trailing at bytes is =
    reading-parts is.packet is.front is.more bytes is.whole is.parts
    ∙ cond-false (eqb (length is.more) 0) _ _ (ne_eqb (length is.more) 0 (λ e. omega (arith, is.some, e)))
    ∙ ap (λ (n : ℕ). refusal (Trailing n))
    (omega (arith, is.offset, ap (λ (t : List ℕ). length t) is.parts, length-append is.front is.more))

pub reading-cut :
    (index : ℕ) (bytes : List ℕ) → IsBytes bytes → IsCutPacket index bytes → reading bytes ≡ Err (BlockCut index)
unfolding reading
reading-cut index bytes fits is =
    let at : CountRead bytes is.count is.behind =
    count_read is.front bytes is.count is.behind is.front_length (omega (arith, is.data_count)) is.parts
    in
    let found = is.cut.whole in
    let behind_fits : IsBytes is.behind =
    IsBytes-behind (be16 is.count) is.behind
    (IsBytes-behind is.front (be16 is.count ++ is.behind) (subst (λ (t : List ℕ). IsBytes t) is.parts fits))
    in
    let rest_fits : IsBytes is.cut.rest =
    IsBytes-behind (blocks found.messages) is.cut.rest (subst (λ (t : List ℕ). IsBytes t) found.parts behind_fits)
    in
    let cut : blocks_at (stated_blocks is.count) is.behind ≡ Err (length found.messages) =
    ap (λ (n : ℕ). blocks_at n is.behind) (not_end is.count is.data_count)
    ∙ ap (blocks_at is.count) found.parts
    ∙ blocks_at-cut found.messages is.cut.rest is.count found.each (omega (arith, found.counted, is.below)) rest_fits
    is.cut.cut
    in
    cond-false (ltb (length bytes) 20) _ _ (le-ltb (length bytes) 20 (omega (arith, at.long)))
    ∙ rw (at.read, at.rest, cut) refl
    ∙ ap (λ (n : ℕ). refusal (BlockCut n)) found.counted

pub reading-fault :
    (error : DecodeError) (bytes : List ℕ) → IsBytes bytes → FaultAt error bytes → reading bytes ≡ Err error
unfolding reading
reading-fault (Short len) bytes fits is =
    cond-true (ltb (length bytes) 20) _ _ (lt-ltb (length bytes) 20 is.0)
    ∙ ap (λ (n : ℕ). refusal (Short n)) (sym is.1)
reading-fault (BlockCut index) bytes fits is = reading-cut index bytes fits is
reading-fault (Trailing at) bytes fits is = reading-trailing at bytes is

-- A result is the reading of the bytes if they encode the returned packet or have the returned fault.
pub reading_answer :
    (result : Result Packet DecodeError) (bytes : List ℕ) → IsBytes bytes →
    IfOk result (λ packet. Spells packet bytes) → IfErr result (λ error. FaultAt error bytes) → result ≡ reading bytes
reading_answer (Ok packet) bytes fits spells fault = sym (reading-spelled packet bytes spells)
reading_answer (Err error) bytes fits spells fault = sym (reading-fault error bytes fits fault)
