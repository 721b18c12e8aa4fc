-- The lengths of packets and the offsets of their messages.
use Rattle.std.proofs.Common.{◌≡◌, ℕ, ◌+◌, ◌*◌, ◌≤◌, List, [], ◌∷◌, ◌++◌, length, length-append}
use Rattle.std.proofs.Common.{take, drop, refl, sym, ap, ◌∙◌, append_assoc, arith}
use Rattle.std.proofs.lemmas.List.{take_at, drop_at}
use Rattle.std.proofs.lemmas.List.Sums.{sum_by-cons, sum_by-append}
use Rattle.mold_wire.specs.declared.packet.Packet.{Packet}
use Rattle.mold_wire.specs.Block.{be16, block, blocks}
use Rattle.mold_wire.specs.Packet.{Spells, count_of, messages_of}
use Rattle.mold_wire.specs.Packing.{packet_length, Fits}
use Rattle.mold_wire.specs.Header.{header_bytes}
use Rattle.mold_wire.proofs.BlockLemmas.{blocks-append}
use Rattle.mold_wire.proofs.HeaderLemmas.{length-header_bytes}

abbrev block_length : List ℕ → ℕ
block_length message = 2 + length message

pub packet_length_of_none : packet_length [] ≡ 20
unfolding packet_length
packet_length_of_none = refl

pub packet_length-more :
    (message : List ℕ) (messages : List (List ℕ)) →
    packet_length (message ∷ messages) ≡ packet_length messages + (2 + length message)
unfolding packet_length
packet_length-more message messages = omega (arith, sum_by-cons block_length message messages)

pub packet_length-append :
    (front back : List (List ℕ)) → packet_length (front ++ back) + 20 ≡ packet_length front + packet_length back
unfolding packet_length
packet_length-append front back = omega (arith, sum_by-append block_length front back)

pub packet_length_pushed :
    (messages : List (List ℕ)) (message : List ℕ) →
    packet_length (messages ++ message ∷ []) ≡ packet_length messages + (2 + length message)
packet_length_pushed messages message =
    omega (arith, packet_length-append messages (message ∷ []), packet_length-more message [], packet_length_of_none)

pub packet_length_alone : (message : List ℕ) → packet_length (message ∷ []) ≡ length message + 22
packet_length_alone message = omega (arith, packet_length-more message [], packet_length_of_none)

pub length-blocks : (messages : List (List ℕ)) → 20 + length (blocks messages) ≡ packet_length messages
length-blocks [] = sym packet_length_of_none
length-blocks (message ∷ messages) =
    omega (
      arith,
      packet_length-more message messages,
      length-blocks messages,
      length-append (block message) (blocks messages),
      length-append (be16 (length message)) message,
    )

-- Each message takes at least the two bytes of its length field.
pub least_packet_length : (messages : List (List ℕ)) → 20 + 2 * length messages ≤ packet_length messages
least_packet_length [] = omega (arith, packet_length_of_none)
least_packet_length (message ∷ messages) =
    omega (arith, packet_length-more message messages, least_packet_length messages)

-- The encoding of a packet is a header, and two bytes plus the data for each message.
pub spelling_length :
    (packet : Packet) (bytes : List ℕ) → Spells packet bytes → length bytes ≡ packet_length (messages_of packet.body)
spelling_length packet bytes spells =
    let messages = messages_of packet.body in
    let count = count_of packet.body in
    omega (
      arith,
      ap (λ (t : List ℕ). length t) spells.spelled,
      length-append (header_bytes packet.session.0 packet.sequence count) (blocks messages),
      length-header_bytes packet.session.0 packet.sequence count spells.is_packet.session,
      length-blocks messages,
    )

pub spelling_fits :
    (packet : Packet) (bytes : List ℕ) (limit : ℕ) → Spells packet bytes → Fits limit (messages_of packet.body) →
    length bytes ≤ limit
spelling_fits packet bytes limit spells fits = omega (arith, spelling_length packet bytes spells)

-- The greatest datagram holds at most 32,743 messages.
pub most_messages :
    (limit : ℕ) (messages : List (List ℕ)) → limit ≤ 65507 → Fits limit messages → length messages ≤ 32743
most_messages limit messages small fits = omega (arith, least_packet_length messages)

-- A message's data follow the header, the blocks before it and its own length field.
pub message_place :
    (packet : Packet) (bytes : List ℕ) (front behind : List (List ℕ)) (message : List ℕ) → Spells packet bytes →
    messages_of packet.body ≡ front ++ message ∷ behind →
    take (length message) (drop (packet_length front + 2) bytes) ≡ message
message_place packet bytes front behind message spells parts =
    let head : List ℕ = header_bytes packet.session.0 packet.sequence (count_of packet.body) in
    let before : List ℕ = (head ++ blocks front) ++ be16 (length message) in
    let rest : List ℕ = message ++ blocks behind in
    let joined : blocks (messages_of packet.body) ≡ blocks front ++ (be16 (length message) ++ rest) =
    ap blocks parts
    ∙ blocks-append front (message ∷ behind)
    ∙ ap (λ (t : List ℕ). blocks front ++ t) (append_assoc (be16 (length message)) message (blocks behind))
    in
    let laid : bytes ≡ before ++ rest =
    spells.spelled
    ∙ ap (λ (t : List ℕ). head ++ t) joined
    ∙ sym (append_assoc head (blocks front) (be16 (length message) ++ rest))
    ∙ sym (append_assoc (head ++ blocks front) (be16 (length message)) rest)
    in
    let offset : length before ≡ packet_length front + 2 =
    omega (
      arith,
      length-append (head ++ blocks front) (be16 (length message)),
      length-append head (blocks front),
      length-header_bytes packet.session.0 packet.sequence (count_of packet.body) spells.is_packet.session,
      length-blocks front,
    )
    in
    ap (λ (t : List ℕ). take (length message) (drop (packet_length front + 2) t)) laid
    ∙ ap (take (length message)) (drop_at before rest (packet_length front + 2) offset)
    ∙ take_at message (blocks behind) (length message) refl

pub ruleset spelling_lengths = (spelling_length, spelling_fits, most_messages)

pub ruleset packet_lengths = (packet_length_of_none, packet_length_pushed, packet_length_alone)
