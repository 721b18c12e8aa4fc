-- The packets that digested datagrams encode.
use Rattle.std.proofs.Common.{◌≡◌, ℕ, List, [], ◌∷◌, ◌++◌, length, length-append}
use Rattle.std.proofs.Common.{take, sym, ap, ◌∙◌, arith, inl, inr, ◌⊎◌}
use Rattle.std.specs.Prelude.{Ok, Err}
use Rattle.std.specs.List.{AllByRecursion}
use Rattle.std.proofs.lemmas.List.{length-map, take_at, length-take-le}
use Rattle.sha2.specs.Sha256.{sha256}
use Rattle.sha2.proofs.Facts256.{length-sha256}
use Rattle.mold_wire.specs.Block.{be16, be64, IsMessage, blocks}
use Rattle.mold_wire.specs.Header.{header_bytes}
use Rattle.mold_wire.specs.Packet.{IsBody, IsPacket, Spells, count_of, messages_of, spelling_of}
use Rattle.mold_wire.specs.Reading.{reading}
use Rattle.mold_wire.specs.declared.error.DecodeError.{DecodeError}
use Rattle.mold_wire.specs.declared.packet.Packet.{Packet}
use Rattle.mold_wire.specs.declared.packet.Body.{Body}
use Rattle.mold_wire.specs.declared.packet.Body.TheVariants.{Data, Heartbeat, End}
use Rattle.mold_digest.specs.Key.{digest}
use Rattle.mold_digest.specs.Digested.{digested, digested_body, digested_packet, digested_read, digests}

-- A digest has 16 bytes.
pub length-digest : (key message : List ℕ) → length (digest key message) ≡ 16
unfolding digest
length-digest key message =
    length-take-le 16 (sha256 (key ++ message)) (omega (arith, length-sha256 (key ++ message)))

-- The fact about the codec that the lemmas here need: an encoding is decoded as its packet.
abbrev pub ReadsBack : Type 0
ReadsBack = (packet : Packet) (bytes : List ℕ) → Spells packet bytes → reading bytes ≡ Ok packet

pub digested_ok : (key bytes : List ℕ) (packet : Packet) → reading bytes ≡ Ok packet →
    digested key bytes ≡ spelling_of (digested_packet key packet)
unfolding digested
digested_ok key bytes packet is = ap (digested_read key bytes) is

pub digested_err : (key bytes : List ℕ) (error : DecodeError) → reading bytes ≡ Err error → digested key bytes ≡ bytes
unfolding digested
digested_err key bytes error is = ap (digested_read key bytes) is

each_digest : (key : List ℕ) (messages : List (List ℕ)) → AllByRecursion IsMessage (digests key messages)
each_digest key [] = tt
each_digest key (message ∷ messages) =
    (omega (arith, length-digest key message), each_digest key messages)

digested_is_body : (key : List ℕ) (body : Body) → IsBody body → IsBody (digested_body key body)
digested_is_body key (Data messages) is =
    let count = length-map messages (digest key) in
    (omega (arith, count, is.0), omega (arith, count, is.1), each_digest key messages)
digested_is_body key Heartbeat is = tt
digested_is_body key End is = tt

-- A digested packet is a packet.
pub digested_is_packet : (key : List ℕ) (packet : Packet) → IsPacket packet → IsPacket (digested_packet key packet)
digested_is_packet key packet is = record {
  session = is.session;
  sequence = is.sequence;
  body = digested_is_body key packet.body is.body;
}

-- A digested datagram encodes the digested packet.
pub digested_spelled : ReadsBack → (key bytes : List ℕ) (packet : Packet) → Spells packet bytes →
    Spells (digested_packet key packet) (digested key bytes)
digested_spelled reads key bytes packet spells = record {
  is_packet = digested_is_packet key packet spells.is_packet;
  spelled = digested_ok key bytes packet (reads packet bytes spells);
}

-- The header of a data packet is that of the digested packet.
pub digested_data : (key bytes : List ℕ) (packet : Packet) (messages : List (List ℕ)) → Spells packet bytes →
    reading bytes ≡ Ok packet → packet.body ≡ Data messages →
    take 20 bytes ++ blocks (digests key messages) ≡ digested key bytes
digested_data key bytes packet messages spells is data_is =
    let session = packet.session.0 in
    let head = header_bytes session packet.sequence (length messages) in
    let spelled : bytes ≡ head ++ blocks messages =
    spells.spelled
    ∙ ap (λ (b : Body). header_bytes session packet.sequence (count_of b) ++ blocks (messages_of b)) data_is in
    let twenty : length head ≡ 20 =
    omega (arith, length-append session (be64 packet.sequence ++ be16 (length messages)), spells.is_packet.session) in
    ap (λ (t : List ℕ). take 20 t ++ blocks (digests key messages)) spelled
    ∙ ap (λ (t : List ℕ). t ++ blocks (digests key messages)) (take_at head (blocks messages) 20 twenty)
    ∙ ap (λ (n : ℕ). header_bytes session packet.sequence n ++ blocks (digests key messages))
    (sym (length-map messages (digest key)))
    ∙ ap (λ (b : Body). header_bytes session packet.sequence (count_of (digested_body key b))
    ++ blocks (messages_of (digested_body key b))) (sym data_is)
    ∙ sym (digested_ok key bytes packet is)

-- A datagram without messages stays.
pub digested_plain : (key bytes : List ℕ) (packet : Packet) → Spells packet bytes → reading bytes ≡ Ok packet →
    digested_body key packet.body ≡ packet.body → bytes ≡ digested key bytes
digested_plain key bytes packet spells is same =
    spells.spelled
    ∙ ap (λ (b : Body). header_bytes packet.session.0 packet.sequence (count_of b) ++ blocks (messages_of b)) (sym same)
    ∙ sym (digested_ok key bytes packet is)

-- A heartbeat and an end packet have no messages to replace.
pub plain_body : (key : List ℕ) (body : Body) → (body ≡ Heartbeat) ⊎ (body ≡ End) → digested_body key body ≡ body
plain_body key body (inl is) = ap (digested_body key) is ∙ sym is
plain_body key body (inr is) = ap (digested_body key) is ∙ sym is
