-- From the parts that the decoder finds to the packet that the bytes encode, or to their fault.
use Rattle.std.proofs.Common.{◌≡◌, ℕ, ◌-◌, ◌<◌, ◌^◌, cond, eqb, List, [], ◌++◌, length, length-append, refl, sym, ap}
use Rattle.std.proofs.Common.{◌∙◌, append_assoc, arith}
use Rattle.std.specs.List.{AllByRecursion}
use Rattle.std.proofs.lemmas.Bool.{cond_both, eqb-true, eqb-false, eq-eqb, ne_eqb, cond-true, cond-false}
use Rattle.std.proofs.lemmas.List.{nil_from_length}
use Rattle.mold_wire.specs.declared.header.Header.{Header}
use Rattle.mold_wire.specs.declared.packet.Packet.{Packet}
use Rattle.mold_wire.specs.declared.packet.Body.{Body}
use Rattle.mold_wire.specs.declared.packet.Body.TheVariants.{Data, Heartbeat, End}
use Rattle.mold_wire.specs.Block.{be64, IsMessage, blocks, AreBlocksAndRest, AreCutBlocks}
use Rattle.mold_wire.specs.Packet.{messages_of, stated_blocks, BodyIs, Spells}
use Rattle.mold_wire.specs.Fault.{IsCutPacket, IsTrailing}
use Rattle.mold_wire.specs.Header.{header_bytes, IsHeaderAndRest}
use Rattle.mold_wire.specs.Reading.{body_of}
use Rattle.mold_wire.proofs.HeaderLemmas.{header_counted, length-counted}

none_stated :
    (count : ℕ) (messages : List (List ℕ)) → length messages ≡ stated_blocks count → (count ≡ 0) → messages ≡ []
none_stated count messages number zero_count =
    nil_from_length messages
    (number
    ∙ cond_both (eqb count 65535) 0 count (λ (n : ℕ). n ≡ 0) (λ _. refl) (λ _. zero_count))

pub heartbeat_is :
    (count : ℕ) (messages : List (List ℕ)) → length messages ≡ stated_blocks count → count ≡ 0 →
    BodyIs count messages Heartbeat
heartbeat_is count messages number zero_count = record {
  is_body = tt;
  counted = sym zero_count;
  carried = sym (none_stated count messages number zero_count);
}

pub end_is :
    (count : ℕ) (messages : List (List ℕ)) → length messages ≡ stated_blocks count → count ≡ 65535 →
    BodyIs count messages End
end_is count messages number end_count = record {
  is_body = tt;
  counted = sym end_count;
  carried =
      sym (nil_from_length messages (number ∙ cond-true (eqb count 65535) 0 count (eq-eqb count 65535 end_count)));
}

pub data_is :
    (count : ℕ) (messages : List (List ℕ)) → length messages ≡ stated_blocks count →
    AllByRecursion IsMessage messages → count < 2 ^ 16 → (count ≡ 0 → ⊥) → (count ≡ 65535 → ⊥) →
    BodyIs count messages (Data messages)
data_is count messages number each fits not_zero not_end =
    let counted : length messages ≡ count =
    number ∙ cond-false (eqb count 65535) 0 count (ne_eqb count 65535 not_end)
    in
    record {
      is_body = (omega arith, omega arith, each);
      counted = counted;
      carried = refl;
    }

pub body_of_is :
    (count : ℕ) (messages : List (List ℕ)) → length messages ≡ stated_blocks count →
    AllByRecursion IsMessage messages → count < 2 ^ 16 → BodyIs count messages (body_of count messages)
body_of_is count messages number each fits =
    cond_both (eqb count 0) Heartbeat (cond (eqb count 65535) End (Data messages))
    (λ (b : Body). BodyIs count messages b)
    (λ zero_count. heartbeat_is count messages number (eqb-true count 0 zero_count))
    (λ not_zero. cond_both (eqb count 65535) End (Data messages) (λ (b : Body). BodyIs count messages b)
    (λ end_count. end_is count messages number (eqb-true count 65535 end_count))
    (λ not_end. data_is count messages number each fits (eqb-false count 0 not_zero) (eqb-false count 65535 not_end)))

abbrev pub packet_of : Header → Body → Packet
packet_of header body = record { session = header.session; sequence = header.sequence; body = body }

-- A header and the blocks that it states encode the packet if nothing follows them.
pub spells_whole :
    (header : Header) (bytes behind : List ℕ) (messages : List (List ℕ)) (body : Body) →
    IsHeaderAndRest header bytes behind → behind ≡ blocks messages → BodyIs header.count messages body →
    Spells (packet_of header body) bytes
spells_whole header bytes behind messages body stands all is =
    let session = header.session.0 in
    record {
      is_packet = record { session = stands.session; sequence = stands.sequence; body = is.is_body };
      spelled =
          stands.parts
          ∙ ap (λ (t : List ℕ). header_bytes session header.sequence header.count ++ t)
          (all ∙ ap blocks (sym is.carried))
          ∙ ap (λ (n : ℕ). header_bytes session header.sequence n ++ blocks (messages_of body)) (sym is.counted);
    }

pub trailing_behind :
    (header : Header) (bytes behind more : List ℕ) → IsHeaderAndRest header bytes behind →
    AreBlocksAndRest (stated_blocks header.count) behind more → 0 < length more →
    IsTrailing (length bytes - length more) bytes
trailing_behind header bytes behind more stands found some =
    let messages = found.messages in
    let body = body_of header.count messages in
    let head : List ℕ = header_bytes header.session.0 header.sequence header.count in
    let front : List ℕ = head ++ blocks messages in
    let front_stands : IsHeaderAndRest header front (blocks messages) =
    record { session = stands.session; sequence = stands.sequence; count = stands.count; parts = refl }
    in
    let parts : bytes ≡ front ++ more =
    stands.parts ∙ ap (λ (t : List ℕ). head ++ t) found.parts ∙ sym (append_assoc head (blocks messages) more)
    in
    record {
      packet = packet_of header body;
      front = front;
      more = more;
      whole = spells_whole header front (blocks messages) messages body front_stands refl
          (body_of_is header.count messages found.counted found.each stands.count);
      offset = omega (arith, ap (λ (t : List ℕ). length t) parts, length-append front more);
      some = some;
      parts = parts;
    }

cut_count : (index count : ℕ) → index < stated_blocks count → (index < count) × (count ≡ 65535 → ⊥)
cut_count index count below =
    cond_both (eqb count 65535) 0 count (λ (n : ℕ). index < n → (index < count) × (count ≡ 65535 → ⊥))
    (λ _ none. absurd (omega arith))
    (λ not_end lt. (lt, eqb-false count 65535 not_end))
    below

pub cut_in :
    (header : Header) (index : ℕ) (bytes behind : List ℕ) → IsHeaderAndRest header bytes behind →
    index < stated_blocks header.count → AreCutBlocks index behind → IsCutPacket index bytes
cut_in header index bytes behind stands below cut =
    let counts = cut_count index header.count below in
    let not_end = counts.1 in
    let fits = stands.count in
    record {
      front = header.session.0 ++ be64 header.sequence;
      count = header.count;
      behind = behind;
      front_length = length-counted header.session.0 header.sequence stands.session;
      below = counts.0;
      data_count = omega arith;
      parts = stands.parts ∙ header_counted header.session.0 header.sequence header.count behind;
      cut = cut;
    }
