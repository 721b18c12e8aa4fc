-- What datagrams state, as one value.
use Rattle.std.specs.Prelude.{◌≡◌, ℕ, ◌<◌, ◌≤◌, max, List, [], ◌∷◌, ◌++◌, Option, None, Some, Result, Ok, Err, refl}
use Rattle.std.specs.List.{flat_map}
use Rattle.std.specs.Coded.{Coded, code_by, coded×, coded_list, coded_ℕ, coded_option}
use Rattle.std.specs.FinMap as finite
use Rattle.std.specs.Option.{option_map, option_or}
use Rattle.std.specs.Ordering.{nat_cmp}
use Rattle.mold_wire.specs.Packet.{messages_of, top_of}
use Rattle.mold_wire.specs.Reading.{reading}
use Rattle.mold_wire.specs.declared.limits.TheConstants.{MAX_NUMBER}
use Rattle.mold_wire.specs.declared.packet.Packet.{Packet}
use Rattle.mold_wire.specs.declared.packet.Body.{Body}
use Rattle.mold_wire.specs.declared.packet.Body.TheVariants.{Data, Heartbeat, End}
use Rattle.mold_wire.specs.declared.session.Session.{Session}
use Rattle.mold_wire.specs.declared.error.DecodeError.{DecodeError}
pub use Rattle.mold_rule.specs.Held.{Store as Pairs, numbered}

-- What datagrams state together: the session, the largest top, the end, and the carried messages.
pub record Seen : Type 0 where
  -- the name of the session
  pub session : Option (List ℕ)
  -- the largest top of a packet, and at least 1
  pub known : ℕ
  -- the sequence number of the first end packet
  pub ended : Option ℕ
  -- the carried messages, by sequence number
  pub pairs : Pairs

-- The encoding of `Seen` as a tuple, which the prover uses.
abbrev pub seen_code : Coded Seen
seen_code = code_by (Option (List ℕ) × (ℕ × (Option ℕ × Pairs)))
    (coded× (coded_option (coded_list coded_ℕ))
    (coded× coded_ℕ (coded× (coded_option coded_ℕ) (finite.code {R = nat_cmp} coded_ℕ (coded_list coded_ℕ)))))
    (λ s. (s.session, (s.known, (s.ended, s.pairs))))
    (λ p. record { session = p.0; known = p.1.0; ended = p.1.1.0; pairs = p.1.1.1 })
    (λ _. refl)

-- The decoded packet, if there is one, followed by `packets`.
abbrev pub read_before : Result Packet DecodeError → List Packet → List Packet
read_before (Ok packet) packets = packet ∷ packets
read_before (Err error) packets = packets

-- The packets that the datagrams encode, in order. Datagrams that don't encode a packet are left out.
abbrev pub packets_of : List (List ℕ) → List Packet
packets_of [] = []
packets_of (bytes ∷ list) = read_before (reading bytes) (packets_of list)

-- The session of the first packet.
abbrev pub session_of : List Packet → Option (List ℕ)
session_of [] = None
session_of (packet ∷ packets) = Some packet.session.0

-- The largest top of a packet, and at least 1.
abbrev pub known_of : List Packet → ℕ
known_of [] = 1
known_of (packet ∷ packets) = max (top_of packet) (known_of packets)

-- The sequence number of the packet if it is an end packet.
abbrev pub end_in : Body → ℕ → Option ℕ
end_in (Data messages) sequence = None
end_in Heartbeat sequence = None
end_in End sequence = Some sequence

-- The sequence number of the first end packet.
abbrev pub end_of : List Packet → Option ℕ
end_of [] = None
end_of (packet ∷ packets) = option_or (end_in packet.body packet.sequence) (end_of packets)

-- The messages of a packet, each with its sequence number.
abbrev pub pairs_in : Packet → List (ℕ × List ℕ)
pairs_in packet = numbered packet.sequence (messages_of packet.body)

-- What packets state together.
abbrev pub seen_in : List Packet → Seen
seen_in packets = record {
  session = session_of packets;
  known = known_of packets;
  ended = end_of packets;
  pairs = finite.from_entries (flat_map pairs_in packets);
}

-- What these datagrams state together, as one value. Bytes that do not encode a packet are left out.
abbrev pub seen_of : List (List ℕ) → Seen
seen_of list = seen_in (packets_of list)

-- The carried messages together with those of a packet. If both have a number, the earlier message stays.
abbrev pub pairs_with : Pairs → ℕ → List (List ℕ) → Pairs
pairs_with pairs first messages = finite.from_entries (finite.entries pairs ++ numbered first messages)

-- What is stated after a packet joins the earlier datagrams.
abbrev pub joined : Seen → Packet → Seen
joined seen packet = record {
  session = option_or seen.session (Some packet.session.0);
  known = max seen.known (top_of packet);
  ended = option_or seen.ended (end_in packet.body packet.sequence);
  pairs = pairs_with seen.pairs packet.sequence (messages_of packet.body);
}

-- A message of the packet has a number that no earlier message has.
abbrev pub BringNew : Pairs → ℕ → List (List ℕ) → Type 0
BringNew pairs first messages = pairs_with pairs first messages ≡ pairs → ⊥

-- What is stated after a decoded datagram. Bytes that don't encode a packet change nothing.
abbrev pub joined_read : Seen → Result Packet DecodeError → Seen
joined_read seen (Ok packet) = joined seen packet
joined_read seen (Err error) = seen

-- What the earlier datagrams and this one state together, computed from what the earlier ones state.
abbrev pub after : Seen → List ℕ → Seen
after seen bytes = joined_read seen (reading bytes)

-- The datagram has a message with a number that no earlier message has.
abbrev pub BringsNew : Seen → List ℕ → Type 0
BringsNew seen bytes = (after seen bytes).pairs ≡ seen.pairs → ⊥

-- What is stated fits together: `known` is at least 1, an end is `known`, and each carried message has a number
-- below `known`.
pub record IsSound (seen : Seen) : Type 0 where
  pub first : 1 ≤ seen.known
  pub last : seen.known ≤ MAX_NUMBER
  pub ended : (number : ℕ) → seen.ended ≡ Some number → number ≡ seen.known
  pub carried : (number : ℕ) (message : List ℕ) → finite.get seen.pairs number ≡ Some message →
      (1 ≤ number) × (number < seen.known)

-- What is stated, from the values that a checker holds.
abbrev pub seen_by : Option Session → ℕ → Option ℕ → Pairs → Seen
seen_by session known ended pairs =
    record { session = option_map (λ s. s.0) session; known = known; ended = ended; pairs = pairs }
