-- The text of packets, requests and refusals.
use Rattle.std.specs.Prelude.{ℕ, ◌+◌, List, [], ◌∷◌, ◌++◌, length, codes, decimal}
use Rattle.hex.specs.Hex.{encode_lower}
use Rattle.mold_text.specs.Line.{line_of, message_digits}
use Rattle.mold_wire.specs.declared.packet.Packet.{Packet}
use Rattle.mold_wire.specs.declared.packet.Body.{Body}
use Rattle.mold_wire.specs.declared.packet.Body.TheVariants.{Data, Heartbeat, End}
use Rattle.mold_wire.specs.declared.error.DecodeError.{DecodeError}
use Rattle.mold_wire.specs.declared.error.DecodeError.TheVariants.{Short, BlockCut, Trailing}
use Rattle.mold_wire.specs.declared.request.Request.{Request}
use Rattle.mold_wire.specs.declared.error.RequestError.{RequestError}
use Rattle.mold_wire.specs.declared.error.RequestError.TheVariants.{RequestLength}
use Rattle.mold_rule.specs.declared.refusal.Refusal.{Refusal}
use Rattle.mold_rule.specs.declared.refusal.Refusal.TheVariants.{Malformed, WrongSession, SequenceZero, PastLast}
use Rattle.mold_rule.specs.declared.refusal.Refusal.TheVariants.{EndConflict, EndBelow, PastEnd, Conflict, Memory}

-- The line of a message: two spaces, its sequence number, its length and its bytes.
abbrev pub message_line : ℕ → List ℕ → List ℕ
message_line number message =
    codes "  " ++ line_of (decimal number ∷ decimal (length message) ∷ message_digits message ∷ [])

-- The lines of the messages of a packet, with consecutive numbers from `number` on.
unfoldable pub messages_text : ℕ → List (List ℕ) → List ℕ
messages_text number [] = []
messages_text number (message ∷ messages) = message_line number message ++ messages_text (number + 1) messages

-- The line of a packet without messages: its kind, its session and its sequence number.
abbrev pub numbered_line : List ℕ → List ℕ → ℕ → List ℕ
numbered_line kind session sequence = line_of (kind ∷ encode_lower session ∷ decimal sequence ∷ [])

-- The first line of a data packet, or the line of a request: kind, session, sequence number and message
-- count.
abbrev pub counted_line : List ℕ → List ℕ → ℕ → ℕ → List ℕ
counted_line kind session sequence count =
    line_of (kind ∷ encode_lower session ∷ decimal sequence ∷ decimal count ∷ [])

-- The lines of a packet with this session, sequence number and body.
abbrev pub body_text : List ℕ → ℕ → Body → List ℕ
body_text session sequence (Data messages) =
    counted_line (codes "data") session sequence (length messages) ++ messages_text sequence messages
body_text session sequence Heartbeat = numbered_line (codes "heartbeat") session sequence
body_text session sequence End = numbered_line (codes "end") session sequence

-- The lines of a packet. A data packet has one line for itself and one for each message, and other packets
-- have one line.
abbrev pub packet_text : Packet → List ℕ
packet_text packet = body_text packet.session.0 packet.sequence packet.body

-- The line of a request.
abbrev pub request_text : Request → List ℕ
request_text request = counted_line (codes "request") request.session.0 request.sequence request.count

-- The words for a fault of a datagram: its name and its number.
abbrev pub fault_words : DecodeError → List (List ℕ)
fault_words (Short len) = codes "Short" ∷ decimal len ∷ []
fault_words (BlockCut index) = codes "BlockCut" ∷ decimal index ∷ []
fault_words (Trailing at) = codes "Trailing" ∷ decimal at ∷ []

-- The words for a fault of a request: its name and its number.
abbrev pub request_fault_words : RequestError → List (List ℕ)
request_fault_words (RequestLength len) = codes "RequestLength" ∷ decimal len ∷ []

-- The words for the reason why a receiver or a checker refuses a datagram. After `Malformed`, the words of
-- the decode fault follow.
abbrev pub refusal_words : Refusal → List (List ℕ)
refusal_words (Malformed fault) = codes "Malformed" ∷ fault_words fault
refusal_words WrongSession = codes "WrongSession" ∷ []
refusal_words SequenceZero = codes "SequenceZero" ∷ []
refusal_words PastLast = codes "PastLast" ∷ []
refusal_words (EndConflict end) = codes "EndConflict" ∷ decimal end ∷ []
refusal_words (EndBelow known) = codes "EndBelow" ∷ decimal known ∷ []
refusal_words (PastEnd end) = codes "PastEnd" ∷ decimal end ∷ []
refusal_words (Conflict number) = codes "Conflict" ∷ decimal number ∷ []
refusal_words Memory = codes "Memory" ∷ []

-- The line that starts with `refused`, followed by the words for the reason.
abbrev pub refused_line : List (List ℕ) → List ℕ
refused_line why = line_of (codes "refused" ∷ why)
