-- What `mold show` prints for its input.
use Rattle.std.specs.Prelude.{ℕ, List, [], ◌∷◌, codes, Bool, true, false, if◌then◌else◌, ◌||◌, Result, Ok, Err}
use Rattle.std.specs.List.{flat_map, list_any}
use Rattle.hex.specs.Hex.{decode_of}
use Rattle.hex.specs.declared.error.FromHexError.{FromHexError}
use Rattle.mold_wire.specs.Reading.{reading}
use Rattle.mold_wire.specs.declared.packet.Packet.{Packet}
use Rattle.mold_wire.specs.declared.error.DecodeError.{DecodeError}
use Rattle.mold_devices.specs.Lines.{lines_of}
use Rattle.mold_devices.specs.Turns.{Printing}
use Rattle.mold_wire.specs.Request.{request_reading}
use Rattle.mold_wire.specs.declared.request.Request.{Request}
use Rattle.mold_wire.specs.declared.error.RequestError.{RequestError}
use Rattle.mold_text.specs.Text.{packet_text, fault_words, request_text, request_fault_words, refused_line}

-- What is printed for a decoded packet: its fields, or the decode fault.
abbrev pub packet_shown : Result Packet DecodeError → List ℕ
packet_shown (Ok packet) = packet_text packet
packet_shown (Err fault) = refused_line (fault_words fault)

-- Whether the bytes don't encode a packet.
abbrev pub packet_refused : Result Packet DecodeError → Bool
packet_refused (Ok packet) = false
packet_refused (Err fault) = true

-- What is printed for a decoded request: its fields, or the decode fault.
abbrev pub request_shown : Result Request RequestError → List ℕ
request_shown (Ok request) = request_text request
request_shown (Err fault) = refused_line (request_fault_words fault)

-- Whether the bytes don't encode a request.
abbrev pub request_refused : Result Request RequestError → Bool
request_refused (Ok request) = false
request_refused (Err fault) = true

-- What is printed for the bytes of a datagram: as a request if requests are shown, otherwise as a packet.
abbrev pub datagram_text : Bool → List ℕ → List ℕ
datagram_text true bytes = request_shown (request_reading bytes)
datagram_text false bytes = packet_shown (reading bytes)

-- Whether the bytes of a datagram are refused.
abbrev pub datagram_refused : Bool → List ℕ → Bool
datagram_refused true bytes = request_refused (request_reading bytes)
datagram_refused false bytes = packet_refused (reading bytes)

-- What is printed for the digits of a line, given their decoded bytes.
abbrev pub digits_text : Bool → Result (List ℕ) FromHexError → List ℕ
digits_text requests (Ok bytes) = datagram_text requests bytes
digits_text requests (Err _) = refused_line (codes "NotHex" ∷ [])

-- Whether the digits of a line are refused.
abbrev pub digits_refused : Bool → Result (List ℕ) FromHexError → Bool
digits_refused requests (Ok bytes) = datagram_refused requests bytes
digits_refused requests (Err _) = true

-- What is printed for a line. It is nothing for an empty line.
unfoldable pub line_text : Bool → List ℕ → List ℕ
line_text requests [] = []
line_text requests (byte ∷ bytes) = digits_text requests (decode_of (byte ∷ bytes))

-- Whether a line is refused. An empty line is not.
unfoldable pub line_refused : Bool → List ℕ → Bool
line_refused requests [] = false
line_refused requests (byte ∷ bytes) = digits_refused requests (decode_of (byte ∷ bytes))

-- What is printed for the input, line by line.
unfoldable pub show_text : Bool → List ℕ → List ℕ
show_text requests input = flat_map (line_text requests) (lines_of input)

-- Whether any line of the input is refused.
unfoldable pub show_refused : Bool → List ℕ → Bool
show_refused requests input = list_any (line_refused requests) (lines_of input)

-- The status: 2 if a line is refused, otherwise 0.
abbrev pub show_status : Bool → List ℕ → ℕ
show_status requests input = if show_refused requests input then 2 else 0

-- The state of the command: whether a line was refused so far.
pub record ShowState : Type 0 where
  pub refused : Bool

-- What the command prints for the remaining input, and its exit status.
abbrev pub show_printing : Bool → ShowState → Printing
show_printing requests s = record {
  text = show_text requests;
  status = λ input. if s.refused || show_refused requests input then 2 else 0;
}
