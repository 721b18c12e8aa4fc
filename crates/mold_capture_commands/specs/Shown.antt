-- What is printed for a captured datagram.
use Rattle.std.specs.Prelude.{ℕ, ◌+◌, ◌/◌, ◌%◌, Bool, true, false, List, [], ◌∷◌, ◌++◌, map, codes, decimal}
use Rattle.std.specs.Prelude.{Option, None, Some, Result, Ok, Err}
use Rattle.mold_frame.specs.Carried.{Datagram}
use Rattle.mold_pcap.specs.declared.time.FrameTime.{FrameTime}
use Rattle.mold_text.specs.Line.{line_of}
use Rattle.mold_text.specs.Text.{fault_words, packet_text, refused_line}
use Rattle.mold_wire.specs.Reading.{reading}
use Rattle.mold_wire.specs.declared.error.DecodeError.{DecodeError}
use Rattle.mold_wire.specs.declared.packet.Packet.{Packet}
use Rattle.mold_capture_commands.specs.Address.{endpoint_text}
use Rattle.mold_capture_commands.specs.Filter.{Found, Passed, Skipped, Partial, Unread}

-- The decimal digit of the number for this power of 10.
abbrev pub digit_at : ℕ → ℕ → ℕ
digit_at number power = 48 + number / power % 10

-- A number below 1,000,000,000 in nine decimal digits.
abbrev pub nine_digits : ℕ → List ℕ
nine_digits number =
    map (digit_at number)
    (100000000 ∷ 10000000 ∷ 1000000 ∷ 100000 ∷ 10000 ∷ 1000 ∷ 100 ∷ 10 ∷ 1 ∷ [])

-- The nanoseconds of a time after a point.
abbrev pub fraction_text : ℕ → List ℕ
fraction_text nanoseconds = codes "." ++ nine_digits nanoseconds

-- The time of a frame in seconds, with nine digits after the point.
abbrev pub time_text : Option FrameTime → List ℕ
time_text None = codes "none"
time_text (Some time) = decimal time.seconds ++ fraction_text time.nanoseconds

-- The line before a datagram: its time, its source and its destination.
unfoldable pub origin_line : Option FrameTime → Datagram → List ℕ
origin_line time datagram = line_of (
    codes "at" ∷ time_text time ∷ codes "from" ∷ endpoint_text datagram.source datagram.source_port
    ∷ codes "to" ∷ endpoint_text datagram.target datagram.target_port ∷ [])

-- What is printed for a decoded payload: its packet, or the decode fault. `show` prints the same for a line.
abbrev pub payload_text : Result Packet DecodeError → List ℕ
payload_text (Ok packet) = packet_text packet
payload_text (Err fault) = refused_line (fault_words fault)

-- Whether the payload does not encode a packet.
abbrev pub payload_refused : Result Packet DecodeError → Bool
payload_refused (Ok packet) = false
payload_refused (Err fault) = true

-- What is printed for a datagram: the line before it, and its payload.
abbrev pub datagram_text : Option FrameTime → Datagram → List ℕ
datagram_text time datagram = origin_line time datagram ++ payload_text (reading datagram.payload)

-- What is printed for a frame with this time that counts as this: nothing unless it is a datagram that passes.
abbrev pub found_text : Option FrameTime → Found → List ℕ
found_text time (Passed datagram) = datagram_text time datagram
found_text time Skipped = []
found_text time Partial = []
found_text time Unread = []

-- Whether a frame that counts as this is a datagram that passes and is refused.
abbrev pub found_refused : Found → Bool
found_refused (Passed datagram) = payload_refused (reading datagram.payload)
found_refused Skipped = false
found_refused Partial = false
found_refused Unread = false
