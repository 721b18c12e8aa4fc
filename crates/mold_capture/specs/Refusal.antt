-- Why a datagram is refused.
use Rattle.std.specs.Prelude.{ℕ, List, Option, None, Some, Result, Ok, Err}
use Rattle.mold_wire.specs.Packet.{messages_of}
use Rattle.mold_wire.specs.Reading.{reading}
use Rattle.mold_wire.specs.declared.packet.Packet.{Packet}
use Rattle.mold_wire.specs.declared.error.DecodeError.{DecodeError}
use Rattle.mold_rule.specs.Held.{first_conflict}
use Rattle.mold_rule.specs.Refusals.{refusal_of}
use Rattle.mold_rule.specs.declared.refusal.Refusal.{Refusal}
use Rattle.mold_rule.specs.declared.refusal.Refusal.TheVariants.{Malformed, Memory}
use Rattle.mold_capture.specs.Seen.{Pairs, Seen, numbered, seen_of}

-- The lowest number whose carried message differs from the packet's message of that number.
abbrev pub conflict : Pairs → ℕ → List (List ℕ) → Option ℕ
conflict pairs number messages = first_conflict pairs (numbered number messages)

-- The first reason to refuse the packet, given what the earlier datagrams state.
abbrev pub packet_refusal : Seen → Packet → Option Refusal
packet_refusal seen packet =
    refusal_of seen.session seen.known seen.ended
    (conflict seen.pairs packet.sequence (messages_of packet.body)) packet

-- The first reason to refuse a decoded datagram, given what the earlier datagrams state. A datagram that
-- doesn't encode a packet is refused with its decode fault.
abbrev pub refusal_read : Seen → Result Packet DecodeError → Option Refusal
refusal_read seen (Ok packet) = packet_refusal seen packet
refusal_read seen (Err error) = Some (Malformed error)

-- The first reason to refuse a datagram, given what the earlier datagrams state.
abbrev pub refusal : Seen → List ℕ → Option Refusal
refusal seen bytes = refusal_read seen (reading bytes)

-- The first reason to refuse a datagram, if the datagrams of the list precede it.
abbrev pub reason : List (List ℕ) → List ℕ → Option Refusal
reason list bytes = refusal (seen_of list) bytes

-- The reason that an error reports, or none for `Memory`: a failed allocation is no reason.
abbrev pub told : Refusal → Option Refusal
told Memory = None
told other = Some other
