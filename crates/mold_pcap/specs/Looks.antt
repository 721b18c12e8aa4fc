-- The next part of a capture.
use Rattle.std.specs.Prelude.{ℕ, ◌+◌, ◌<◌, ◌≤◌, List, length, nat_lt, ◌==◌, if◌then◌else◌, ⊤}
use Rattle.mold_pcap.specs.Blocks.{block_at, section_at}
use Rattle.mold_pcap.specs.Classic.{head_by, record_at, variant_of}
use Rattle.mold_pcap.specs.Formats.{FormatState, moved_format, passed_format}
use Rattle.mold_pcap.specs.Numbers.{number}
use Rattle.mold_pcap.specs.declared.kind.Kind.{Kind}
use Rattle.mold_pcap.specs.declared.kind.Kind.TheVariants.{Start, Classic, Blocks, Spent}
use Rattle.mold_pcap.specs.declared.limits.TheConstants.{MAX_BLOCK}
use Rattle.mold_pcap.specs.declared.look.Look.{Look}
use Rattle.mold_pcap.specs.declared.look.Look.TheVariants.{Short, Refused, Ended, Passed, Other, Framed}
use Rattle.mold_pcap.specs.declared.order.Order.TheVariants.{Big}

-- The first part of a capture, by its first four bytes: a section header, or the head of a classic capture.
unfoldable pub start_at : ℕ → List ℕ → Look
start_at at bytes =
    if nat_lt (length bytes) 4 then Short 4
    else if number Big 4 bytes == 0x0a0d0d0a then section_at at bytes
    else head_by (variant_of (number Big 4 bytes)) bytes

-- The next part of a capture of this kind.
abbrev pub look_by : Kind → FormatState → List ℕ → Look
look_by Start format bytes = start_at format.at bytes
look_by (Classic link resolution) format bytes = record_at format.at format.order link resolution bytes
look_by Blocks format bytes = block_at format.at format.order format.interfaces bytes
look_by Spent format bytes = Ended

-- The next part of a capture, of which these bytes are there.
unfoldable pub look : FormatState → List ℕ → Look
look format bytes = look_by format.kind format bytes

-- The format after a part.
abbrev pub format_after : FormatState → Look → FormatState
format_after format (Short need) = format
format_after format (Refused why) = format
format_after format Ended = format
format_after format (Passed next used) = passed_format format next used
format_after format (Other total) = moved_format format total
format_after format (Framed place used) = moved_format format used

-- The length of a part.
abbrev pub used_by : Look → ℕ
used_by (Short need) = 0
used_by (Refused why) = 0
used_by Ended = 0
used_by (Passed next used) = used
used_by (Other total) = total
used_by (Framed place used) = used

-- A part needs more bytes than are there, or it has some of them. What it needs is bounded.
abbrev pub IsLook : Look → List ℕ → Type 0
IsLook (Short need) bytes = (length bytes < need) × (need ≤ MAX_BLOCK)
IsLook (Refused why) bytes = ⊤
IsLook Ended bytes = ⊤
IsLook (Passed next used) bytes = (0 < used) × (used ≤ length bytes)
IsLook (Other total) bytes = 12 ≤ total
IsLook (Framed place used) bytes =
    (0 < used) × (used ≤ length bytes) × (place.start + place.len ≤ used)
