-- The parts of a classic capture: its head and its records.
use Rattle.std.specs.Prelude.{ℕ, ◌+◌, ◌%◌, List, length, drop, Option, None, Some, nat_lt, ◌==◌, if◌then◌else◌}
use Rattle.mold_pcap.specs.Numbers.{number}
use Rattle.mold_pcap.specs.declared.fault.CaptureFault.TheVariants.{NoCapture, TooLong}
use Rattle.mold_pcap.specs.declared.limits.TheConstants.{MAX_CAPTURED}
use Rattle.mold_pcap.specs.declared.look.Look.{Look}
use Rattle.mold_pcap.specs.declared.look.Look.TheVariants.{Short, Refused, Passed, Framed}
use Rattle.mold_pcap.specs.declared.next.Next.TheVariants.{Head}
use Rattle.mold_pcap.specs.declared.place.Place.{Place}
use Rattle.mold_pcap.specs.declared.resolution.Resolution.{Resolution}
use Rattle.mold_pcap.specs.declared.resolution.Resolution.TheVariants.{Microseconds, Nanoseconds}
use Rattle.mold_pcap.specs.declared.stamp.Stamp.TheVariants.{Classic}
use Rattle.mold_pcap.specs.declared.order.Order.{Order}
use Rattle.mold_pcap.specs.declared.order.Order.TheVariants.{Big, Little}

-- What the magic of a classic capture states, read with its most significant byte first.
unfoldable pub variant_of : ℕ → Option (Order × Resolution)
variant_of magic =
    if magic == 0xa1b2c3d4 then Some (Big, Microseconds)
    else if magic == 0xa1b23c4d then Some (Big, Nanoseconds)
    else if magic == 0xd4c3b2a1 then Some (Little, Microseconds)
    else if magic == 0x4d3cb2a1 then Some (Little, Nanoseconds)
    else None

-- The head of a classic capture: the version in bytes 4 and 5, and the link type in the last four of its 24 bytes.
unfoldable pub head_at : Order → Resolution → List ℕ → Look
head_at order resolution bytes =
    if nat_lt (length bytes) 24 then Short 24
    else if number order 2 (drop 4 bytes) == 2
    then Passed (Head order (number order 4 (drop 20 bytes) % 65536) resolution) 24
    else Refused NoCapture

-- The head of a classic capture, if the magic is of one.
abbrev pub head_by : Option (Order × Resolution) → List ℕ → Look
head_by None bytes = Refused NoCapture
head_by (Some variant) bytes = head_at variant.0 variant.1 bytes

-- The place of a record's frame: its length is in bytes 8 to 11, and the frame follows the 16 bytes of the record's
-- head.
abbrev pub record_place : Order → ℕ → Resolution → List ℕ → Place
record_place order link resolution bytes = record {
  link = link;
  start = 16;
  len = number order 4 (drop 8 bytes);
  stamp = Classic (number order 4 bytes) (number order 4 (drop 4 bytes)) resolution;
}

-- A record with a frame, of which `there` bytes are there.
abbrev pub record_of : ℕ → Place → ℕ → Look
record_of at place there =
    if nat_lt MAX_CAPTURED place.len then Refused (TooLong at)
    else if nat_lt there (16 + place.len) then Short (16 + place.len)
    else Framed place (16 + place.len)

-- A record of a classic capture.
unfoldable pub record_at : ℕ → Order → ℕ → Resolution → List ℕ → Look
record_at at order link resolution bytes =
    if nat_lt (length bytes) 16 then Short 16
    else record_of at (record_place order link resolution bytes) (length bytes)
