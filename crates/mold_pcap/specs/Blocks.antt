-- The blocks of a pcapng capture.
use Rattle.std.specs.Prelude.{ℕ, ◌+◌, ◌-◌, ◌*◌, ◌%◌, ◌^◌, List, length, take, drop, slice_get, min, Option, None, Some}
use Rattle.std.specs.Prelude.{nat_lt, ◌==◌, if◌then◌else◌}
use Rattle.mold_pcap.specs.Numbers.{number}
use Rattle.mold_pcap.specs.Options.{clock_of}
use Rattle.mold_pcap.specs.declared.fault.CaptureFault.TheVariants.{BadBlock, NoInterface, TooLong}
use Rattle.mold_pcap.specs.declared.interface.Interface.{Interface}
use Rattle.mold_pcap.specs.declared.limits.TheConstants.{MAX_BLOCK}
use Rattle.mold_pcap.specs.declared.look.Look.{Look}
use Rattle.mold_pcap.specs.declared.look.Look.TheVariants.{Short, Refused, Other, Passed, Framed}
use Rattle.mold_pcap.specs.declared.next.Next.TheVariants.{Section, Described}
use Rattle.mold_pcap.specs.declared.place.Place.{Place}
use Rattle.mold_pcap.specs.declared.stamp.Stamp.TheVariants.{Absent, Units}
use Rattle.mold_pcap.specs.declared.order.Order.{Order}
use Rattle.mold_pcap.specs.declared.order.Order.TheVariants.{Big, Little}

-- Why a block of a kind that is read is refused, or how many bytes it needs. Its kind has at least `least` bytes. Its
-- total length is also in its last four bytes.
unfoldable pub wrong_block : ℕ → Order → ℕ → ℕ → List ℕ → Option Look
wrong_block at order least total bytes =
    if nat_lt total least then Some (Refused (BadBlock at))
    else if total % 4 == 0 then (
    if nat_lt MAX_BLOCK total then Some (Refused (TooLong at))
    else if nat_lt (length bytes) total then Some (Short total)
    else if number order 4 (drop (total - 4) bytes) == total then None
    else Some (Refused (BadBlock at)))
    else Some (Refused (BadBlock at))

-- What is wrong with a block, or otherwise what it is.
abbrev pub or_look : Option Look → Look → Look
or_look (Some wrong) right = wrong
or_look None right = right

-- A section header with this order of bytes.
unfoldable pub section_in : ℕ → Order → List ℕ → Look
section_in at order bytes =
    or_look (wrong_block at order 28 (number order 4 (drop 4 bytes)) bytes)
    (Passed (Section order) (number order 4 (drop 4 bytes)))

-- The order of bytes by the byte-order magic, read with its most significant byte first.
unfoldable pub order_of : ℕ → Option Order
order_of magic =
    if magic == 0x1a2b3c4d then Some Big else if magic == 0x4d3c2b1a then Some Little else None

-- A section header, if the magic is of one.
abbrev pub section_by : ℕ → Option Order → List ℕ → Look
section_by at None bytes = Refused (BadBlock at)
section_by at (Some order) bytes = section_in at order bytes

-- A section header: the byte-order magic is in bytes 8 to 11.
unfoldable pub section_at : ℕ → List ℕ → Look
section_at at bytes =
    if nat_lt (length bytes) 12 then Short 12
    else section_by at (order_of (number Big 4 (drop 8 bytes))) bytes

-- The interface of a description: the link type in bytes 8 and 9, the snapshot length in bytes 12 to 15, then options.
abbrev pub interface_in : Order → ℕ → List ℕ → Interface
interface_in order total bytes = record {
  link = number order 2 (drop 8 bytes);
  snaplen = number order 4 (drop 12 bytes);
  clock = clock_of order (record { tsresol = 6; tsoffset = 0 }) (take (total - 20) (drop 16 bytes));
}

-- An interface description.
unfoldable pub description_at : ℕ → Order → ℕ → List ℕ → Look
description_at at order total bytes =
    or_look (wrong_block at order 20 total bytes) (Passed (Described (interface_in order total bytes)) total)

-- A packet block with the frame at this place. The total length follows the frame.
abbrev pub framed_in : ℕ → ℕ → Place → Look
framed_in at total place =
    if nat_lt total (place.start + place.len + 4) then Refused (BadBlock at) else Framed place total

-- The units of time of an enhanced packet: the upper half is first.
abbrev pub units_in : Order → List ℕ → ℕ
units_in order bytes = number order 4 (drop 12 bytes) * 2 ^ 32 + number order 4 (drop 16 bytes)

-- The place of an enhanced packet's frame: the captured length is in bytes 20 to 23, and the frame begins at byte 28.
abbrev pub enhanced_place : Order → List ℕ → Interface → Place
enhanced_place order bytes interface = record {
  link = interface.link;
  start = 28;
  len = number order 4 (drop 20 bytes);
  stamp = Units (units_in order bytes) interface.clock;
}

-- An enhanced packet of this interface.
abbrev pub enhanced_of : ℕ → Order → ℕ → List ℕ → Option Interface → Look
enhanced_of at order total bytes None = Refused (NoInterface at)
enhanced_of at order total bytes (Some interface) = framed_in at total (enhanced_place order bytes interface)

-- An enhanced packet: the number of its interface is in bytes 8 to 11.
unfoldable pub enhanced_at : ℕ → Order → List Interface → ℕ → List ℕ → Look
enhanced_at at order interfaces total bytes =
    or_look (wrong_block at order 32 total bytes)
    (enhanced_of at order total bytes (slice_get interfaces (number order 4 (drop 8 bytes))))

-- The captured length of a frame of `len` bytes. The snapshot length 0 states that frames are not limited.
abbrev pub snapped : ℕ → ℕ → ℕ
snapped snaplen len = if snaplen == 0 then len else min len snaplen

-- The place of a simple packet's frame, whose original length is `len`. It begins at byte 12.
abbrev pub simple_place : ℕ → Interface → Place
simple_place len interface =
    record { link = interface.link; start = 12; len = snapped interface.snaplen len; stamp = Absent }

-- A simple packet of this interface: the original length is in bytes 8 to 11.
abbrev pub simple_of : ℕ → Order → ℕ → List ℕ → Option Interface → Look
simple_of at order total bytes None = Refused (NoInterface at)
simple_of at order total bytes (Some interface) =
    framed_in at total (simple_place (number order 4 (drop 8 bytes)) interface)

-- A simple packet: it is of the section's first interface.
unfoldable pub simple_at : ℕ → Order → List Interface → ℕ → List ℕ → Look
simple_at at order interfaces total bytes =
    or_look (wrong_block at order 16 total bytes) (simple_of at order total bytes (slice_get interfaces 0))

-- A block of another kind.
unfoldable pub other_at : ℕ → ℕ → Look
other_at at total =
    if nat_lt total 12 then Refused (BadBlock at) else if total % 4 == 0 then Other total else Refused (BadBlock at)

-- A block of this kind and total length.
unfoldable pub kind_at : ℕ → Order → List Interface → ℕ → List ℕ → Look
kind_at at order interfaces kind bytes =
    if kind == 0x0a0d0d0a then section_at at bytes
    else if kind == 1 then description_at at order (number order 4 (drop 4 bytes)) bytes
    else if kind == 3 then simple_at at order interfaces (number order 4 (drop 4 bytes)) bytes
    else if kind == 6 then enhanced_at at order interfaces (number order 4 (drop 4 bytes)) bytes
    else other_at at (number order 4 (drop 4 bytes))

-- A block: its kind is in the first four bytes, and its total length in the next four.
unfoldable pub block_at : ℕ → Order → List Interface → List ℕ → Look
block_at at order interfaces bytes =
    if nat_lt (length bytes) 8 then Short 8 else kind_at at order interfaces (number order 4 bytes) bytes
